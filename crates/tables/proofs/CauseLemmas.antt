-- Why a statement that makes the tables fails.
use Rattle.std.proofs.Common.{◌≡◌, ◌<◌, ◌≤◌, ◌/◌, suc, take, drop, slice_get, ◌⊎◌, ◌||◌, ◌+◌, ◌*◌, ◌^◌, ℕ, Bool, true}
use Rattle.std.proofs.Common.{false, List, [], ◌∷◌, length, Option}
use Rattle.std.proofs.Common.{Some, None, Ok, Err, Result, inl, inr, refl, sym, ap, subst, subst₂, ◌∙◌, codes, arith}
use Rattle.std.proofs.Common.{IsTrue, true≢false, nat_lt, ltb-true}
use Rattle.std.specs.Prelude.{IsSome}
use Rattle.std.specs.List.{list_all, AllByRecursion}
use Rattle.std.specs.Str.{IsUtf8}
use Rattle.std.proofs.lemmas.Str.{IsUtf8-from_ascii}
use Rattle.std.proofs.lemmas.Bool.{cases_Bool}
use Rattle.sqlite_trees.specs.declared.error.StoreError.{StoreError}
use Rattle.sqlite_trees.specs.declared.error.StoreError.TheVariants.{OutOfMemory, Io, Corrupt, Full, Broken, Unstorable}
use Rattle.sqlite_resolve.specs.declared.error.CompileError.{CompileError}
use Rattle.sqlite_rules.specs.Lists.{Has}
use Rattle.sqlite_schema.specs.Rules.{table_reals, index_reals}
use Rattle.sqlite_schema.specs.declared.schema.Index.{Index}
use Rattle.sqlite_catalog.specs.Listing.{is_formed, is_fit}
use Rattle.sqlite_catalog.specs.Calls.{RefusesTable}
use Rattle.sqlite_catalog.specs.declared.error.Refusal as alter
use Rattle.sqlite_catalog.specs.declared.error.Refusal.TheVariants as why
use Rattle.sqlite.specs.declared.types.Value.TheVariants.{Text}
use Rattle.sqlite.specs.Table.{Table}
use Rattle.sqlite.specs.Schema.{Schema}
use Rattle.sqlite_catalog.specs.Change.{created, next_tree, automatics, is_used, is_reserved}
use Rattle.sqlite.specs.Compile.{table_defined_by}
use Rattle.sqlite.specs.Command.{Command}
use Rattle.sqlite.specs.Command.TheVariants.{Insert, CreateTable}
use Rattle.tables.proofs.AsciiLemmas.{ascii_by}
use Rattle.tables.proofs.InsertLemmas.{enforced}
use Rattle.sqlite.specs.Effect.{Database, RefusesSource, is_query, value_rows}
use Rattle.sqlite.specs.Does.{Does, MakesTable, MakesSequence, lacks_sequence}
use Rattle.sqlite.specs.Rows.{Then, stamped}
use Rattle.sqlite.specs.declared.error.Error.{Error}
use Rattle.sqlite.specs.Clock.{timed}
use Rattle.sqlite.specs.Listing.{understood}
use Rattle.sqlite.specs.State.{State, Fails, HasCause, IsNotRun, IsMisplaced, IsUnchanged, RunsCommand, ExecutesIn}
use Rattle.sqlite.specs.State.{Escapes, EndsScope, Survives, shows_rows, text_of, mode_of, store_error}
use Rattle.sqlite.specs.Held.{Held, state}
use Rattle.sqlite.specs.Batch.{first_len, Step, RunInTurn}
use Rattle.sqlite.specs.Order.{Row}
use Rattle.sqlite.specs.Term.{Term}
use Rattle.sqlite.specs.Tree.{Trees}
use Rattle.sqlite.specs.Source.TheVariants.{Values}
use Rattle.sqlite.specs.Cast.{cast_row}
use Rattle.sqlite.specs.Rowids.TheVariants.{Chosen}
use Rattle.sqlite.specs.Edit.{with_rowid}
use Rattle.sqlite_rules.specs.Action.{works}
use Rattle.sqlite_schema.specs.declared.schema.Keys.TheVariants.{Enforced}
use Rattle.sqlite_trees.specs.declared.store.Store.{Ghosts}
use Rattle.tables.specs.Schema.{store_schema}
use Rattle.tables.specs.Causes.{IsExcused}
pub use Rattle.tables.specs.Walks.{IsAlone}
use Rattle.tables.proofs.PutLemmas.{IsPuttable, insert_stops}
use Rattle.sqlite.proofs.Callers.{IsPlain, command_of, statement_of}

-- the error of a failed store is excused, if it would be for a value that cannot be stored
pub fail_excused : (old new : State) (big : Type 0) (e : Error) → (big → IsExcused old new e) → Fails old new big e
    → IsExcused old new e
fail_excused old new big e small h = go h.0 h.1 h.2
  where
    go : (cause : StoreError) → e ≡ store_error cause → HasCause old new big cause → IsExcused old new e
    go OutOfMemory is c = inl is
    go Io is c = inr (inr (inr c))
    go Corrupt is c = inr (inr (inr c))
    go Full is c = inr (inr (inr c))
    go Broken is c = inr (inl c)
    go Unstorable is c = small c

module _ (sql : List ℕ) (old new : State) (schema : Schema) (has : old.now.schema ≡ schema) (command : Command)
    (is : command_of (understood schema sql) ≡ command) (plain : IsPlain (understood schema sql))
    (alone : IsAlone sql (understood schema sql)) where
  -- what is not run is so for want of memory, or was hindered
  pub unrun : (e : Error) → IsNotRun old new sql [] e → IsExcused old new e
  unfolding IsNotRun
  unrun e (inr fails) = fail_excused old new ⊥ e (λ none. absurd none) fails
  unrun e (inl none) = elim none.0 [
    | inl bad ↦ absurd (subst IsPlain (ap (λ s. understood s sql) (sym has) ∙ bad.1) plain)
    | inr odd ↦ (
        let known = ap (λ s. understood s sql) (sym has) ∙ odd.1 in
        let whole = subst (IsAlone sql) known alone in
        let bare = subst IsPlain known plain in
        absurd (elim odd.2 [
          | inl more ↦ more.0 whole.0
          | inr (inl uneven) ↦ uneven.0 (sym (ap length whole.1))
          | inr (inr timeless) ↦ timeless.0 bare.1
        ]))
  ]

  abbrev Stopped : Command → List ℕ → Error → Type 0
  Stopped k text e =
      (IsMisplaced old k e ⊎ Does old.step_limit (mode_of old) [] old.now text None k (Err (Some e)))
      ⊎ Fails old new (Does old.step_limit (mode_of old) [] old.now text None k (Err None)) e

  -- a statement of a batch that fails, or is refused
  pub stopped_as : is_query command ≡ false → (e : Error) → ExecutesIn true sql [] old new (Err e)
      → IsExcused old new e ⊎ Stopped command (statement_of sql (understood schema sql)) e
  unfolding ExecutesIn
  stopped_as quiet e (inl h) = inl (unrun e h)
  stopped_as quiet e (inr h) =
      let known = sym h.1.is ∙ ap (λ s. understood s sql) has in
      let bare = subst IsPlain (sym known) plain in
      let same = ap command_of known ∙ is in
      let ran : RunsCommand old new sql h.0 (timed [] h.0.formats h.1.now) (Err e) =
      elim (cases_Bool (shows_rows true h.0)) [
        | inl shows ↦ absurd (let query = or_false (is_query h.0.command) shows in
            true≢false (sym query ∙ (ap is_query same ∙ quiet)))
        | inr runs ↦ rw runs at h.2
      ] in
      inr (subst₂ (λ k t. Stopped k t e) same (ap (statement_of sql) known)
      (lighter h.0.command (text_of sql h.0) _ (rw (bare.0, bare.1) at ran)))
    where
      or_false : (b : Bool) → (b || false) ≡ true → b ≡ true
      or_false true e = refl
      or_false false e = e

      lighter : (k : Command) (text : List ℕ) (Changes : Type 0)
          → ((IsMisplaced old k e ⊎ (Changes × Does old.step_limit (mode_of old) [] old.now text None k (Err (Some e))))
          × IsUnchanged old new)
          ⊎ Fails old new (Does old.step_limit (mode_of old) [] old.now text None k (Err None)) e → Stopped k text e
      lighter k text Changes (inl (inl misplaced, same)) = inl (inl misplaced)
      lighter k text Changes (inl (inr refused, same)) = inl (inr refused.1)
      lighter k text Changes (inr fails) = inr fails

-- ---- a table is made

abbrev pub is_ascii : List ℕ → Bool
is_ascii t = list_all (λ b. nat_lt b 128) t

is_text : (t : List ℕ) → is_ascii t ≡ true → IsUtf8 t
is_text t h = IsUtf8-from_ascii t (ascii_by (λ b. nat_lt b 128) (λ b. ltb-true b 128) t h)

-- nothing keeps the text from making the table
pub record IsMakeable (schema : Schema) (text : List ℕ) (table : Table) : Type 0 where
  pub defined : table_defined_by text ≡ Ok table
  pub ascii : is_ascii text ≡ true
  pub short : 2 * length table.name + length text + 200 < 10 ^ 9
  pub free : is_used schema table.name ≡ false
  pub indexes_free : AllByRecursion (λ i. is_used schema i.name ≡ false) (automatics table 0 0 table.uniques)
  pub named : is_ascii table.name ≡ true
  pub unreserved : is_reserved table.name ≡ false
  pub few : next_tree schema + length table.uniques < 65536
  pub reals : table_reals table < 2 ^ 64
  pub key_reals : AllByRecursion (λ key. index_reals (table_reals table) key < 2 ^ 64) table.uniques
  pub formed : is_formed table ≡ true
  pub fit : is_fit (Text (codes "table")) (Text table.name) (Text table.name) (Text text) ≡ true

all_of : {X : Type 0} (P : X → Type 0) (xs : List X) (x : X) → AllByRecursion P xs → Has xs x → P x
all_of P [] x all has = absurd has
all_of P (y ∷ ys) x all (inl same) = subst P (sym same) all.0
all_of P (y ∷ ys) x all (inr later) = all_of P ys x all.1 later

module _ (schema : Schema) (text : List ℕ) (table : Table) (it : IsMakeable schema text table) where
  same_table : (other : Table) → table_defined_by text ≡ Ok other → other ≡ table
  same_table other is = let e : ◌≡◌ {A = Result Table CompileError} (Ok other) (Ok table) = sym is ∙ it.defined in cc

  -- if nothing keeps the text from making the table, it is not refused
  not_refused : (reason : alter.Refusal) → RefusesTable schema text reason → ⊥
  not_refused (why.Invalid e) is = let d : ◌≡◌ {A = Result Table CompileError} (Err e) (Ok table) = sym is
      ∙ it.defined in absurd (cc)
  not_refused why.NameTaken h =
      let t = same_table h.0 h.1 in
      elim h.2 [
        | inl used ↦ true≢false (sym used ∙ (ap (λ (x : Table). is_used schema x.name) t ∙ it.free))
        | inr index ↦ true≢false
            (sym index.2 ∙ all_of (λ (i : Index). is_used schema i.name ≡ false) _ index.0 it.indexes_free
            (subst (λ (x : Table). Has (automatics x 0 0 x.uniques) index.0) t index.1))
      ]
  not_refused why.BadName h =
      let t = same_table h.0 h.1 in
      elim h.2 [
        | inl odd ↦ odd (subst (λ (x : Table). IsUtf8 x.name) (sym t) (is_text table.name it.named))
        | inr own ↦ true≢false (sym own.0 ∙ (ap (λ (x : Table). is_reserved x.name) t ∙ it.unreserved))
      ]
  not_refused why.BadKey h = true≢false (sym it.formed ∙ (ap is_formed (sym (same_table h.0 h.1)) ∙ h.2))
  not_refused why.BadText h =
      let t = same_table h.0 h.1 in
      true≢false (sym it.fit ∙ (ap
      (λ (x : Table). is_fit (Text (codes "table")) (Text x.name) (Text x.name) (Text text)) (sym t) ∙ h.2))
  not_refused why.TooBig h =
      let t = same_table h.0 h.1 in
      elim h.2 [
        | inl many ↦ (let n = subst (λ (x : Table). 65536 ≤ next_tree schema + length x.uniques) t many in let few =
            it.few in omega (arith, n, few))
        | inr (inl reals) ↦ (let n = subst (λ (x : Table). 2 ^ 64 ≤ table_reals x) t reals in let few = it.reals in
            omega (arith, n, few))
        | inr (inr key) ↦ (
            let n = subst (λ (x : Table). 2 ^ 64 ≤ index_reals (table_reals x) key.0) t key.2 in
            let few = all_of (λ k. index_reals (table_reals table) k < 2 ^ 64) table.uniques key.0 it.key_reals
            (subst (λ (x : Table). Has x.uniques key.0) t key.1) in
            omega (arith, n, few))
      ]
  not_refused (why.Violates rule) h = h

  always_makes : (db : Database) → db.schema ≡ schema → (stop : Option Error) → MakesTable text db (Err stop) → ⊥
  always_makes db has None h = let t = same_table h.0 h.1 in let n =
      subst (λ (x : Table). 10 ^ 9 ≤ 2 * length x.name + length text + 200) t h.2 in let few = it.short in
      omega (arith, n, few)
  always_makes db has (Some e) (inl odd) = odd.0 (is_text text it.ascii)
  always_makes db has (Some e) (inr refused) =
      not_refused refused.0 (subst (λ s. RefusesTable s text refused.0) has refused.1)

  -- no sequence is wanted
  module _ (whole : lacks_sequence (created schema table) ≡ false) where
    sequenced : (after : Database) → after.schema ≡ created schema table → (stop : Option Error)
        → MakesSequence after (Err stop) → ⊥
    sequenced after becomes stop h = let plain : lacks_sequence after.schema ≡ false = ap lacks_sequence becomes
        ∙ whole in let e = rw plain at h in absurd (cc)

    pub makes_whole : (db : Database) → db.schema ≡ schema → (stop : Option Error)
        → Then (MakesTable text db) MakesSequence (Err stop) → ⊥
    makes_whole db has stop (inl first) = always_makes db has first.0 first.1
    makes_whole db has stop (inr later) =
        let made = later.1 in
        let becomes : later.0.schema ≡ created schema table = made.is
        ∙ (ap (λ s. created s made.table) has ∙ ap (created schema) (same_table made.table made.defined)) in
        sequenced later.0 becomes stop later.2

-- the command makes a table or inserts, and neither begins nor ends a transaction
abbrev pub DoesWork : Command → Type 0
DoesWork CreateTable = Unit {0}
DoesWork (Insert at from) = Unit {0}
DoesWork _ = ⊥

well_placed : (s : State) (command : Command) (e : Error) → DoesWork command → IsMisplaced s command e → ⊥
well_placed s command e work (inl (why, inl (is, inside))) = subst DoesWork is work
well_placed s command e work (inl (why, inr (inl is, outside))) = subst DoesWork is work
well_placed s command e work (inl (why, inr (inr is, outside))) = subst DoesWork is work
well_placed s command e work (inr (why, name, inl is, none)) = subst DoesWork is work
well_placed s command e work (inr (why, name, inr is, none)) = subst DoesWork is work

well_behaved : (s : State) (command : Command) → DoesWork command → Escapes 0 s command → ⊥
well_behaved s command work (inl (inl is)) = subst DoesWork is work
well_behaved s command work (inl (inr is)) = subst DoesWork is work
well_behaved s command work (inr (name, inl is, held)) = subst DoesWork is work
well_behaved s command work (inr (name, inr is, held)) = subst DoesWork is work

module _ (schema : Schema) (sql text : List ℕ) (table : Table) (is : command_of (understood schema sql) ≡ CreateTable)
    (plain : IsPlain (understood schema sql)) (alone : IsAlone sql (understood schema sql))
    (reads : statement_of sql (understood schema sql) ≡ text)
    (it : IsMakeable schema text table) (whole : lacks_sequence (created schema table) ≡ false) where
  never_stops : (limit : Option ℕ) (db : Database) → db.schema ≡ schema → (stop : Option Error)
      → Does limit enforced [] db text None CreateTable (Err stop) → ⊥
  never_stops limit db has stop (inl stopped) = makes_whole schema text table it whole db has stopped.0 stopped.1
  never_stops limit db has stop (inr made) = let e = made.2 in absurd (cc)

  pub make_excused : (old new : State) (e : Error) → old.now.schema ≡ schema → ExecutesIn true sql [] old new (Err e)
      → IsExcused old new e
  make_excused old new e has h = elim (stopped_as sql old new schema has CreateTable is plain alone refl e h) [
    | inl excused ↦ excused
    | inr (inl (inl misplaced)) ↦ absurd (well_placed old CreateTable e tt misplaced)
    | inr (inl (inr refused)) ↦
        absurd (never_stops old.step_limit old.now has (Some e)
        (subst (λ t. Does old.step_limit enforced [] old.now t None CreateTable (Err (Some e))) reads refused))
    | inr (inr fails) ↦ fail_excused old new _ e
        (λ big. absurd (never_stops old.step_limit old.now has None
        (subst (λ t. Does old.step_limit enforced [] old.now t None CreateTable (Err None)) reads big))) fails
  ]

-- ---- a row is put in

module _ (sql : List ℕ) (at : ℕ) (table : Table) (listed : slice_get store_schema.tables at ≡ Some table)
    (uncounted : table.is_counted ≡ false)
    (terms : List Term) (width : ℕ) (source : Row)
    (single : value_rows (stamped table []) width (length terms / width) terms ≡ source ∷ [])
    (idle : (row : Row) → works store_schema Enforced 0 table.tree [] (row ∷ []) ≡ [])
    (given : (limit : Option ℕ) (db : Database) (e : Error)
    → RefusesSource limit db (stamped table []) (Values terms width) e → IsSome limit)
    (is : command_of (understood store_schema sql) ≡ Insert at (Values terms width))
    (plain : IsPlain (understood store_schema sql)) (alone : IsAlone sql (understood store_schema sql)) where
  -- an INSERT of one row that may be put in fails only with an error that is excused
  pub put_excused : (old new : State) (e : Error) → old.now.schema ≡ store_schema → (row : Row)
      → with_rowid Chosen (old.now.trees table.tree) (cast_row table (drop 0 source)) ≡ row
      → IsPuttable table old.now.trees row → ExecutesIn true sql [] old new (Err e) → IsExcused old new e
  put_excused old new e has row casts it h =
      let limited =
      insert_stops old.step_limit table uncounted terms width source single idle (given old.step_limit) at listed
      old.now row casts it has (statement_of sql (understood store_schema sql)) in
      elim (stopped_as sql old new store_schema has (Insert at (Values terms width)) is plain alone refl e h) [
        | inl excused ↦ excused
        | inr (inl (inl misplaced)) ↦ absurd (well_placed old (Insert at (Values terms width)) e tt misplaced)
        | inr (inl (inr refused)) ↦ inr (inr (inl (limited (Some e) refused)))
        | inr (inr fails) ↦ fail_excused old new _ e (λ big. inr (inr (inl (limited None big)))) fails
      ]

-- ---- one after another

-- the connection was open there, and is on its way from the start
pub record IsOnItsWay (start mid : State) : Type 0 where
  pub is_open : IsTrue mid.is_open
  pub limit : mid.step_limit ≡ start.step_limit
  pub counts : start.faults ≤ mid.faults

pub excused_since : (start mid new : State) (e : Error) → IsOnItsWay start mid → IsExcused mid new e
    → IsExcused start new e
excused_since start mid new e way (inl memory) = inl memory
excused_since start mid new e way (inr (inl shut)) = absurd (true≢false (sym way.is_open ∙ shut))
excused_since start mid new e way (inr (inr (inl limited))) = inr (inr (inl (subst IsSome way.limit limited)))
excused_since start mid new e way (inr (inr (inr faults))) = let up = way.counts in
    inr (inr (inr (omega (arith, up, faults))))

pub on_its_way : (start next : State) (Commits : Trees → Type 0) → Survives start next Commits → IsTrue next.is_open
    → IsOnItsWay start next
on_its_way start next Commits survives opened =
    record { is_open = opened; limit = survives.limit; counts = survives.counts }

pub further : (start mid next : State) (Commits : Trees → Type 0) → IsOnItsWay start mid → Survives mid next Commits
    → IsTrue next.is_open → IsOnItsWay start next
further start mid next Commits way survives opened =
    record { is_open = opened; limit = survives.limit ∙ way.limit; counts = omega (arith, way.counts, survives.counts) }

-- a statement of a batch within a transaction fails, or is done and others follow
module _ {S : Type 0} (g : Ghosts S) (old new : Held S) (e : Error) where
  pub turn_or_stop : (text first rest : List ℕ) → 0 < length text → take (first_len text) text ≡ first
      → drop (first_len text) text ≡ rest
      → IsTrue old.in_transaction → (schema : Schema) → (state g old).now.schema ≡ schema → (command : Command)
      → command_of (understood schema first) ≡ command → DoesWork command → (most : ℕ)
      → RunInTurn g (Some 0) (suc most) text old new (Err e)
      → ExecutesIn true first [] (state g old) (state g new) (Err e)
      ⊎ ((mid : Held S) × (count : ℕ) × Step g first old mid (Ok count) × RunInTurn g (Some 0) most rest mid new (Err e)
      × IsTrue mid.in_transaction)
  unfolding EndsScope
  turn_or_stop [] first rest long a b inside schema has command is work most h = absurd (omega arith)
  turn_or_stop (c ∷ more) first rest long a b inside schema has command is work most (inr went_on) =
      inr (
        went_on.0,
        went_on.1,
        subst (λ t. Step g t old went_on.0 (Ok went_on.1)) a went_on.2,
        subst (λ t. RunInTurn g (Some 0) most t went_on.0 new (Err e)) b went_on.3,
        went_on.4.0,
      )
  turn_or_stop (c ∷ more) first rest long a b inside schema has command is work most (inl (other, same, stops)) =
      let it : other ≡ e = cc in
      elim stops [
        | inl step ↦ inl (subst₂ (λ t x. ExecutesIn true t [] (state g old) (state g new) (Err x)) a it step.runs)
        | inr (why, inl (ends, stays)) ↦ absurd (never_ends (subst (λ t. EndsScope 0 t [] (state g old)) a ends))
        | inr (why, inr (outside, stays)) ↦ absurd (true≢false (sym inside ∙ outside))
      ]
    where
      never_ends : EndsScope 0 first [] (state g old) → ⊥
      never_ends (k, statement, escapes) =
          let same : k.command ≡ command = ap command_of (sym statement.is ∙ ap (λ s. understood s first) has) ∙ is in
          well_behaved (state g old) command work (subst (Escapes 0 (state g old)) same escapes)
