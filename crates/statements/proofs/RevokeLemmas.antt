-- What the DELETE of keys does.
use Rattle.std.proofs.Common.{◌≡◌, ◌≢◌, ◌∙◌, ℕ, ℤ, Bool, true, false, not, cond, List, [], ◌∷◌, Option, Some, None, Ok}
use Rattle.std.proofs.Common.{inl, inr, refl, sym, ap, subst, true≢false, arith, is_eq}
use Rattle.std.specs.Prelude.{bytes_eq, ◌&&◌}
use Rattle.std.specs.Cmp.{both_ways}
use Rattle.std.specs.List.{AllByRecursion}
use Rattle.std.specs.FinMap as map
use Rattle.std.specs.Ordering.{eq_by_cmp}
use Rattle.std.proofs.lemmas.Bool.{false_from_ne_true}
use Rattle.std.proofs.lemmas.Cmp.{tied_itself}
use Rattle.std.proofs.lemmas.Map.Text.{is_eq-slice_cmp}
use Rattle.sqlite.specs.declared.types.Value.{Value}
use Rattle.sqlite.specs.declared.types.Value.TheVariants.{Int, Text}
use Rattle.sqlite.specs.Collation.TheVariants.{Binary}
use Rattle.sqlite.specs.Order.{Row, column}
use Rattle.sqlite.specs.Term.{Term, col}
use Rattle.sqlite.specs.Tree.{Trees, rowid}
use Rattle.sqlite.specs.Effect.{Database}
use Rattle.sqlite.specs.Edit.{edit_of, without_all}
use Rattle.sqlite.specs.Command.TheVariants.{Delete}
use Rattle.sqlite.specs.Does.{Tally, Does, OnRows}
use Rattle.sqlite.specs.Rows.{Written, Task}
use Rattle.sqlite.specs.State.{State}
use Rattle.sqlite.proofs.Callers.{one_step}
use Rattle.sqlite_trees.specs.Tree.{IsAscending, has_rowid, without_rowid}
use Rattle.sqlite_trees.proofs.ListLemmas.{ascending-filter}
use Rattle.sqlite_rules.specs.declared.error.Rowids.TheVariants.{Given}
use Rattle.sqlite_rules.specs.Edit.{id_in}
use Rattle.sqlite_rules.specs.Calls.{ids_of}
use Rattle.sqlite_rules.specs.Lists.{Has}
use Rattle.sqlite_rules.proofs.ListLemmas.{has_filtered, has_kept}
use Rattle.sqlite_rules.proofs.ProbeLemmas.{has_mapped, mapped_has}
use Rattle.sqlite_rules.proofs.TableLemmas.{without_all_has}
use Rattle.sqlite_schema.specs.Rules.{equal}
use Rattle.sqlite_schema.specs.declared.program.Program.{Program}
use Rattle.sqlite_schema.specs.declared.schema.Keys.TheVariants.{Enforced}
use Rattle.sqlite_value.proofs.OrderLemmas.{value_cmp_total}
use Rattle.sqlite_value.specs.Order.{value_cmp}
use Rattle.world.specs.declared.entry.Holder.{Holder}
use Rattle.world.specs.declared.registry.RegistryReply.TheVariants.{Done, NoTeam, NoKey}
use Rattle.world.specs.World.{World, text_cmp, is_held_on, without_key, without_keys_on}
use Rattle.world.specs.Registry.{after_key_revoke, after_keys_revoke}
use Rattle.world.proofs.Orders.{texts_total, text_same, text_self}
use Rattle.world.proofs.Sound.{key_left, key_left_at}
use Rattle.tables.specs.Schema.{store_schema, access_table}
use Rattle.tables.specs.Means.{Holds, IsAccess, IsNumbered, Tabulates}
use Rattle.statements.specs.Views.{with_key_revoked, with_keys_revoked}
use Rattle.statements.specs.Lookup.{lookup, passes, AreFound}
use Rattle.tables.proofs.ValueLemmas.{equals_text, equals_itself}
use Rattle.tables.proofs.OneWorld.{texts_same}
use Rattle.tables.proofs.SoundLemmas.{same_int}
use Rattle.statements.proofs.LookupLemmas.{all_found}
use Rattle.statements.proofs.CopyKeyLemmas.{by_shelf}
use Rattle.statements.proofs.KeyLemmas.{by_token}
use Rattle.tables.proofs.InsertLemmas.{went, same_value, enforced}
use Rattle.statements.proofs.WriteLemmas.{Rewrites}

-- the keys that a DELETE deletes are those whose rows pass its filter
abbrev pub keys_by : List Term → Program
keys_by filter = record { lets = []; body = lookup 4 filter (col 1 0 ∷ []) }

-- the rows that pass are deleted by their numbers, and each other table is as it was
record Removed (db after : Trees) (filter : List Term) (params : Row) : Type 0 where
  out : List Row
  found : AreFound (db 4) filter (col 1 0 ∷ []) params out
  rows : after 4 ≡ without_all (db 4) (ids_of out)
  tables : AllByRecursion (λ t. t.tree ≢ 4 → after t.tree ≡ db t.tree) store_schema.tables

module _ (limit : Option ℕ) (filter : List Term) (params : Row) where
  abbrev task : Task
  task = record { limit = limit; keys = Enforced; schema = store_schema; table = access_table; params = params }

  -- a DELETE of keys that ends well deletes the rows that pass, and keeps the schema
  concluded : (db : Trees) (tally : Tally) (after : Database)
      → OnRows task enforced None (Delete 2 (keys_by filter)) db (Ok (tally, after))
      → (after.schema ≡ store_schema) × Removed db after.trees filter params
  concluded db tally after h =
      let done = went h in
      let now = ap (λ (p : Tally × Database). p.1) (same_value (went (went done.2).2).2) in
      let read = went done.1 in
      let wrote = went read.2 in
      let trees : done.0.trees ≡ wrote.0 = ap (λ (it : Written). it.trees) (same_value wrote.2) in
      let applies = one_step store_schema Enforced db wrote.0 (edit_of db access_table (ids_of read.0) Given 0 []) refl
      wrote.1 in
      let same : after.trees ≡ wrote.0 = ap (λ (d : Database). d.trees) now ∙ trees in (
        ap (λ (d : Database). d.schema) now,
        subst (λ t. Removed db t filter params) (sym same) (record {
          out = read.0;
          found = all_found params (record { schema = store_schema; trees = db }) 4 filter
              (col 1 0 ∷ []) [] (λ _. refl) read.0 read.1;
          rows = applies.rows;
          tables = applies.tables;
        }),
      )

  removed : (db : Database) (text : List ℕ) (tally : Tally) (after : Database) → db.schema ≡ store_schema
      → Does limit enforced params db text None (Delete 2 (keys_by filter)) (Ok (tally, after))
      → (after.schema ≡ store_schema) × Removed db.trees after.trees filter params
  removed db text tally after has h =
      let does = subst (λ s. Does limit enforced params (record db { schema = s }) text None
      (Delete 2 (keys_by filter)) (Ok (tally, after))) has h in
      concluded db.trees tally after does

-- ---- rows that are deleted

left_if : (ids : List ℤ) (rows : List Row) (x : Row) → Has rows x → ((id : ℤ) → Has ids id → has_rowid id x ≡ false)
    → Has (without_all rows ids) x
left_if [] rows x h lacks = h
left_if (id ∷ ids) rows x h lacks =
    left_if ids (without_rowid id rows) x (has_kept (λ y. not (has_rowid id y)) rows x h (ap not (lacks id (inl refl))))
    (λ other k. lacks other (inr k))

not_left : (ids : List ℤ) (rows : List Row) (x : Row) (id : ℤ) → Has ids id → has_rowid id x ≡ true
    → Has (without_all rows ids) x → ⊥
not_left [] rows x id none is h = none
not_left (i ∷ ids) rows x id (inl same) is h =
    let left = has_filtered (λ y. not (has_rowid i y)) rows x (without_all_has ids (without_rowid i rows) x h) in
    true≢false (sym left.1 ∙ ap not (ap (λ j. has_rowid j x) (sym same) ∙ is))
not_left (i ∷ ids) rows x id (inr later) is h = not_left ids (without_rowid i rows) x id later is h

-- a relation of each two rows still holds of the rows that are left
ascending_left : (P : Row → Row → Type 0) (ids : List ℤ) (rows : List Row) → IsAscending P rows
    → IsAscending P (without_all rows ids)
ascending_left P [] rows up = up
ascending_left P (id ∷ ids) rows up =
    ascending_left P ids (without_rowid id rows) (ascending-filter P (λ y. not (has_rowid id y)) rows up)

-- ---- the world without the keys

-- `next` is `w` without some keys, and a row passes the filter if its key is one of them
pub record TakesAway (filter : List Term) (params : Row) (w next : World) : Type 0 where
  pub is_gone : List ℕ × Holder → Bool
  pub shelves : next.shelves ≡ w.shelves
  pub entries : next.entries ≡ w.entries
  -- the keys of `next`
  pub was : (it : List ℕ × Holder) → map.get next.keys it.0 ≡ Some it.1
      → (map.get w.keys it.0 ≡ Some it.1) × (is_gone it ≡ false)
  pub stays : (it : List ℕ × Holder) → map.get w.keys it.0 ≡ Some it.1 → is_gone it ≡ false
      → map.get next.keys it.0 ≡ Some it.1
  pub tells : (row : Row) (it : List ℕ × Holder) → IsAccess row it → passes filter params row ≡ is_gone it

module _ (filter : List Term) (params : Row) (rows out : List Row) (numbered : IsNumbered rows)
    (found : AreFound rows filter (col 1 0 ∷ []) params out) where
  -- a row that is left does not pass
  left_fails : (row : Row) → Has (without_all rows (ids_of out)) row → passes filter params row ≡ false
  left_fails row left = false_from_ne_true _ (λ passed.
      let was = without_all_has (ids_of out) rows row left in
      let number = numbered.number row was in
      let shown = found.complete row was passed in
      not_left (ids_of out) rows row (id_in (rowid row)) (mapped_has (λ (r : Row). id_in (rowid r)) out _ shown)
      (rw number.1 (ap is_eq (tied_itself value_cmp_total (Int number.0)))) left)

  -- a row that does not pass is left
  is_left : (row : Row) → Has rows row → passes filter params row ≡ false
      → Has (without_all rows (ids_of out)) row
  is_left row there fails = left_if (ids_of out) rows row there (λ id h. false_from_ne_true _ (apart id h))
    where
      -- the query found no row with the number of this row, because numbers are unique and the rows that it found pass
      apart : (id : ℤ) → Has (ids_of out) id → has_rowid id row ≡ true → ⊥
      apart id h has =
          let shown = has_mapped (λ (r : Row). id_in (rowid r)) out id h in
          let from = found.sound shown.0 shown.1 in
          let own = numbered.number row there in
          let its = numbered.number from.0 from.1 in
          let id_is : id ≡ its.0 = shown.2 ∙ (ap (λ (r : Row). id_in (rowid r)) from.3 ∙ ap id_in its.1) in
          let number : own.0 ≡ id = same_int own.0 id (sym (ap (λ v. is_eq (value_cmp v (Int id))) own.1) ∙ has) in
          let same : row ≡ from.0 =
          numbered.own row from.0 there from.1 (own.1 ∙ (ap Int (number ∙ id_is) ∙ sym its.1)) in
          true≢false (sym (ap (passes filter params) same ∙ from.2) ∙ fails)

  -- the rows that are left are the keys of `next`
  access_left : (w next : World) → TakesAway filter params w next
      → Tabulates IsAccess rows (λ it. map.get w.keys it.0 ≡ Some it.1)
      → Tabulates IsAccess (without_all rows (ids_of out)) (λ it. map.get next.keys it.0 ≡ Some it.1)
  access_left w next away access = record {
    each = λ row left.
        let it = access.each row (without_all_has (ids_of out) rows row left) in
        (it.0, it.1, away.stays it.0 it.2 (sym (away.tells row it.0 it.1) ∙ left_fails row left));
    found = λ x holds.
        let was = away.was x holds in
        let it = access.found x was.0 in
        (it.0, is_left it.0 it.1 (away.tells it.0 x it.2 ∙ was.1), it.2);
  }

  numbered_left : IsNumbered (without_all rows (ids_of out))
  numbered_left = record {
    number = λ row left. numbered.number row (without_all_has (ids_of out) rows row left);
    own = λ a b ha hb. numbered.own a b (without_all_has (ids_of out) rows a ha)
        (without_all_has (ids_of out) rows b hb);
  }

-- a DELETE of keys turns tables that mean `w` into tables that mean `w` without them
turns : (filter : List Term) (params : Row) (w next : World) → TakesAway filter params w next → (old : State)
    → Holds old w → Rewrites params (Delete 2 (keys_by filter)) old next
turns filter params w next away old h text tally after does =
    let it = removed old.step_limit filter params old.now text tally after h.schema does in
    let r = it.1 in
    let means = h.trees.means in (
      it.0,
      record {
        named = rw (r.tables.0 (λ e. omega (arith, e))) means.named;
        shelves = rw (r.tables.1.0 (λ e. omega (arith, e)), away.shelves) means.shelves;
        access = rw r.rows
            (access_left filter params (old.now.trees 4) r.out means.numbered r.found w next away means.access);
        numbered = rw r.rows (numbered_left filter params (old.now.trees 4) r.out means.numbered r.found);
        entries = rw (
          r.tables.1.1.1.0 (λ e. omega (arith, e)),
          r.tables.1.1.1.1.0 (λ e. omega (arith, e)),
          away.entries,
        ) means.entries;
        names = rw (r.tables.1.0 (λ e. omega (arith, e))) means.names;
        tokens = rw r.rows (ascending_left _ (ids_of r.out) (old.now.trees 4) means.tokens);
        places = rw (r.tables.1.1.1.0 (λ e. omega (arith, e))) means.places;
        pieces = rw (r.tables.1.1.1.1.0 (λ e. omega (arith, e))) means.pieces;
      },
    )

-- whether a column that shows a text is the text of the parameter
equals_as : (v : Value) (k t : List ℕ) → v ≡ Text k → equal Binary v (Text t) ≡ bytes_eq k t
equals_as v k t is = both_ways _ _
    (λ e. ap (λ u. bytes_eq u t) (texts_same v t k (equals_text v t e) is) ∙ text_self t)
    (λ e. ap (λ u. equal Binary u (Text t)) (is ∙ ap Text (text_same k t e)) ∙ equals_itself t)

alone : (b : Bool) → (b && true) ≡ b
alone true = refl
alone false = refl

-- ---- one key

abbrev pub revoke_params : List ℕ → Row
revoke_params token = Text token ∷ []

gone : {X : Type 0} (b : Bool) (old : Option X) (x : X) → cond b None old ≡ Some x → (b ≡ false) × (old ≡ Some x)
gone true old x e = absurd (cc)
gone false old x e = (refl, e)

module _ (w : World) (token : List ℕ) where
  takes_key : TakesAway by_token (revoke_params token) w (without_key w token)
  takes_key = record {
    is_gone = λ it. bytes_eq it.0 token;
    shelves = refl;
    entries = refl;
    was = λ it at.
        let left = gone (eq_by_cmp text_cmp it.0 token) (map.get w.keys it.0) it.1
        (sym (map.get-remove texts_total w.keys token it.0) ∙ at) in
        (left.1, sym (is_eq-slice_cmp it.0 token) ∙ left.0);
    stays = λ it at other. map.get-remove texts_total w.keys token it.0
        ∙ (ap (λ b. cond b None (map.get w.keys it.0)) (is_eq-slice_cmp it.0 token ∙ other) ∙ at);
    tells = λ row it is. alone _ ∙ equals_as (column row 1) it.0 token is.0;
  }

  -- the DELETE of a key turns tables that mean `w` into tables that mean `w` without the key
  pub revoke_turns : (old : State) → Holds old w
      → Rewrites (revoke_params token) (Delete 2 (keys_by by_token)) old (without_key w token)
  revoke_turns = turns by_token (revoke_params token) w (without_key w token) takes_key

  pub unknown_same : map.contains_key w.keys token ≡ false → with_key_revoked token w ≡ w
  unknown_same h = ap (λ b. after_key_revoke w token (cond b Done NoKey)) h

  pub known_gone : map.contains_key w.keys token ≡ true → with_key_revoked token w ≡ without_key w token
  known_gone h = ap (λ b. after_key_revoke w token (cond b Done NoKey)) h

-- ---- the keys of a shelf

module _ (w : World) (shelf : List ℕ) where
  takes_keys : TakesAway by_shelf (revoke_params shelf) w (without_keys_on w shelf)
  takes_keys = record {
    is_gone = λ it. bytes_eq it.1.shelf shelf;
    shelves = refl;
    entries = refl;
    was = λ it at. key_left w shelf it.0 it.1 at;
    stays = λ it at other. key_left_at w shelf it.0
        ∙ (ap (λ o. cond (not (is_held_on shelf o)) o None) at
        ∙ ap (λ b. cond (not b) (Some it.1) None) other);
    tells = λ row it is. alone _ ∙ equals_as (column row 2) it.1.shelf shelf is.1;
  }

  -- the DELETE of a shelf's keys turns tables that mean `w` into tables that mean `w` without these keys
  pub revoke_all_turns : (old : State) → Holds old w
      → Rewrites (revoke_params shelf) (Delete 2 (keys_by by_shelf)) old (without_keys_on w shelf)
  revoke_all_turns = turns by_shelf (revoke_params shelf) w (without_keys_on w shelf) takes_keys

  pub no_shelf_same : map.contains_key w.shelves shelf ≡ false → with_keys_revoked shelf w ≡ w
  no_shelf_same h = ap (λ b. after_keys_revoke w shelf (cond b Done NoTeam)) h

  pub shelf_emptied : map.contains_key w.shelves shelf ≡ true → with_keys_revoked shelf w ≡ without_keys_on w shelf
  shelf_emptied h = ap (λ b. after_keys_revoke w shelf (cond b Done NoTeam)) h
