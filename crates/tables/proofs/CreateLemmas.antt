-- The tables as one text makes them.
use Rattle.std.proofs.Common.{◌≡◌, ◌<◌, ◌-◌, ◌++◌, ℕ, suc, ℤ, pos, true, false, List, [], ◌∷◌, length, take, drop, Some}
use Rattle.std.proofs.Common.{None}
use Rattle.std.proofs.Common.{Ok, Err, Result, inl, inr, refl, sym, ap, subst, subst₂, ◌∙◌, codes, arith, IsTrue, OnOk}
use Rattle.std.proofs.Common.{lit<}
use Rattle.std.proofs.lemmas.Bool.{cases_Bool}
use Rattle.sqlite.specs.declared.types.Value.TheVariants.{Null, Int, Text}
use Rattle.sqlite_trees.specs.declared.store.Store.{Ghosts}
use Rattle.sqlite.specs.Order.{Row}
use Rattle.sqlite.specs.Tree.{Trees}
use Rattle.sqlite.specs.Term.{Term, lit}
use Rattle.sqlite.specs.Table.{Table}
use Rattle.sqlite.specs.Schema.{Schema}
use Rattle.sqlite.specs.Change.{created, next_tree, KeepsRows}
use Rattle.sqlite.specs.Compile.{table_defined_by}
use Rattle.sqlite.specs.Command.{Command}
use Rattle.sqlite.specs.Command.TheVariants.{Insert, CreateTable}
use Rattle.sqlite.specs.Source.TheVariants.{Values}
use Rattle.sqlite.specs.Effect.{Database, IsDatabase}
use Rattle.sqlite.specs.Does.{Tally, lacks_sequence}
use Rattle.sqlite.specs.declared.error.Error.{Error}
use Rattle.sqlite.specs.Clock.{timed}
use Rattle.sqlite.specs.Listing.{understood}
use Rattle.sqlite.specs.Batch.{first_len, RunInTurn, ExecutesAllInside}
use Rattle.sqlite.specs.State.{State, KeepsCommit, Runs, ExecutesIn, shows_rows, text_of}
use Rattle.sqlite.specs.Held.{Held, state}
use Rattle.sqlite.proofs.Callers.{IsPlain, command_of, statement_of}
use Rattle.sqlite_tied.specs.Compute.{everything}
use Rattle.tables.specs.Schema.{no_schema, store_schema, meta_table, shelf_table, access_table, version_table}
use Rattle.tables.specs.Schema.{piece_table, meta_text, shelf_text, access_text, version_text, piece_text}
use Rattle.sqlite.specs.Order.{column}
use Rattle.tables.specs.Means.{Means, schema_named}
use Rattle.std.specs.FinMap as map
use Rattle.sqlite.specs.Values.{or_null}
use Rattle.world.proofs.OnlyCommon.{only_one}
use Rattle.world.proofs.Orders.{texts_total, get_put}
use Rattle.world.specs.World.{only_common, common, text_cmp, place_cmp}
use Rattle.tables.proofs.Maps.{none_in_empty}
use Rattle.tables.specs.Made.{IsMade}
use Rattle.tables.proofs.InsertLemmas.{went, same_value, inserted, cast_null, cast_int}

-- a statement of a batch, which answers no rows
module _ (sql : List ℕ) (old new : State) (schema : Schema) (has : old.now.schema ≡ schema) (command : Command)
    (is : command_of (understood schema sql) ≡ command) (plain : IsPlain (understood schema sql)) where
  pub ran_as : (count : ℕ) → ExecutesIn true sql [] old new (Ok count)
      → Runs old new None command (statement_of sql (understood schema sql)) [] count
  unfolding ExecutesIn
  ran_as count h =
      let known = sym h.1.is ∙ ap (λ s. understood s sql) has in
      let bare = subst IsPlain (sym known) plain in
      let ran : Runs old new h.0.returning h.0.command (text_of sql h.0) (timed [] h.0.formats h.1.now) count =
      elim (cases_Bool (shows_rows true h.0)) [
        | inl shows ↦ absurd (let e = (rw shows at h.2).0 in cc)
        | inr runs ↦ rw runs at h.2
      ] in
      subst₂ (λ k t. Runs old new None k t [] count) (ap command_of known ∙ is) (ap (statement_of sql) known)
      (rw (bare.0, bare.1) at ran)

-- one statement, and the others
module _ {S : Type 0} (g : Ghosts S) (old new : Held S) where
  pub turn : (text first rest : List ℕ) → 0 < length text → take (first_len text) text ≡ first
      → drop (first_len text) text ≡ rest → (most : ℕ) → RunInTurn g (Some 0) (suc most) text old new (Ok tt)
      → (mid : Held S) × (count : ℕ) × ExecutesIn true first [] (state g old) (state g mid) (Ok count)
      × RunInTurn g (Some 0) most rest mid new (Ok tt) × IsTrue mid.in_transaction
  turn [] first rest long a b most h = absurd (omega arith)
  turn (c ∷ more) first rest long a b most (inl stopped) = absurd (let e = stopped.1 in cc)
  turn (c ∷ more) first rest long a b most (inr went_on) = (
    went_on.0,
    went_on.1,
    subst (λ t. ExecutesIn true t [] (state g old) (state g went_on.0) (Ok went_on.1)) a went_on.2.runs,
    subst (λ t. RunInTurn g (Some 0) most t went_on.0 new (Ok tt)) b went_on.3,
    went_on.4.0,
  )

module _ (schema next : Schema) (sql : List ℕ) (table : Table) (is : command_of (understood schema sql) ≡ CreateTable)
    (plain : IsPlain (understood schema sql))
    (defined : table_defined_by (statement_of sql (understood schema sql)) ≡ Ok table)
    (becomes : created schema table ≡ next) (whole : lacks_sequence next ≡ false) where
  -- a statement that makes a table leads to the next schema, with the new table empty and the rows of the others as
  -- they were
  pub makes : (old new : State) (count : ℕ) → old.now.schema ≡ schema → ExecutesIn true sql [] old new (Ok count)
      → (new.now.schema ≡ next) × (new.now.trees (next_tree schema) ≡ [])
      × KeepsRows schema.tables old.now.trees new.now.trees
  makes old new count has h =
      let w = ran_as sql old new schema has CreateTable is plain count h in
      let all = went w.changed in
      let first = went all.1 in
      let made = first.1 in
      let both : Ok made.table ≡ Ok table = sym made.defined ∙ defined in
      let same : made.table ≡ table = cc in
      let after : first.0.schema ≡ next = made.is
      ∙ (ap (λ s. created s made.table) has ∙ (ap (created schema) same ∙ becomes)) in
      let plain_after : lacks_sequence first.0.schema ≡ false = ap lacks_sequence after ∙ whole in
      let now : new.now ≡ first.0 = ap (λ (p : Tally × Database). p.1) (same_value all.2)
      ∙ same_value (rw plain_after at first.2) in (
        ap (λ (d : Database). d.schema) now ∙ after,
        ap (λ (d : Database). d.trees (next_tree schema)) now
            ∙ subst (λ s. first.0.trees (next_tree s) ≡ []) has made.empty,
        subst (λ (d : Database). KeepsRows schema.tables old.now.trees d.trees) (sym now)
            (subst (λ s. KeepsRows s.tables old.now.trees first.0.trees) has made.others),
      )

-- each statement with what ends it, and what is left from each on
abbrev pub first1 : List ℕ
first1 = meta_text ++ codes ";"

abbrev pub first2 : List ℕ
first2 = shelf_text ++ codes ";"

abbrev pub first3 : List ℕ
first3 = access_text ++ codes ";"

abbrev pub first4 : List ℕ
first4 = version_text ++ codes ";"

abbrev pub first5 : List ℕ
first5 = piece_text ++ codes ";"

abbrev pub first6 : List ℕ
first6 = codes "INSERT INTO meta (name, value) VALUES ('schema', 3);"

abbrev pub first7 : List ℕ
first7 = codes "INSERT INTO shelf (name) VALUES ('common')"

abbrev pub text7 : List ℕ
text7 = first7

abbrev pub text6 : List ℕ
text6 = first6 ++ text7

abbrev pub text5 : List ℕ
text5 = first5 ++ text6

abbrev pub text4 : List ℕ
text4 = first4 ++ text5

abbrev pub text3 : List ℕ
text3 = first3 ++ text4

abbrev pub text2 : List ℕ
text2 = first2 ++ text3

abbrev pub text1 : List ℕ
text1 = first1 ++ text2

abbrev pub schema0 : Schema
schema0 = record { tables = []; indexes = take 0 store_schema.indexes; views = [] }

abbrev pub schema1 : Schema
schema1 = record { tables = meta_table ∷ []; indexes = take 1 store_schema.indexes; views = [] }

abbrev pub schema2 : Schema
schema2 = record { tables = meta_table ∷ shelf_table ∷ []; indexes = take 2 store_schema.indexes; views = [] }

abbrev pub schema3 : Schema
schema3 = record {
  tables = meta_table ∷ shelf_table ∷ access_table ∷ [];
  indexes = take 3 store_schema.indexes;
  views =
      [];
}

abbrev pub schema4 : Schema
schema4 = record {
  tables = meta_table ∷ shelf_table ∷ access_table ∷ version_table ∷ [];
  indexes =
      take 4 store_schema.indexes;
  views = [];
}

abbrev pub schema5 : Schema
schema5 = record {
  tables = meta_table ∷ shelf_table ∷ access_table ∷ version_table ∷ piece_table ∷ [];
  indexes =
      take 5 store_schema.indexes;
  views = [];
}

pub cut1 : (take (first_len text1) text1 ≡ first1) × (drop (first_len text1) text1 ≡ text2)
unfolding everything
cut1 = (refl, refl)

pub cut2 : (take (first_len text2) text2 ≡ first2) × (drop (first_len text2) text2 ≡ text3)
unfolding everything
cut2 = (refl, refl)

pub cut3 : (take (first_len text3) text3 ≡ first3) × (drop (first_len text3) text3 ≡ text4)
unfolding everything
cut3 = (refl, refl)

pub cut4 : (take (first_len text4) text4 ≡ first4) × (drop (first_len text4) text4 ≡ text5)
unfolding everything
cut4 = (refl, refl)

pub cut5 : (take (first_len text5) text5 ≡ first5) × (drop (first_len text5) text5 ≡ text6)
unfolding everything
cut5 = (refl, refl)

pub cut6 : (take (first_len text6) text6 ≡ first6) × (drop (first_len text6) text6 ≡ text7)
unfolding everything
cut6 = (refl, refl)

pub cut7 : (take (first_len text7) text7 ≡ first7) × (drop (first_len text7) text7 ≡ [])
unfolding everything
cut7 = (refl, refl)

pub make1 : (command_of (understood schema0 first1) ≡ CreateTable) × IsPlain (understood schema0 first1)
    × (table_defined_by (statement_of first1 (understood schema0 first1)) ≡ Ok (record meta_table { tree = 0 }))
    × (created schema0 (record meta_table { tree = 0 }) ≡ schema1)
unfolding understood everything
make1 = (refl, (refl, refl), refl, refl)

pub make2 : (command_of (understood schema1 first2) ≡ CreateTable) × IsPlain (understood schema1 first2)
    × (table_defined_by (statement_of first2 (understood schema1 first2)) ≡ Ok (record shelf_table { tree = 0 }))
    × (created schema1 (record shelf_table { tree = 0 }) ≡ schema2)
unfolding understood everything
make2 = (refl, (refl, refl), refl, refl)

pub make3 : (command_of (understood schema2 first3) ≡ CreateTable) × IsPlain (understood schema2 first3)
    × (table_defined_by (statement_of first3 (understood schema2 first3)) ≡ Ok (record access_table { tree = 0 }))
    × (created schema2 (record access_table { tree = 0 }) ≡ schema3)
unfolding understood everything
make3 = (refl, (refl, refl), refl, refl)

pub make4 : (command_of (understood schema3 first4) ≡ CreateTable) × IsPlain (understood schema3 first4)
    × (table_defined_by (statement_of first4 (understood schema3 first4)) ≡ Ok (record version_table { tree = 0 }))
    × (created schema3 (record version_table { tree = 0 }) ≡ schema4)
unfolding understood everything
make4 = (refl, (refl, refl), refl, refl)

pub make5 : (command_of (understood schema4 first5) ≡ CreateTable) × IsPlain (understood schema4 first5)
    × (table_defined_by (statement_of first5 (understood schema4 first5)) ≡ Ok (record piece_table { tree = 0 }))
    × (created schema4 (record piece_table { tree = 0 }) ≡ schema5)
unfolding understood everything
make5 = (refl, (refl, refl), refl, refl)

-- the row that names the schema
abbrev pub meta_terms : List Term
meta_terms = lit Null ∷ lit (Text (codes "schema")) ∷ lit (Int schema_named.1) ∷ []

abbrev pub meta_source : Row
meta_source = Null ∷ Text (codes "schema") ∷ Int schema_named.1 ∷ []

pub put6 : (command_of (understood store_schema first6) ≡ Insert 0 (Values meta_terms 3))
    × IsPlain (understood store_schema first6)
unfolding understood everything
put6 = (refl, (refl, refl))

pub put7 : (command_of (understood store_schema first7)
    ≡ Insert 1 (Values (lit Null ∷ lit (Text (codes "common")) ∷ lit Null ∷ []) 3))
    × IsPlain (understood store_schema first7)
unfolding understood everything
put7 = (refl, (refl, refl))

abbrev pub meta_row : Row
meta_row = Int (pos 1) ∷ Text (codes "schema") ∷ Int schema_named.1 ∷ []

abbrev pub common_row : Row
common_row = Int (pos 1) ∷ Text (codes "common") ∷ Null ∷ []

record Rows (db : Trees) : Type 0 where
  meta : db 0 ≡ meta_row ∷ []
  shelf : db 2 ≡ common_row ∷ []
  access : db 4 ≡ []
  version : db 6 ≡ []
  piece : db 8 ≡ []

-- tables with these rows mean the world with the shelf `common` and nothing else
means : (db : Trees) → Rows db → Means db only_common
means db r = record {
  named = rw r.meta (record {
    each = λ row there. elim there [
      | inl same ↦
          (schema_named, (ap (λ (x : Row). column x 1) same, ap (λ (x : Row). column x 2) same), refl)
      | inr none ↦ absurd none
    ];
    found = λ it same. (
      meta_row,
      inl refl,
      (ap (λ (x : List ℕ × ℤ). Text x.0) (sym same), ap (λ (x : List ℕ × ℤ). Int x.1) (sym same)),
    );
  });
  shelves = rw r.shelf (record {
    each = λ row there. elim there [
      | inl same ↦ (
        (codes "common", None),
        (ap (λ (x : Row). column x 1) same, ap (λ (x : Row). column x 2) same),
        get_put texts_total map.empty common None,
      )
      | inr none ↦ absurd none
    ];
    found = λ it holds. let same = only_one common None it.0 it.1 holds in
        (common_row, inl refl, (ap Text (sym same.0), ap (or_null Text) same.1));
  });
  access = rw r.access (record {
    each = λ row none. absurd none;
    found = λ x some.
        absurd (none_in_empty text_cmp x.0 x.1 some);
  });
  numbered = rw r.access (record { number = λ row none. absurd none; own = λ a b none. absurd none });
  entries = rw r.version (record {
    each = λ row none. absurd none;
    found = λ x some.
        absurd (none_in_empty place_cmp x.0 x.1 some);
  });
  names = rw r.shelf (tt, tt);
  tokens = rw r.access tt;
  places = rw r.version tt;
  pieces = rw r.piece tt;
}

-- the sixth statement puts the row of `meta` and changes no other table
pub put_meta : (old new : State) (count : ℕ) → old.now.schema ≡ store_schema → old.now.trees 0 ≡ []
    → ExecutesIn true first6 [] old new (Ok count)
    → (new.now.schema ≡ store_schema) × (new.now.trees 0 ≡ meta_row ∷ []) × (new.now.trees 2 ≡ old.now.trees 2)
    × (new.now.trees 4 ≡ old.now.trees 4) × (new.now.trees 6 ≡ old.now.trees 6)
    × (new.now.trees 8 ≡ old.now.trees 8)
put_meta old new count has none h =
    let w = ran_as first6 old new store_schema has _ put6.0 put6.1 count h in
    let it = inserted old.step_limit meta_table refl [] meta_terms 3 meta_source refl (λ _. refl) 0 refl old.now []
    w.tally new.now has w.changed in (
      it.0,
      rw none at (rw (cast_null, cast_int schema_named.1) at it.1.rows),
      it.1.tables.1.0 (λ e. omega (arith, e)),
      it.1.tables.1.1.0 (λ e. omega (arith, e)),
      it.1.tables.1.1.1.0 (λ e. omega (arith, e)),
      it.1.tables.1.1.1.1.0 (λ e. omega (arith, e)),
    )

-- the seventh statement puts the row of `common` and changes no other table
put_common : (old new : State) (count : ℕ) → old.now.schema ≡ store_schema → old.now.trees 2 ≡ []
    → ExecutesIn true first7 [] old new (Ok count)
    → (new.now.schema ≡ store_schema) × (new.now.trees 2 ≡ common_row ∷ []) × (new.now.trees 4 ≡ old.now.trees 4)
    × (new.now.trees 6 ≡ old.now.trees 6)
    × (new.now.trees 0 ≡ old.now.trees 0) × IsDatabase new.now × IsTrue new.is_open
    × (new.now.trees 8 ≡ old.now.trees 8)
put_common old new count has none h =
    let w = ran_as first7 old new store_schema has _ put7.0 put7.1 count h in
    let it = inserted old.step_limit shelf_table refl [] (lit Null ∷ lit (Text (codes "common")) ∷ lit Null ∷ []) 3
    (Null ∷ Text (codes "common") ∷ Null ∷ []) refl
    (λ _. refl) 1 refl old.now [] w.tally new.now has w.changed in (
      it.0,
      rw none at (rw cast_null at it.1.rows),
      it.1.tables.1.1.0 (λ e. omega (arith, e)),
      it.1.tables.1.1.1.0 (λ e. omega (arith, e)),
      it.1.tables.0 (λ e. omega (arith, e)),
      w.sound,
      w.shown.is_open,
      it.1.tables.1.1.1.1.0 (λ e. omega (arith, e)),
    )

module _ {S : Type 0} (g : Ghosts S) (old new : Held S) where
  -- after all statements ran within a transaction on an empty connection, the tables are made
  pub all_made : KeepsCommit (state g old) (state g new) → IsTrue new.in_transaction
      → (state g old).now.schema ≡ no_schema
      → ExecutesAllInside g 0 text1 old new (Ok tt) → IsMade (state g old) (state g new)
  unfolding ExecutesAllInside
  all_made keeps inside has run =
      let a = turn g old new text1 first1 text2 (lit< tt) cut1.0 cut1.1 (length text1 - 1) run in
      let A = makes schema0 schema1 first1 (record meta_table { tree = 0 }) make1.0 make1.1 make1.2 make1.3 refl
      (state g old) (state g a.0) a.1 has a.2 in
      let b = turn g a.0 new text2 first2 text3 (lit< tt) cut2.0 cut2.1 (length text1 - 2) a.3 in
      let B = makes schema1 schema2 first2 (record shelf_table { tree = 0 }) make2.0 make2.1 make2.2 make2.3 refl
      (state g a.0) (state g b.0) b.1 A.0 b.2 in
      let c = turn g b.0 new text3 first3 text4 (lit< tt) cut3.0 cut3.1 (length text1 - 3) b.3 in
      let C = makes schema2 schema3 first3 (record access_table { tree = 0 }) make3.0 make3.1 make3.2 make3.3 refl
      (state g b.0) (state g c.0) c.1 B.0 c.2 in
      let d = turn g c.0 new text4 first4 text5 (lit< tt) cut4.0 cut4.1 (length text1 - 4) c.3 in
      let D = makes schema3 schema4 first4 (record version_table { tree = 0 }) make4.0 make4.1 make4.2 make4.3 refl
      (state g c.0) (state g d.0) d.1 C.0 d.2 in
      let e = turn g d.0 new text5 first5 text6 (lit< tt) cut5.0 cut5.1 (length text1 - 5) d.3 in
      let E = makes schema4 schema5 first5 (record piece_table { tree = 0 }) make5.0 make5.1 make5.2 make5.3 refl
      (state g d.0) (state g e.0) e.1 D.0 e.2 in
      let f = turn g e.0 new text6 first6 text7 (lit< tt) cut6.0 cut6.1 (length text1 - 6) e.3 in
      let meta : (state g e.0).now.trees 0 ≡ [] = E.2.0 ∙ (D.2.0 ∙ (C.2.0 ∙ (B.2.0 ∙ A.1))) in
      let F = put_meta (state g e.0) (state g f.0) f.1 E.0 meta f.2 in
      let l = turn g f.0 new text7 first7 [] (lit< tt) cut7.0 cut7.1 (length text1 - 7) f.3 in
      let shelf : (state g f.0).now.trees 2 ≡ [] = F.2 ∙ (E.2.1.0 ∙ (D.2.1.0 ∙ (C.2.1.0 ∙ B.1))) in
      let L = put_common (state g f.0) (state g l.0) l.1 F.0 shelf l.2 in
      let access : (state g l.0).now.trees 4 ≡ [] = L.2 ∙ (F.3 ∙ (E.2.1.1.0 ∙ (D.2.1.1.0 ∙ C.1))) in
      let version : (state g l.0).now.trees 6 ≡ [] = L.3 ∙ (F.4 ∙ (E.2.1.1.1.0 ∙ D.1)) in
      let piece : (state g l.0).now.trees 8 ≡ [] = L.7 ∙ (F.5 ∙ E.1) in
      let rows : Rows (state g l.0).now.trees =
      record { meta = L.4 ∙ F.1; shelf = L.1; access = access; version = version; piece = piece } in
      let same : new ≡ l.0 = l.3.1 in
      let shown : IsTrue (state g new).is_open = ap (λ h. (state g h).is_open) same ∙ L.6 in
      record {
        schema = ap (λ h. (state g h).now.schema) same ∙ L.0;
        sound = subst (λ h. IsDatabase (state g h).now) (sym same) L.5;
        means = subst (λ h. Means (state g h).now.trees only_common) (sym same) (means (state g l.0).now.trees rows);
        is_open = shown;
        was_open = keeps.was_open shown;
        committed = keeps.committed shown;
        inside = inside;
      }

  pub made_if : (r : Result (Unit {0}) Error) → ExecutesAllInside g 0 text1 old new r
      → KeepsCommit (state g old) (state g new)
      → OnOk r ((state g new).in_transaction ≡ (state g old).in_transaction) → IsTrue old.in_transaction
      → (state g old).now.schema ≡ no_schema → OnOk r (IsMade (state g old) (state g new))
  made_if (Err e) run keeps same inside has = tt
  made_if (Ok u) run keeps same inside has = all_made keeps (same ∙ inside) has run
