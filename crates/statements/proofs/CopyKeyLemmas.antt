-- Keys that are copied from one store to another.
use Rattle.std.proofs.Common.{◌≡◌, ◌++◌, ℕ, ℤ, true, false, not, List, [], ◌∷◌, Option, Some, None, Ok, inl, inr, refl}
use Rattle.std.proofs.Common.{sym, ap, subst, ◌∙◌, true≢false}
use Rattle.std.specs.FinMap as map
use Rattle.std.proofs.lemmas.Bool.{and_parts, and_from}
use Rattle.sqlite.specs.declared.types.Value.TheVariants.{Int, Text}
use Rattle.sqlite.specs.Collation.TheVariants.{Binary}
use Rattle.sqlite_sql.specs.declared.ops.BinaryOp.TheVariants.{Compare}
use Rattle.sqlite_sql.specs.declared.ops.CompareOp.TheVariants.{Eq}
use Rattle.sqlite_value.specs.Keys.{plain, first_key}
use Rattle.sqlite.specs.Order.{Row, column}
use Rattle.sqlite.specs.Term.{Term, col, op2, eval_all}
use Rattle.sqlite.specs.Tree.{Trees, rowid}
use Rattle.sqlite.specs.Edit.{next_rowid}
use Rattle.sqlite.specs.Query.{Query}
use Rattle.sqlite.specs.Effect.{Database, Reads, ReadsFirst}
use Rattle.sqlite.specs.Listing.{understood}
use Rattle.sqlite.specs.Command.TheVariants.{Insert}
use Rattle.sqlite.specs.Source.TheVariants.{Values}
use Rattle.sqlite.specs.State.{State, ExecutesInside}
use Rattle.sqlite.proofs.Callers.{IsPlain, command_of, runs_as}
use Rattle.sqlite_schema.specs.Rules.{equal, differ, clashes}
use Rattle.sqlite_schema.specs.declared.schema.Constraint.TheVariants.{Unique}
use Rattle.sqlite_catalog.specs.Listing.{IsSound}
use Rattle.sqlite_rules.specs.Lists.{Has}
use Rattle.sqlite_rules.proofs.ListLemmas.{some_from}
use Rattle.sqlite_rules.proofs.RuleLemmas.{keeps_at}
use Rattle.sqlite_rules.proofs.TableLemmas.{put_all_keeps, put_all_adds}
use Rattle.world.specs.declared.entry.Holder.{Holder}
use Rattle.world.specs.World.{World, with_key}
use Rattle.world.proofs.Orders.{texts_total, texts_exact, get_put}
use Rattle.tables.specs.Schema.{store_schema, access_table}
use Rattle.tables.specs.Means.{Means, IsAccess, StandFor}
use Rattle.statements.specs.Lookup.{lookup, passes as found_by, AreFound}
use Rattle.tables.specs.Walks.{Pass}
use Rattle.tables.specs.Inserted.{Inserted}
use Rattle.statements.specs.Rows.{Filling, IsOfAny}
use Rattle.statements.specs.Extract.{ShowsKey, IsKeyShown, AddsKey, PutsKey, AddsKeys, CopiesKeys}
use Rattle.tables.proofs.ValueLemmas.{equals_text, equals_itself, fresh_before}
use Rattle.statements.proofs.DifferLemmas.{differ_is}
use Rattle.statements.proofs.LookupLemmas.{asks, all_found, begun_found}
use Rattle.statements.proofs.RowLemmas.{adds_of_none, adds_of_more}
use Rattle.tables.proofs.FitTests.{at_index}
use Rattle.tables.proofs.OneWorld.{texts_same, rights_same}
use Rattle.tables.proofs.Maps.{put_keeps, put_splits}
use Rattle.statements.proofs.AddKeyLemmas.{terms, added, key_params, key_means}

-- ---- the query

abbrev pub by_shelf : List Term
by_shelf = op2 (Compare Eq Binary) (col 1 2) (col 0 0) ∷ []

abbrev shown : List Term
shown = col 1 1 ∷ col 1 2 ∷ col 1 3 ∷ []

abbrev pub keys_on_query : Query
keys_on_query = lookup 4 by_shelf shown

-- a row of `access` as it is shown
shown_key : (shelf : List ℕ) (r : Row) (it : List ℕ × Holder) → IsAccess r it
    → ShowsKey (eval_all shown ((Text shelf ∷ []) ∷ r ∷ [])) it
shown_key shelf r it is = (is.0, is.1, is.2)

module _ (shelf : List ℕ) (db : Database) (w : World) (means : Means db.trees w) where
  -- what is found of a shelf
  key_found : (rows : List Row) → AreFound (db.trees 4) by_shelf shown (Text shelf ∷ []) rows → (row : Row)
      → Has rows row
      → (it : List ℕ × Holder) × ShowsKey row it × (map.get w.keys it.0 ≡ Some it.1) × (it.1.shelf ≡ shelf)
  key_found rows found row there =
      let from = found.sound row there in
      let it = means.access.each from.0 from.1 in
      let at : column from.0 2 ≡ Text shelf = equals_text (column from.0 2) shelf (and_parts _ _ from.2).0 in
      let own : it.0.1.shelf ≡ shelf = let e = sym it.1.1 ∙ at in cc in
      (it.0, subst (λ r. ShowsKey r it.0) (sym from.3) (shown_key shelf from.0 it.0 it.1), it.2, own)

  found_key : (rows : List Row) → AreFound (db.trees 4) by_shelf shown (Text shelf ∷ []) rows → (it : List ℕ × Holder)
      → map.get w.keys it.0 ≡ Some it.1 → it.1.shelf ≡ shelf
      → (row : Row) × Has rows row × ShowsKey row it
  found_key rows found it holds own =
      let from = means.access.found it holds in
      let at : column from.0 2 ≡ Text shelf = from.2.1 ∙ ap Text own in
      let passed : found_by by_shelf (Text shelf ∷ []) from.0 ≡ true = rw (at, equals_itself shelf) refl in (
        eval_all shown ((Text shelf ∷ []) ∷ from.0 ∷ []),
        found.complete from.0 from.1 passed,
        shown_key shelf from.0 it from.2,
      )

  pub all_on : (rows : List Row) → Reads (asks keys_on_query) db (Text shelf ∷ []) rows
      → AreFound (db.trees 4) by_shelf shown (Text shelf ∷ []) rows
  all_on rows read = all_found (Text shelf ∷ []) db 4 by_shelf shown [] (λ _. refl) rows read

pub keys_fit : (shelf : List ℕ) (db : Database) (w : World) (rows : List Row) (row : Row) → Means db.trees w
    → ReadsFirst (asks keys_on_query) db (Text shelf ∷ []) (rows ++ row ∷ []) → IsKeyShown row
keys_fit shelf db w rows row means first =
    let begun = begun_found (Text shelf ∷ []) db 4 by_shelf shown [] (λ _. refl) (rows ++ row ∷ []) first in
    let it = key_found shelf db w means _ begun.1 row (at_index rows begun.0 row) in
    (it.0, it.1)

-- ---- a row shows one key

key_same : (row : Row) (a b : List ℕ × Holder) → ShowsKey row a → ShowsKey row b → b ≡ a
key_same row a b one two =
    let key = texts_same (column row 0) a.0 b.0 one.0 two.0 in
    let shelf = texts_same (column row 1) a.1.shelf b.1.shelf one.1 two.1 in
    let right = rights_same (column row 2) a.1.right b.1.right one.2 two.2 in
    λ i. (key i, record { shelf = shelf i; right = right i })

-- ---- keys that were put in one after another

module _ {E : Type 0} (IsOf : E → List ℕ × Holder → Type 0) where
  pub keys_of_none : (x : World) → AddsKeys (λ it. IsOfAny [] (λ e. IsOf e it)) x x
  keys_of_none x = record {
    shelves = refl;
    entries = refl;
    keys =
        adds_of_none IsOf (λ it. map.get x.keys it.0 ≡ Some it.1);
  }

  pub keys_of_more : (e : E) (es : List E) (x y z : World) → AddsKeys (IsOf e) x y
      → AddsKeys (λ it. IsOfAny es (λ e. IsOf e it)) y z → AddsKeys (λ it. IsOfAny (e ∷ es) (λ e. IsOf e it)) x z
  keys_of_more e es x y z one rest = record {
    shelves = rest.shelves ∙ one.shelves;
    entries = rest.entries ∙ one.entries;
    keys = adds_of_more IsOf e es (λ it. map.get x.keys it.0 ≡ Some it.1) (λ it. map.get y.keys it.0 ≡ Some it.1)
        (λ it. map.get z.keys it.0 ≡ Some it.1) one.keys rest.keys;
  }

-- one of the rows shows this key
abbrev pub IsAmong : List Row → List ℕ × Holder → Type 0
IsAmong rows it = IsOfAny rows (λ row. ShowsKey row it)

-- a world with the key of a row added has the keys that it had and the key that the row shows
one_put : (x y : World) (row : Row) → AddsKey row x y → AddsKeys (ShowsKey row) x y
one_put x y row put = subst (AddsKeys (ShowsKey row) x) (sym put.3) (record {
  shelves = refl;
  entries = refl;
  keys = λ it. (
    (λ h. elim (put_splits texts_total texts_exact x.keys put.0.0 put.0.1 it h) [
      | inl here ↦
          inr (subst (ShowsKey row) (sym here) put.1)
      | inr before ↦ inl before
    ]),
    (λ h. elim h [
      | inl was ↦ put_keeps texts_total texts_exact x.keys put.0.0 put.0.1 put.2 it.0 it.1 was
      | inr shows ↦ subst (λ (p : List ℕ × Holder). map.get (with_key x put.0.0 put.0.1).keys p.0 ≡ Some p.1)
          (sym (key_same row put.0 it put.1 shows)) (get_put texts_total x.keys put.0.0 put.0.1)
    ]),
  );
})

pub put_all : (x y : World) (rows : List Row) → Pass (λ _ row. IsKeyShown row) (λ u row v. AddsKey row u v) x rows y
    → AddsKeys (IsAmong rows) x y
put_all x y [] passed = subst (AddsKeys (IsAmong []) x) (sym passed) (keys_of_none ShowsKey x)
put_all x y (row ∷ rows) passed =
    keys_of_more ShowsKey row rows x passed.1 y (one_put x passed.1 row passed.2) (put_all passed.1 y rows passed.3)

-- if each row that the query of a shelf's keys shows is put in, the keys of the shelf are copied
pub keys_copied : (shelf : List ℕ) (db : Database) (w x y : World) (rows : List Row) → Means db.trees w
    → Reads (asks keys_on_query) db (Text shelf ∷ []) rows
    → Pass (λ _ row. IsKeyShown row) (λ u row v. AddsKey row u v) x rows y → CopiesKeys shelf w x y
keys_copied shelf db w x y rows means read passed =
    let adds = put_all x y rows passed in
    let found = all_on shelf db w means rows read in
    record {
      shelves = adds.shelves;
      entries = adds.entries;
      keys = λ it. (
        (λ h. elim ((adds.keys it).0 h) [
          | inl was ↦ inl was
          | inr among ↦
              let own = key_found shelf db w means rows found among.0 among.1 in
              let same : it ≡ own.0 = key_same among.0 own.0 it own.1 among.2 in
              inr (subst (λ (p : List ℕ × Holder). (map.get w.keys p.0 ≡ Some p.1) × (p.1.shelf ≡ shelf)) (sym same)
              (own.2, own.3))
        ]),
        (λ h. (adds.keys it).1 (elim
            h [ inl was ↦ inl was | inr own ↦ inr (found_key shelf db w means rows found it own.0 own.1) ])),
      );
    }

-- ---- the row of one key

-- a row with the token of another, and another number, breaks the rule of the unique token
token_alone : (after : Trees) → IsSound store_schema after → (new other : Row) (token : List ℕ) (m n : ℤ)
    → Has (after 4) new → Has (after 4) other
    → column new 1 ≡ Text token → column other 1 ≡ Text token → rowid other ≡ Int m → rowid new ≡ Int n
    → equal Binary (Int m) (Int n) ≡ false → ⊥
unfolding first_key
token_alone after sound new other token m n here there is also number own apart =
    let obeyed = keeps_at Unique store_schema after access_table new (sound.obeys.rules Unique) (inr (inr (inl refl)))
    here in
    let alone : not (clashes plain (1 ∷ []) (after 4) new) ≡ true = (and_parts _ _ obeyed).0 in
    let equals : equal Binary (column other 1) (column new 1) ≡ true = rw (is, also) (equals_itself token) in
    let apart_too : differ (rowid other) (rowid new) ≡ true =
    rw (number, own) (differ_is (Int m) (Int n) refl refl ∙ ap not apart) in
    let clash : clashes plain (1 ∷ []) (after 4) new ≡ true =
    some_from _ (after 4) other there (and_from _ _ (and_from _ _ equals refl) apart_too) in
    true≢false (sym alone ∙ ap not clash)

-- a key whose row was put in was not there before
pub key_new : (db after : Trees) (x : World) (token : List ℕ) (g : Holder) → IsSound store_schema after → Means db x
    → Inserted db after access_table (Int (next_rowid (db 4)) ∷ key_params token g) → map.get x.keys token ≡ None
key_new db after x token g sound means it = go (map.get x.keys token) refl
  where
    new : Row
    new = Int (next_rowid (db 4)) ∷ key_params token g

    go : (o : Option Holder) → map.get x.keys token ≡ o → o ≡ None
    go None is = refl
    go (Some h) is =
        let from = means.access.found (token, h) is in
        let number = means.numbered.number from.0 from.1 in
        let apart = subst (λ v. equal Binary v (Int (next_rowid (db 4))) ≡ false) number.1
        (fresh_before (next_rowid (db 4)) new (db 4) refl it.fresh from.0 from.1) in
        let here : Has (after 4) new = rw it.rows (put_all_adds (new ∷ []) (db 4) new it.fresh (inl refl)) in
        let there : Has (after 4) from.0 = rw it.rows (put_all_keeps (new ∷ []) (db 4) from.0 it.fresh from.1) in
        absurd (token_alone after sound new from.0 token number.0 (next_rowid (db 4)) here there refl from.2.0 number.1
        refl apart)

-- an INSERT of a key inside a transaction adds the key that the row shows
pub key_put : (sql : List ℕ) → command_of (understood store_schema sql) ≡ Insert 2 (Values terms 4)
    → IsPlain (understood store_schema sql)
    → (old new : State) (row : Row) (token : List ℕ) (g : Holder) (count : ℕ) → ShowsKey row (token, g) → Filling old
    → ExecutesInside 0 sql (key_params token g) old new (Ok count)
    → PutsKey row old.now.trees new.now.trees × Filling new
key_put sql is bare old new row token g count shows filling ran =
    let wrote = runs_as sql (key_params token g) old new store_schema filling.schema _ is bare count ran.0 in
    let it = added old.step_limit token g old.now [] wrote.tally new.now filling.schema wrote.changed in
    let sound : IsSound store_schema new.now.trees = subst (λ s. IsSound s new.now.trees) it.0 wrote.sound in (
      λ x stand.
          let unused = key_new old.now.trees new.now.trees x token g sound stand.means it.1 in (
            with_key x token g,
            ((token, g), shows, unused, refl),
            record {
              sound = sound;
              means =
                  key_means x token g unused old.now.trees new.now.trees it.1 stand.means;
            },
          ),
      record { schema = it.0; sound = sound; is_open = wrote.shown.is_open; inside = ran.1.mode },
    )

-- if rows of keys are put into the tables one after another, each adds its key to the world that the tables stand for
pub keys_passed : (db after : Trees) (x : World) (rows : List Row) → StandFor db x
    → Pass (λ _ row. IsKeyShown row) (λ t row u. PutsKey row t u) db rows after
    → (y : World) × Pass (λ _ row. IsKeyShown row) (λ u row v. AddsKey row u v) x rows y × StandFor after y
keys_passed db after x [] stand passed = (x, refl, subst (λ t. StandFor t x) (sym passed) stand)
keys_passed db after x (row ∷ rows) stand passed =
    let put = passed.2 x stand in
    let rest = keys_passed passed.1 after put.0 rows put.2 passed.3 in
    (rest.0, (passed.0, put.0, put.1, rest.1), rest.2)
