-- What the query of a shelf answers.
use Rattle.std.proofs.Common.{◌≡◌, ℕ, List, [], ◌∷◌, Option, Some, None, refl, sym, ap, ◌∙◌, true≢false}
use Rattle.std.proofs.lemmas.Bool.{and_parts}
use Rattle.sqlite.specs.declared.types.Value.TheVariants.{Text}
use Rattle.sqlite.specs.Collation.TheVariants.{Binary}
use Rattle.sqlite_sql.specs.declared.ops.BinaryOp.TheVariants.{Compare}
use Rattle.sqlite_sql.specs.declared.ops.CompareOp.TheVariants.{Eq}
use Rattle.sqlite.specs.Order.{Row, column}
use Rattle.sqlite.specs.Term.{Term, col, op2}
use Rattle.sqlite.specs.Values.{or_null}
use Rattle.sqlite.specs.Query.{Query}
use Rattle.sqlite.specs.Effect.{Database}
use Rattle.std.specs.FinMap as map
use Rattle.world.specs.World.{World}
use Rattle.tables.specs.Means.{Means}
use Rattle.statements.specs.Lookup.{lookup, FirstFound}
use Rattle.tables.proofs.ValueLemmas.{equals_text, equals_itself}
use Rattle.statements.proofs.LookupLemmas.{Picks, picked_found}

abbrev by_name : List Term
by_name = op2 (Compare Eq Binary) (col 1 1) (col 0 0) ∷ []

abbrev shown : List Term
shown = col 1 2 ∷ []

abbrev pub shelf_query : Query
shelf_query = lookup 2 by_name shown

-- a column shows one text at most, or NULL for none
pub same_option : (a b : Option (List ℕ)) → or_null Text a ≡ or_null Text b → a ≡ b
same_option None None e = refl
same_option None (Some b) e = cc
same_option (Some a) None e = cc
same_option (Some a) (Some b) e = let same : a ≡ b = cc in ap Some same

module _ (name : List ℕ) (db : Database) (w : World) (means : Means db.trees w) where
  some_is : (out : Row) (parent : Option (List ℕ)) → FirstFound (db.trees 2) by_name shown (Text name ∷ []) (Some out)
      → column out 0 ≡ or_null Text parent → Some parent ≡ map.get w.shelves name
  some_is out parent h shows =
      let it = means.shelves.each h.0 h.1 in
      let same : it.0.0 ≡ name = let e = sym it.1.0 ∙ equals_text (column h.0 1) name (and_parts _ _ h.2).0 in cc in
      let own : it.0.1 ≡ parent =
      same_option it.0.1 parent (sym it.1.1 ∙ (sym (ap (λ (r : Row). column r 0) h.3) ∙ shows)) in
      ap Some (sym own) ∙ (sym it.2 ∙ ap (map.get w.shelves) same)

  none_is : FirstFound (db.trees 2) by_name shown (Text name ∷ []) None → None ≡ map.get w.shelves name
  none_is h = go (map.get w.shelves name) refl
    where
      go : (o : Option (Option (List ℕ))) → map.get w.shelves name ≡ o → None ≡ o
      go None is = refl
      go (Some parent) is = absurd
          (let it = means.shelves.found (name, parent) is in
          true≢false (sym (rw (it.2.0, equals_itself name) refl) ∙ h it.0 it.1))

  found : (o : Option Row) → Picks shelf_query (Text name ∷ []) db o
      → FirstFound (db.trees 2) by_name shown (Text name ∷ []) o
  found o h = picked_found (Text name ∷ []) db 2 by_name shown [] (λ _. refl) o h

  -- the row that was found shows the parent
  pub shelf_some : (out : Row) (parent : Option (List ℕ)) → Picks shelf_query (Text name ∷ []) db (Some out)
      → column out 0 ≡ or_null Text parent → Some parent ≡ map.get w.shelves name
  shelf_some out parent h shows = some_is out parent (found (Some out) h) shows

  pub shelf_none : Picks shelf_query (Text name ∷ []) db None → None ≡ map.get w.shelves name
  shelf_none h = none_is (found None h)
