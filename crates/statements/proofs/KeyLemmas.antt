-- What the query of a key answers.
use Rattle.std.proofs.Common.{◌≡◌, ℕ, ℤ, pos, Bool, true, false, not, cond, List, [], ◌∷◌, Option, Some, None, refl}
use Rattle.std.proofs.Common.{sym, ap, ◌∙◌, true≢false}
use Rattle.std.specs.Ordering.{int_eq}
use Rattle.std.proofs.lemmas.Bool.{and_parts}
use Rattle.sqlite.specs.declared.types.Value.TheVariants.{Int, Text}
use Rattle.sqlite.specs.Collation.TheVariants.{Binary}
use Rattle.sqlite_sql.specs.declared.ops.BinaryOp.TheVariants.{Compare}
use Rattle.sqlite_sql.specs.declared.ops.CompareOp.TheVariants.{Eq}
use Rattle.sqlite.specs.Order.{Row, column}
use Rattle.sqlite.specs.Term.{Term, col, op2}
use Rattle.sqlite.specs.Query.{Query}
use Rattle.sqlite.specs.Effect.{Database}
use Rattle.std.specs.FinMap as map
use Rattle.world.specs.declared.entry.Holder.{Holder}
use Rattle.world.specs.declared.entry.Right.{Right}
use Rattle.world.specs.declared.entry.Right.TheVariants.{Reads, Publishes}
use Rattle.world.specs.World.{World}
use Rattle.tables.specs.Means.{may_publish, Means}
use Rattle.statements.specs.Lookup.{lookup, passes, FirstFound}
use Rattle.tables.proofs.ValueLemmas.{equals_text, equals_itself}
use Rattle.statements.proofs.LookupLemmas.{Picks, picked_found}

abbrev pub by_token : List Term
by_token = op2 (Compare Eq Binary) (col 1 1) (col 0 0) ∷ []

abbrev pub shown : List Term
shown = col 1 2 ∷ col 1 3 ∷ []

abbrev pub key_query : Query
key_query = lookup 4 by_token shown

pub key_found : (token : List ℕ) (db : Database) (found : Option Row) → Picks key_query (Text token ∷ []) db found
    → FirstFound (db.trees 4) by_token shown (Text token ∷ []) found
key_found token db found h = picked_found (Text token ∷ []) db 4 by_token shown [] (λ _. refl) found h

module _ (token : List ℕ) (db : Database) (w : World) (means : Means db.trees w) where
  params : Row
  params = Text token ∷ []

  passes_at : (row : Row) → passes by_token (Text token ∷ []) row ≡ true → column row 1 ≡ Text token
  passes_at row h = equals_text (column row 1) token (and_parts _ _ h).0

  passes_own : (row : Row) → column row 1 ≡ Text token → passes by_token (Text token ∷ []) row ≡ true
  passes_own row is = rw (is, equals_itself token) refl

  flag_is : (b p : Bool) (n : ℤ) → Int n ≡ Int (cond b (pos 1) (pos 0)) → p ≡ not (int_eq n (pos 0)) → p ≡ b
  flag_is true p n is h = let e : n ≡ pos 1 = cc in rw e at h
  flag_is false p n is h = let e : n ≡ pos 0 = cc in rw e at h

  right_is : (r q : Right) → may_publish r ≡ may_publish q → r ≡ q
  right_is Reads Reads e = refl
  right_is Reads Publishes e = absurd (true≢false (sym e))
  right_is Publishes Reads e = absurd (true≢false e)
  right_is Publishes Publishes e = refl

  pub key_some : (out : Row) (g : Holder) (n : ℤ) → FirstFound (db.trees 4) by_token shown (Text token ∷ []) (Some out)
      → column out 0 ≡ Text g.shelf → column out 1 ≡ Int n → may_publish g.right ≡ not (int_eq n (pos 0))
      → Some g ≡ map.get w.keys token
  key_some out g n h shelf publish right =
      let it = means.access.each h.0 h.1 in
      let same : it.0.0 ≡ token = let e = sym it.1.0 ∙ passes_at h.0 h.2 in cc in
      let own : it.0.1.shelf ≡ g.shelf = let e = sym it.1.1 ∙ (sym (ap (λ (r : Row). column r 0) h.3) ∙ shelf) in cc in
      let may : g.right ≡ it.0.1.right =
      right_is g.right it.0.1.right
      (flag_is (may_publish it.0.1.right) (may_publish g.right) n
      (sym publish ∙ (ap (λ (r : Row). column r 1) h.3 ∙ it.1.2)) right) in
      let whole : it.0.1 ≡ g = λ i. record { shelf = own i; right = sym may i } in
      ap Some (sym whole) ∙ (sym it.2 ∙ ap (map.get w.keys) same)

  pub key_none : FirstFound (db.trees 4) by_token shown (Text token ∷ []) None → None ≡ map.get w.keys token
  key_none h = go (map.get w.keys token) refl
    where
      go : (o : Option Holder) → map.get w.keys token ≡ o → None ≡ o
      go None is = refl
      go (Some g) is = absurd (let it = means.access.found (token, g) is in
          true≢false (sym (passes_own it.0 it.2.0) ∙ h it.0 it.1))
