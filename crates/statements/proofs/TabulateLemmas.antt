-- One row more.
use Rattle.std.proofs.Common.{◌≡◌, ◌⊎◌, ◌∙◌, ℤ, ap, true≢false, true, List, [], ◌∷◌, inl, inr, refl, sym, subst}
use Rattle.std.specs.List.{AllByRecursion}
use Rattle.std.specs.Ordering.{match_ordering}
use Rattle.std.specs.declared.cmp.Ordering.{Ordering}
use Rattle.std.specs.declared.cmp.Ordering.TheVariants.{Less, Equal, Greater}
use Rattle.sqlite.specs.Order.{Row}
use Rattle.sqlite.specs.declared.types.Value.TheVariants.{Int}
use Rattle.sqlite.specs.Collation.TheVariants.{Binary}
use Rattle.sqlite_schema.specs.Rules.{equal}
use Rattle.sqlite_rules.specs.Lists.{Has}
use Rattle.sqlite.specs.Tree.{rowid}
use Rattle.sqlite_value.specs.Order.{value_cmp}
use Rattle.sqlite_trees.specs.Tree.{IsAscending, put_row}
use Rattle.sqlite.specs.Edit.{put_all, are_fresh}
use Rattle.sqlite_rules.proofs.ListLemmas.{all_from, all_has}
use Rattle.sqlite_rules.proofs.TableLemmas.{put_all_has, put_all_keeps, put_all_adds, put_has}
use Rattle.tables.specs.Means.{Tabulates, IsNumbered}
use Rattle.tables.proofs.ValueLemmas.{int_itself, fresh_before}

-- rows that tabulate P tabulate Q once a fresh row is put in, if Q is P and the fact of that row
pub tabulates_put : {X : Type 0} (IsRow : Row → X → Type 0) (rows : List Row) (row : Row) (x : X) (P Q : X → Type 0)
    → are_fresh rows (row ∷ []) ≡ true → IsRow row x
    → ((y : X) → P y → Q y) → Q x → ((y : X) → Q y → (y ≡ x) ⊎ P y) → Tabulates IsRow rows P
    → Tabulates IsRow (put_all rows (row ∷ [])) Q
tabulates_put {X} IsRow rows row x P Q fresh is grows new only h = record {
  each = λ r there. elim (put_all_has (row ∷ []) rows r there) [
    | inl (inl same) ↦ (x, subst (λ z. IsRow z x) (sym same) is, new)
    | inl (inr none) ↦ absurd none
    | inr was ↦ (let it = h.each r was in (it.0, it.1, grows it.0 it.2))
  ];
  found = λ y holds. elim (only y holds) [
    | inl same ↦ (row, put_all_adds (row ∷ []) rows row fresh (inl refl), subst (IsRow row) (sym same) is)
    | inr was ↦ (let it = h.found y was in (it.0, put_all_keeps (row ∷ []) rows it.0 fresh it.1, it.2))
  ];
}

-- rows that are numbered are numbered once a fresh row with a number is put in
pub numbered_put : (rows : List Row) (id : ℤ) (new : Row) → rowid new ≡ Int id → are_fresh rows (new ∷ []) ≡ true
    → IsNumbered rows → IsNumbered (put_all rows (new ∷ []))
numbered_put rows id new is fresh n = record {
  number = λ r h. elim (put_all_has (new ∷ []) rows r h) [
    | inl (inl same) ↦ (id, ap rowid same ∙ is)
    | inl (inr none) ↦ absurd none
    | inr was ↦ n.number r was
  ];
  own = λ a b ha hb tie. elim (put_all_has (new ∷ []) rows a ha) [
    | inl (inl first) ↦ elim (put_all_has (new ∷ []) rows b hb) [
      | inl (inl second) ↦ first ∙ sym second
      | inl (inr none) ↦ absurd none
      | inr old ↦ absurd (apart b old (sym tie ∙ (ap rowid first ∙ is)))
    ]
    | inl (inr none) ↦ absurd none
    | inr was ↦ elim (put_all_has (new ∷ []) rows b hb) [
      | inl (inl second) ↦ absurd (apart a was (tie ∙ (ap rowid second ∙ is)))
      | inl (inr none) ↦ absurd none
      | inr old ↦ n.own a b was old tie
    ]
  ];
}
  where
    apart : (r : Row) → Has rows r → rowid r ≡ Int id → ⊥
    apart r h same = true≢false
        (sym (ap (λ v. equal Binary v (Int id)) same ∙ int_itself id) ∙ fresh_before id new rows is fresh r h)

-- if a relation holds of each two rows, and of the new row and each of them, it holds of each two once the new row is
-- put in
module _ (P : Row → Row → Type 0) (turned : (a b : Row) → P a b → P b a) (new : Row) where
  all_put : (r : Row) (rows : List Row) → P r new → AllByRecursion (P r) rows → AllByRecursion (P r) (put_row new rows)
  all_put r rows first rest =
      all_from (P r) (put_row new rows)
      (λ x h. elim (put_has new rows x h) [
        | inl same ↦ subst (P r) (sym same) first
        | inr was ↦ all_has (P r) rows x rest was
      ])

  abbrev put_by : Ordering → Row → List Row → List Row
  put_by o r rows = match_ordering o (r ∷ put_row new rows) (new ∷ rows) (new ∷ r ∷ rows)

  pub put_apart : (rows : List Row) → AllByRecursion (P new) rows → IsAscending P rows
      → IsAscending P (put_row new rows)
  put_apart [] apart up = (tt, tt)
  put_apart (r ∷ rows) apart up = go (value_cmp (rowid r) (rowid new)) (put_apart rows apart.1 up.1)
    where
      go : (o : Ordering) → IsAscending P (put_row new rows) → IsAscending P (put_by o r rows)
      go Less rest = (all_put r rows (turned new r apart.0) up.0, rest)
      go Equal rest = (apart.1, up.1)
      go Greater rest = (apart, up)
