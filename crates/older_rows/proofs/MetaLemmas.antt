-- The rows of `meta`.
use Rattle.std.proofs.Common.{◌≡◌, ◌⊎◌, ℤ, true, false, List, [], ◌∷◌, codes, inl, inr, refl, sym, ap, subst, ◌∙◌}
use Rattle.std.proofs.Common.{true≢false, to_z, of_z, w64}
use Rattle.sqlite.specs.Order.{Row}
use Rattle.sqlite.specs.Tree.{Trees}
use Rattle.sqlite_rules.specs.Lists.{Has}
use Rattle.tables.specs.Means.{IsMeta}
use Rattle.statements.specs.Lookup.{AreFound}
use Rattle.older.specs.declared.schema.Format.{Format}
use Rattle.older.specs.declared.schema.Format.TheVariants.{One, Two}
use Rattle.older.specs.Schemas.{number_of}
use Rattle.older_rows.specs.declared.meta.MetaRows.{MetaRows}
use Rattle.older_rows.specs.Visits.{Visits}
use Rattle.older_rows.specs.Registry.{NamesSchema, IsNamed}
use Rattle.older_rows.proofs.ListedLemmas.{meta_columns}

abbrev pub Puts : MetaRows → Row → Trees → MetaRows → Trees → Type 0
Puts so_far row db next after = NamesSchema so_far.number row
    × ((next.number ≡ so_far.number) × ((next.has_row ≡ true) × (after ≡ db)))

-- nothing is put in, each row names the schema, and if `has_row` is true at the end, it was at the start or there is a
-- row
record IsMet (so_far : MetaRows) (db : Trees) (rows : List Row) (end : MetaRows) (after : Trees) : Type 0 where
  same : after ≡ db
  each : (row : Row) → Has rows row → NamesSchema so_far.number row
  some : end.has_row ≡ true → (so_far.has_row ≡ true) ⊎ ((row : Row) × Has rows row)

-- rows of `meta` that are visited are met: nothing is put in, and each names the schema
met : (so_far : MetaRows) (db : Trees) (rows : List Row) (end : MetaRows) (after : Trees)
    → Visits Puts so_far db rows end after → IsMet so_far db rows end after
met so_far db [] end after same =
    record {
      same = same.1;
      each = λ row there. absurd there;
      some = λ has.
          inl (ap (λ (x : MetaRows). x.has_row) (sym same.0) ∙ has);
    }
met so_far db (r ∷ rows) end after visited =
    let put = visited.2 in
    let rest = met visited.0 visited.1 rows end after visited.3 in
    record {
      same = rest.same ∙ put.1.1.1;
      each = λ row there. elim there [
        | inl here ↦ subst (NamesSchema so_far.number) (sym here) put.0
        | inr later ↦ subst (λ n. NamesSchema n row) put.1.0 (rest.each row later)
      ];
      some = λ has. inr (r, inl refl);
    }

module _ (f : Format) (old : Trees) (so_far end : MetaRows) (db after : Trees) (rows : List Row)
    (is : so_far.number ≡ number_of f) (new : so_far.has_row ≡ false)
    (found : AreFound (old 0) [] meta_columns [] rows) (visited : Visits Puts so_far db rows end after) where
  names_it : (row : Row) → Has (old 0) row → IsMeta row (codes "schema", number_of f)
  names_it row there = let it = (met so_far db rows end after visited).each _ (found.complete row there refl) in
      (it.0, it.1 ∙ ap (λ n. Rattle.sqlite.specs.declared.types.Value.TheVariants.Int n) is)

  -- if a row was seen, `meta` names the schema and nothing else
  pub named : end.has_row ≡ true → IsNamed f old db after
  named has =
      let it = met so_far db rows end after visited in (
        record {
          each = λ row there. ((codes "schema", number_of f), names_it row there, refl);
          found = λ x same. elim (it.some has) [
            | inl before ↦ absurd (true≢false (sym before ∙ new))
            | inr some ↦ (let from = found.sound some.0 some.1 in
                (from.0, from.1, subst (IsMeta from.0) (sym same) (names_it from.0 from.1)))
          ];
        },
        it.same,
      )

-- the number of a schema fits in a machine number
pub wrapped : (f : Format) (n : ℤ) → n ≡ number_of f → to_z w64 (of_z w64 n) ≡ number_of f
wrapped f n is = ap (λ x. to_z w64 (of_z w64 x)) is ∙ at f
  where
    at : (f : Format) → to_z w64 (of_z w64 (number_of f)) ≡ number_of f
    at One = refl
    at Two = refl
