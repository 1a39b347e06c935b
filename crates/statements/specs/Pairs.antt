-- Queries over two tables, whose pairs of rows are filtered by terms.
use Rattle.std.specs.Prelude.{ℕ, pos, negsuc, Bool, true, false, List, [], ◌∷◌, None, ◌≡◌}
use Rattle.std.specs.List.{list_all}
use Rattle.sqlite.specs.declared.types.Value.TheVariants.{Int}
use Rattle.sqlite.specs.Order.{Row}
use Rattle.sqlite.specs.Term.{Term, lit, holds, eval_all}
use Rattle.sqlite.specs.Query.{Query, inner, end}
use Rattle.sqlite_rules.specs.Lists.{Has}

-- A query over two tables: the pairs of rows that pass the filter, projected.
abbrev pub pairs : ℕ → ℕ → List Term → List Term → Query
pairs t u filter project = record {
  from = inner t (inner u end);
  filter = filter;
  group = None;
  project = project;
  distinct = false;
  collations = [];
  order = [];
  limit = lit (Int (negsuc 0));
  offset = lit (Int (pos 0));
}

abbrev pub passes_both : List Term → Row → Row → Row → Bool
passes_both filter params row other = list_all (holds (params ∷ row ∷ other ∷ [])) filter

-- `out` has the pairs that pass, projected, and no others
pub record ArePaired (rows others : List Row) (filter project : List Term) (params : Row)
    (out : List Row) : Type 0 where
  pub sound : (x : Row) → Has out x → (row : Row) × (other : Row) × Has rows row × Has others other
      × (passes_both filter params row other ≡ true) × (x ≡ eval_all project (params ∷ row ∷ other ∷ []))
  pub complete : (row other : Row) → Has rows row → Has others other
      → passes_both filter params row other ≡ true → Has out (eval_all project (params ∷ row ∷ other ∷ []))
