-- The tables as their texts make them, and the columns of `version`.
use Rattle.std.proofs.Common.{◌≡◌, ◌≤◌, ◌<◌, Bool, Decides, List, sym, ap, ◌∙◌, [], ◌∷◌, arith, codes, get_or, length}
use Rattle.sqlite.specs.Kind.TheVariants.{Integer, Text, Blob}
use Rattle.sqlite_schema.specs.declared.schema.Column.{Column}
use Rattle.tables.specs.Schema.{given, optional, version_columns}

-- a list of eight is that of what stands at its indexes
eight : (xs : List Column) (i s p v t g o r : Column) → 8 ≤ length xs → length xs < 9
    → i ≡ get_or xs 0 i → s ≡ get_or xs 1 s → p ≡ get_or xs 2 p → v ≡ get_or xs 3 v → t ≡ get_or xs 4 t
    → g ≡ get_or xs 5 g → o ≡ get_or xs 6 o → r ≡ get_or xs 7 r
    → xs ≡ i ∷ s ∷ p ∷ v ∷ t ∷ g ∷ o ∷ r ∷ []
eight [] i s p v t g o r long short ei es ep ev et eg eo er = absurd (omega (arith, long))
eight (x0 ∷ []) i s p v t g o r long short ei es ep ev et eg eo er = absurd (omega (arith, long))
eight (x0 ∷ x1 ∷ []) i s p v t g o r long short ei es ep ev et eg eo er = absurd (omega (arith, long))
eight (x0 ∷ x1 ∷ x2 ∷ []) i s p v t g o r long short ei es ep ev et eg eo er = absurd (omega (arith, long))
eight (x0 ∷ x1 ∷ x2 ∷ x3 ∷ []) i s p v t g o r long short ei es ep ev et eg eo er = absurd (omega (arith, long))
eight (x0 ∷ x1 ∷ x2 ∷ x3 ∷ x4 ∷ []) i s p v t g o r long short ei es ep ev et eg eo er = absurd (omega (arith, long))
eight (x0 ∷ x1 ∷ x2 ∷ x3 ∷ x4 ∷ x5 ∷ []) i s p v t g o r long short ei es ep ev et eg eo er =
    absurd (omega (arith, long))
eight (x0 ∷ x1 ∷ x2 ∷ x3 ∷ x4 ∷ x5 ∷ x6 ∷ []) i s p v t g o r long short ei es ep ev et eg eo er =
    absurd (omega (arith, long))
eight (x0 ∷ x1 ∷ x2 ∷ x3 ∷ x4 ∷ x5 ∷ x6 ∷ x7 ∷ []) i s p v t g o r long short ei es ep ev et eg eo er = λ j. sym ei j
    ∷ sym es j ∷ sym ep j ∷ sym ev j ∷ sym et j ∷ sym eg j ∷ sym eo j ∷ sym er j ∷ []
eight (x0 ∷ x1 ∷ x2 ∷ x3 ∷ x4 ∷ x5 ∷ x6 ∷ x7 ∷ x8 ∷ rest) i s p v t g o r long short ei es ep ev et eg eo er =
    absurd (omega (arith, short))

-- where the first four are those of the schema, the test of the others decides
pub columns_decide : (xs : List Column) (i s p v t g o r : Column) → 8 ≤ length xs → length xs < 9
    → i ≡ get_or xs 0 i → s ≡ get_or xs 1 s → p ≡ get_or xs 2 p → v ≡ get_or xs 3 v → t ≡ get_or xs 4 t
    → g ≡ get_or xs 5 g → o ≡ get_or xs 6 o → r ≡ get_or xs 7 r
    → (i ≡ optional (codes "id") Integer) × (s ≡ given (codes "shelf") Text) × (p ≡ given (codes "path") Text)
    × (v ≡ given (codes "version") Text)
    → (b : Bool) → Decides b
    ((t ≡ optional (codes "time") Text) × (g ≡ given (codes "mod") Blob) × (o ≡ given (codes "order_key") Blob)
    × (r ≡ given (codes "rank_key") Blob))
    → Decides b (xs ≡ version_columns)
columns_decide xs i s p v t g o r long short ei es ep ev et eg eo er first_four b answer =
    let all = eight xs i s p v t g o r long short ei es ep ev et eg eo er in (
      λ h. let other = answer.0 h in all
          ∙ (λ j. first_four.0 j ∷ first_four.1 j ∷ first_four.2 j ∷ first_four.3 j ∷ other.0 j ∷ other.1 j ∷ other.2 j
          ∷ other.3 j ∷ []),
      λ is. answer.1 (
        et ∙ ap (λ l. get_or l 4 t) is,
        eg ∙ ap (λ l. get_or l 5 g) is,
        eo ∙ ap (λ l. get_or l 6 o) is,
        er ∙ ap (λ l. get_or l 7 r) is,
      ),
    )
