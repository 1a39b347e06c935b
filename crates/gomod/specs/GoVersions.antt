-- Go versions by their form, such as `1.21`, `1.21.3`, `1.21rc1` and `1.21beta2`.
use Rattle.std.specs.Prelude.{◌≡◌, ℕ, true, List, [], ◌∷◌, ◌++◌, codes, ◌⊎◌}
use Rattle.gomod.specs.GoVersion.{is_decimal}

-- one or more digits without a leading zero, or `0`
abbrev pub IsDecimal : List ℕ → Type 0
IsDecimal digits = is_decimal digits ≡ true

-- what follows the minor number: nothing, or a dot, `rc` or `beta` and a number
abbrev pub IsTail : List ℕ → Type 0
IsTail tail =
    (tail ≡ [])
    ⊎ ((n : List ℕ) × IsDecimal n × ((tail ≡ codes "." ++ n) ⊎ ((tail ≡ codes "rc" ++ n) ⊎ (tail ≡ codes "beta" ++ n))))

-- a major number, a dot, a minor number and what follows it
pub record IsGoVersion (text : List ℕ) : Type 0 where
  pub major : List ℕ
  pub minor : List ℕ
  pub tail : List ℕ
  pub is_major : IsDecimal major
  pub is_minor : IsDecimal minor
  pub is_tail : IsTail tail
  pub spelled : text ≡ major ++ 46 ∷ (minor ++ tail)
