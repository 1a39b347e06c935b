-- Precedence in the words of SemVer 2.0.0, section 11.
use Rattle.std.specs.Prelude.{ℕ, ◌≡◌, ◌≢◌, ◌<◌, ◌⊎◌, true, false, List, [], ◌∷◌, ◌++◌}
use Rattle.std.specs.Str.Parse.{digits_value}
use Rattle.modver.specs.SemanticVersion.{SemanticVersion, is_numeric}

-- two lists have a common beginning, and then the first has an item that is lower than the item of the second
pub record DiffersFirst {A : Type 0} (R : A → A → Type 0) (xs ys : List A) : Type 0 where
  pub common : List A
  pub left : A
  pub left_rest : List A
  pub right : A
  pub right_rest : List A
  pub left_is : xs ≡ common ++ left ∷ left_rest
  pub right_is : ys ≡ common ++ right ∷ right_rest
  pub lower : R left right

-- the second list begins with the first and is longer
pub record GoesOn {A : Type 0} (xs ys : List A) : Type 0 where
  pub next : A
  pub rest : List A
  pub longer : ys ≡ xs ++ next ∷ rest

-- one list is lower than another: the other continues it, or it has the lower item at the first difference
abbrev pub IsLexicallyLower : {A : Type 0} → (A → A → Type 0) → List A → List A → Type 0
IsLexicallyLower R xs ys = GoesOn xs ys ⊎ DiffersFirst R xs ys

-- identifiers of digits only, compared as numbers (11.4.1)
abbrev pub IsLowerNumber : List ℕ → List ℕ → Type 0
IsLowerNumber x y = (is_numeric x ≡ true) × (is_numeric y ≡ true) × (digits_value 10 x < digits_value 10 y)

-- identifiers with letters or hyphens, compared in the order of ASCII (11.4.2)
abbrev pub IsLowerWord : List ℕ → List ℕ → Type 0
IsLowerWord x y = (is_numeric x ≡ false) × (is_numeric y ≡ false) × IsLexicallyLower (λ (a : ℕ) (b : ℕ). a < b) x y

-- a number is lower than another identifier (11.4.3)
abbrev pub IsNumberBeforeWord : List ℕ → List ℕ → Type 0
IsNumberBeforeWord x y = (is_numeric x ≡ true) × (is_numeric y ≡ false)

abbrev pub IsLowerIdentifier : List ℕ → List ℕ → Type 0
IsLowerIdentifier x y = IsLowerNumber x y ⊎ (IsLowerWord x y ⊎ IsNumberBeforeWord x y)

-- a pre-release is lower than the release (11.3); two compare by the first identifiers that differ, and if all of the
-- shorter are equal, the longer is higher (11.4)
abbrev pub IsLowerPreRelease : List (List ℕ) → List (List ℕ) → Type 0
IsLowerPreRelease xs [] = xs ≢ []
IsLowerPreRelease [] (y ∷ ys) = ⊥
IsLowerPreRelease (x ∷ xs) (y ∷ ys) = IsLexicallyLower IsLowerIdentifier (x ∷ xs) (y ∷ ys)

-- one version has lower precedence than another: by the first of major, minor, patch and pre-release that differs
-- (11.2)
abbrev pub HasLowerPrecedence : SemanticVersion → SemanticVersion → Type 0
HasLowerPrecedence u v =
    (u.major < v.major)
    ⊎ ((u.major ≡ v.major) × (u.minor < v.minor))
    ⊎ ((u.major ≡ v.major) × (u.minor ≡ v.minor) × (u.patch < v.patch))
    ⊎ ((u.major ≡ v.major) × (u.minor ≡ v.minor) × (u.patch ≡ v.patch) × IsLowerPreRelease u.identifiers v.identifiers)
