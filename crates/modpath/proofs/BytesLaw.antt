-- The bytes of a path are those of its elements, and slashes.
use Rattle.std.proofs.Common.{◌≡◌, ◌==◌, ◌⊎◌, ◌||◌, ℕ, List, [], ◌∷◌, Bool, true, false, refl, ap, ◌∙◌, inl, inr, subst}
use Rattle.std.proofs.lemmas.Bool.{and_from, and_parts, eqb-true, or_cases, or_left}
use Rattle.std.proofs.lemmas.List.Elements.{All-head, All-tail, All-weaker}
use Rattle.std.proofs.lemmas.List.Folds.{list_all-append}
use Rattle.std.specs.List.{All, join_with_byte, list_all}
use Rattle.modpath.specs.ModulePath.{IsElement, IsElementByte}
use Rattle.modpath.specs.Path.{IsLoosePath, elements, is_element_byte}
use Rattle.modpath.specs.PathLaws.{PathBytes, PathsCanBeUnescaped}
use Rattle.modpath.proofs.ElementLaw.{all_exact, element_byte-from, element_byte-to, element_bytes_are_exact}
use Rattle.modpath.proofs.PathLaw.{loose_check_is_exact}
use Rattle.modpath.proofs.Separators.{digits-have_no, has}
use Rattle.modpath.proofs.StemLaw.{elements_are_exact}

-- a byte of an element, or a slash
abbrev pub is_path_byte : ℕ → Bool
is_path_byte b = is_element_byte b || (b == 47)

all-weaker : (p q : ℕ → Bool) → ((x : ℕ) → p x ≡ true → q x ≡ true) → (xs : List ℕ) → list_all p xs ≡ true
    → list_all q xs ≡ true
all-weaker p q each [] h = refl
all-weaker p q each (x ∷ xs) h = let a = and_parts _ _ h in and_from _ _ (each x a.0) (all-weaker p q each xs a.1)

join-all : (p : ℕ → Bool) (sep : ℕ) → p sep ≡ true → (es : List (List ℕ)) → All (λ e. list_all p e ≡ true) es
    → list_all p (join_with_byte sep es) ≡ true
join-all p sep h [] all = refl
join-all p sep h (x ∷ []) all = All-head (λ e. list_all p e ≡ true) x [] all
join-all p sep h (x ∷ y ∷ es) all =
    let rest = join-all p sep h (y ∷ es) (All-tail (λ e. list_all p e ≡ true) x (y ∷ es) all) in
    list_all-append p x (sep ∷ join_with_byte sep (y ∷ es))
    ∙ and_from _ _ (All-head (λ e. list_all p e ≡ true) x (y ∷ es) all) (and_from _ _ h rest)

element-all : (e : List ℕ) → IsElement e → list_all is_path_byte e ≡ true
element-all e u =
    all-weaker is_element_byte is_path_byte (λ x h. or_left _ _ h) e
    (and_parts _ _ ((element_bytes_are_exact e).1 u.bytes)).1

-- each byte of a path is such a byte
pub all_path_bytes : (text : List ℕ) → IsLoosePath text → list_all is_path_byte text ≡ true
all_path_bytes text h =
    let each = All-weaker IsElement (λ e. list_all is_path_byte e ≡ true) element-all (elements text)
    ((loose_check_is_exact text).0 h).each in
    subst (λ (t : List ℕ). list_all is_path_byte t ≡ true) (elements_are_exact text).joined
    (join-all is_path_byte 47 refl (elements text) each)

pub path_bytes : PathBytes
path_bytes text h =
    (all_exact is_path_byte (λ b. IsElementByte b ⊎ (b ≡ 47)) (λ b. (
      λ t. elim (or_cases _ _ t) [ inl byte ↦ inl (element_byte-to b byte) | inr slash ↦ inr (eqb-true b 47 slash) ],
      λ u. path_byte-from b u,
    )) text).0 (all_path_bytes text h)
  where
    path_byte-from : (b : ℕ) → IsElementByte b ⊎ (b ≡ 47) → is_path_byte b ≡ true
    path_byte-from b u = elim u [
      | inl byte ↦ or_left _ _ (element_byte-from b byte)
      | inr slash ↦ ap is_path_byte slash
    ]

-- a path has no byte but these
pub path-has_no : (c : ℕ) → is_path_byte c ≡ false → (text : List ℕ) → IsLoosePath text → has c text ≡ false
path-has_no c none text h = digits-have_no c is_path_byte none text (all_path_bytes text h)

pub paths_can_be_unescaped : PathsCanBeUnescaped
paths_can_be_unescaped text h = record { same = refl; no_bang = path-has_no 33 refl text h }
