-- Every version and every path that a shelf sees has a line.
use Rattle.std.proofs.Common.{◌≡◌, ◌∙◌, ◌++◌, ℕ, List, [], ◌∷◌, Option, Some, None, ap, subst, sym, refl, inl, inr}
use Rattle.std.specs.List.{flat_map}
use Rattle.std.specs.Prelude.{◌⊎◌, Contains, cond, is_ok, is_some, true}
use Rattle.modver.specs.SemanticVersion.{SemanticVersion, version_text}
use Rattle.world.proofs.Members.{member_cases, no_member, in_set_of}
use Rattle.world.proofs.Orders.{texts_total, texts_exact}
use Rattle.world.proofs.Seen.{contains_paths}
use Rattle.world.proofs.SeenVersions.{entry_at, seen_members, version_there}
use Rattle.world.specs.Forms.{path_of}
use Rattle.world.specs.Latest.{latest_of}
use Rattle.world.specs.Lines.{in_order}
use Rattle.world.specs.Versions.{versions_of}
use Rattle.world.specs.Visible.{IsSeen, paths_seen}
use Rattle.world.specs.World.{World, IsWorld, view}
use Rattle.world.specs.declared.entry.Seen.{Seen}
use Rattle.catalog.specs.Catalog.{line_at, lines_at, lines_of_path, lines_of_text, marks_of, ruling, seen_line}
use Rattle.catalog.specs.Meanwhile.{HaltsOrLacks, HaltsOrUnseen}
use Rattle.catalog.specs.declared.line.Marks.{Marks}

front_none : (a b : List ℕ) → a ++ b ≡ [] → a ≡ []
front_none [] b none = refl
front_none (x ∷ xs) b none = cc

-- where several pieces have no line, none of them has one
pub piece_none : {X : Type 0} (f : X → List ℕ) (xs : List X) (x : X) → Contains xs x → flat_map f xs ≡ [] → f x ≡ []
piece_none f [] x at none = absurd (no_member x at)
piece_none f (y ∷ ys) x at none = elim (member_cases y x ys at) [
  | inl same ↦ ap f (sym same) ∙ front_none (f y) (flat_map f ys) none
  | inr later ↦ piece_none f ys x later (back_none (f y) (flat_map f ys) none)
]
  where
    back_none : (a b : List ℕ) → a ++ b ≡ [] → b ≡ []
    back_none [] b none = none
    back_none (x ∷ xs) b none = cc

-- a version without a line is not seen
pub unseen : (w : World) (s p : List ℕ) (v : SemanticVersion) (marks : Marks) → line_at w s p v marks ≡ []
    → view w s p (version_text v) ≡ None
unseen w s p v marks none = by (view w s p (version_text v)) none
  where
    by : (seen : Option Seen) → seen_line s p v marks seen ≡ [] → seen ≡ None
    by None none = refl
    by (Some it) none = cc

module _ (w : World) (is : IsWorld w) (s : List ℕ) where
  -- each version of a path is seen
  pub all_seen : (p : List ℕ) (v : SemanticVersion) → Contains (versions_of w s p) v
      → view w s p (version_text v) ≡ None → ⊥
  all_seen p v at none =
      let seen = ((seen_members w is s p v).0 at).1 in
      let bad : None ≡ Some seen.0 = sym none ∙ seen.1 in cc

  -- a path of which a version is seen has a line
  pub path_has_line : (p t : List ℕ) → IsSeen w s p t → lines_of_path w s p ≡ [] → ⊥
  path_has_line p t seen none =
      let v = version_there w is s p t seen in
      let at = (seen_members w is s p v.0).1 v.1 in
      let marks = marks_of (ruling w s p) (latest_of w s p) v.0 in
      all_seen p v.0 at (unseen w s p v.0 marks
      (piece_none (λ u. line_at w s p u (marks_of (ruling w s p) (latest_of w s p) u)) (versions_of w s p) v.0 at none))

  -- the text of a path that is seen is one, and has a line
  pub text_has_line : (t : List ℕ) → Contains (in_order (paths_seen w s)) t → lines_of_text w s t ≡ [] → ⊥
  text_has_line t at none =
      let by = (contains_paths w s t).0 (in_set_of texts_total texts_exact (paths_seen w s) t at) in
      let seen : IsSeen w s t by.0 = is_there (view w s t by.0) by.1 in
      let path : path_of t ≡ Some t =
      ap (λ b. cond b (Some t) None) (ap is_ok (entry_at w is s t by.0 seen).path) in
      path_has_line t by.0 seen (ap (lines_at w s) (sym path) ∙ none)
    where
      is_there : (o : Option Seen) → is_some o ≡ true → (e : Seen) × (o ≡ Some e)
      is_there None some = cc
      is_there (Some e) some = (e, refl)

-- ---- where a failure came after the last line

module _ (halts : Type 0) (w : World) where
  -- of one of these versions
  pub or_lacks : (s p : List ℕ) (vs : List SemanticVersion) (v : SemanticVersion) → Contains vs v
      → HaltsOrUnseen halts s p v w → HaltsOrLacks halts s p vs w
  or_lacks s p vs v at (inl turn) = inl turn
  or_lacks s p vs v at (inr none) = inr (v, at, none)

  -- of a path, all versions of which are seen
  pub none_lacks : (is : IsWorld w) (s p : List ℕ) (vs : List SemanticVersion) → vs ≡ versions_of w s p
      → (lines : List ℕ) → HaltsOrLacks halts s p vs w → halts ⊎ (lines ≡ [])
  none_lacks is s p vs same lines (inl turn) = inl turn
  none_lacks is s p vs same lines (inr one) =
      absurd (all_seen w is s p one.0 (subst (λ us. Contains us one.0) same one.1) one.2)

  -- of one of the paths that are seen
  pub text_halts : (is : IsWorld w) (s t : List ℕ) (lines : List ℕ) → Contains (in_order (paths_seen w s)) t
      → halts ⊎ (lines_of_text w s t ≡ []) → halts ⊎ (lines ≡ [])
  text_halts is s t lines at (inl turn) = inl turn
  text_halts is s t lines at (inr none) = absurd (text_has_line w is s t at none)
