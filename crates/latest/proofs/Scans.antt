-- The highest of the first versions of a list.
use Rattle.std.proofs.Common.{◌≡◌, ◌<◌, ◌+◌, ℕ, zero, suc, List, [], ◌∷◌, Bool, true, false, refl, sym, ◌∙◌, ap, subst}
use Rattle.std.proofs.Common.{Option, Some, None, length, inl, inr, ◌⊎◌, arith, get_or}
use Rattle.std.specs.Prelude.{slice_get, unwrap_or}
use Rattle.std.specs.declared.cmp.Ordering.{Ordering}
use Rattle.std.specs.declared.cmp.Ordering.TheVariants.{Less, Equal, Greater}
use Rattle.std.proofs.Math.Nat.{eq-or-lt_of_le}
use Rattle.std.proofs.lemmas.Bool.{true≢false}
use Rattle.gomod.specs.Module.{GoModule}
use Rattle.modver.specs.Fits.{IsVersionOf}
use Rattle.modver.specs.Rank.{IsAbove, rank_cmp}
use Rattle.modver.specs.SemanticVersion.{SemanticVersion}
use Rattle.modver.proofs.Ranks.{rank-orders}
use Rattle.latest.specs.Latest.{IsBest, IsTop, NamesTop, TopIsOne, Versions, among, unretracted, is_above_at}
use Rattle.latest.specs.Latest.{is_greater, is_higher, counting, counts}

-- ---- indexes of a list

some_same : {X : Type 0} (a b : X) → ◌≡◌ {A = Option X} (Some a) (Some b) → a ≡ b
some_same a b e = ap (λ o. unwrap_or o a) e

none_some : {X : Type 0} (b : X) → ◌≡◌ {A = Option X} None (Some b) → ⊥
none_some b e = true≢false (sym (ap is_there e))
  where
    is_there : {X : Type 0} → Option X → Bool
    is_there None = false
    is_there (Some x) = true

at_index : {X : Type 0} (xs : List X) (k : ℕ) (x : X) → slice_get xs k ≡ Some x → (k < length xs) × (get_or xs k x ≡ x)
at_index [] k x e = absurd (none_some x e)
at_index (y ∷ ys) zero x e = (omega arith, some_same y x e)
at_index (y ∷ ys) (suc k) x e = let rest = at_index ys k x e in (omega (arith, rest.0), rest.1)

pub found : {X : Type 0} (xs : List X) (k : ℕ) (x : X) → k < length xs → get_or xs k x ≡ x → slice_get xs k ≡ Some x
found [] k x less e = absurd (omega (arith, less))
found (y ∷ ys) zero x less e = ap Some e
found (y ∷ ys) (suc k) x less e = found ys k x (omega (arith, less)) e

-- ---- the scan

module _ (vs : List SemanticVersion) (m : Option GoModule) where
  pub begins : IsBest vs m 0 None
  begins k u less e h = omega (arith, less)

  last_or_before : (k n : ℕ) → k < n + 1 → (k ≡ n) ⊎ (k < n)
  last_or_before k n less = eq-or-lt_of_le (omega (arith, less))

  module _ (n : ℕ) (x : SemanticVersion) (at : slice_get vs n ≡ Some x) where
    is_last : (k : ℕ) (u : SemanticVersion) → k ≡ n → slice_get vs k ≡ Some u → x ≡ u
    is_last k u same e = some_same x u (sym at ∙ sym (ap (slice_get vs) same) ∙ e)

    -- a version that does not count leaves the best as it is
    pub passed_over : (best : Option ℕ) → IsBest vs m n best → counts m x ≡ false → IsBest vs m (n + 1) best
    passed_over None none out = λ k u less e h. elim (last_or_before k n less) [
      | inl same ↦ true≢false (sym h ∙ ap (counts m) (sym (is_last k u same e)) ∙ out)
      | inr before ↦ none k u before e h
    ]
    passed_over (Some p) b out = (
      b.0,
      b.1,
      b.2,
      λ k u less e h. elim (last_or_before k n less) [
        | inl same ↦ absurd (true≢false (sym h ∙ ap (counts m) (sym (is_last k u same e)) ∙ out))
        | inr before ↦ b.3 k u before e h
      ],
    )

    -- a version that is not above the best leaves it as it is
    pub not_above : (best : Option ℕ) → IsBest vs m n best → is_higher vs x best ≡ false → IsBest vs m (n + 1) best
    not_above None none low = absurd (true≢false low)
    not_above (Some p) b low = (
      b.0,
      b.1,
      b.2,
      λ k u less e h. elim (last_or_before k n less) [
        | inl same ↦ λ above. true≢false
            (sym (ap is_greater (ap (λ y. rank_cmp y b.0) (is_last k u same e) ∙ above)) ∙ ap (is_above_at x) (sym b.1)
            ∙ low)
        | inr before ↦ b.3 k u before e h
      ],
    )

    greater : (o : Ordering) → is_greater o ≡ true → o ≡ Greater
    greater Less e = absurd (true≢false (sym e))
    greater Equal e = absurd (true≢false (sym e))
    greater Greater e = refl

    itself : ¬ IsAbove x x
    itself = (rank-orders []).irreflexive x

    -- a version that counts and is above the best is the new best
    pub above : (best : Option ℕ) → IsBest vs m n best → counts m x ≡ true → is_higher vs x best ≡ true
        → IsBest vs m (n + 1) (Some n)
    above None none h high = (
      x,
      at,
      h,
      λ k u less e counted. elim (last_or_before k n less) [
        | inl same ↦ subst (λ y. ¬ IsAbove y x) (is_last k u same e) itself
        | inr before ↦ absurd (none k u before e counted)
      ],
    )
    above (Some p) b h high =
        let over : IsAbove x b.0 = greater (rank_cmp x b.0) (ap (is_above_at x) (sym b.1) ∙ high) in (
          x,
          at,
          h,
          λ k u less e counted. elim (last_or_before k n less) [
            | inl same ↦ subst (λ y. ¬ IsAbove y x) (is_last k u same e) itself
            | inr before ↦ λ higher. b.3 k u before e counted ((rank-orders []).transitive u x b.0 higher over)
          ],
        )

  -- the best of all versions names the top of those that count
  pub named : (best : Option ℕ) → IsBest vs m (length vs) best → NamesTop vs (counting vs m) best
  named None none = λ v h. none h.0.0 v h.0.1 (found vs h.0.0 v h.0.1 h.0.2) h.1
  named (Some p) b =
      let at = at_index vs p b.0 b.1 in (
        b.0,
        b.1,
        record {
          member = ((p, at.0, at.1), b.2);
          highest = λ u h. b.3 h.0.0 u h.0.1 (found vs h.0.0 u h.0.1 h.0.2) h.1;
        },
      )

-- the top of a set is that of another with the same versions
pub named_alike : (vs : List SemanticVersion) (one other : Versions) → ((v : SemanticVersion) → one v → other v)
    → ((v : SemanticVersion) → other v → one v)
    → (answer : Option ℕ) → NamesTop vs one answer → NamesTop vs other answer
named_alike vs one other to from None none = λ v h. none v (from v h)
named_alike vs one other to from (Some p) top = (
  top.0,
  top.1,
  record {
    member = to top.0 top.2.member;
    highest = λ u h. top.2.highest u (from u h);
  },
)

one_top : (path : List ℕ) (set : Versions) → ((x : SemanticVersion) → set x → IsVersionOf path x)
    → (u v : SemanticVersion)
    → IsTop set u → IsTop set v → u ≡ v
one_top path set fit u v one other = elim ((rank-orders path).total u v (fit u one.member) (fit v other.member)) [
  | inl above ↦ absurd (other.highest u one.member above)
  | inr rest ↦ elim rest [ inl same ↦ same | inr above ↦ absurd (one.highest v other.member above) ]
]

pub top_one : TopIsOne
top_one path vs fit u v = (
  one_top path (among vs) fit u v,
  λ m. one_top path (unretracted vs m) (λ x h. fit x h.0) u v,
)
