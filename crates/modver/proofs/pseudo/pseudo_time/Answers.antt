use Rattle.std.proofs.Common.{◌≡◌, ◌∙◌, ◌==◌, ◌&&◌, ℕ, List, true, false, refl, inl, inr}
use Rattle.std.proofs.lemmas.Bool.{cases_Bool, eqb-true}
use Rattle.modver.specs.Class.{stamp_of}
use Rattle.modver.specs.Parts.{identifiers_of}
use Rattle.modver.specs.SemanticVersion.{SemanticVersion}
use Rattle.modver.proofs.DotParts.{time-more, time-one}
use Rattle.modver.proofs.SemVerText.{make}
use Rattle.modver.proofs.pseudo.pseudo_time.Goals as goal
use Rattle.modver.proofs.pseudo.pseudo_time.Goals.{else-minor-eq0-via-then-minor-eq0+else-patch-eq0}
use Rattle.modver.proofs.pseudo.pseudo_time.Goals.{else-minor-eq0-via-else-minor-eq0}

-- a version of this minor, patch and pre-release
abbrev by : ℕ → ℕ → List ℕ → SemanticVersion
by minor patch pre = make 0 minor patch (identifiers_of pre) false

not-second : (m n : ℕ) → (n ≡ 0 → ⊥) → false ≡ ((m == 0) && (n == 0))
not-second m n h = elim (cases_Bool (n == 0)) [
  | inl zero ↦ absurd (h (eqb-true n 0 zero))
  | inr some ↦ elim (cases_Bool (m == 0)) [ inl e ↦ rw (e, some) refl | inr e ↦ rw e refl ]
]

not-first : (m n : ℕ) → (m ≡ 0 → ⊥) → false ≡ ((m == 0) && (n == 0))
not-first m n h = elim (cases_Bool (m == 0)) [ inl e ↦ absurd (h (eqb-true m 0 e)) | inr e ↦ rw e refl ]

pub returns-then-patch-eq0 : goal.returns-then-patch-eq0
unfolding stamp_of
returns-then-patch-eq0 c =
    let both : true ≡ ((c.args.minor == 0) && (c.args.patch == 0)) =
    rw (c.if-minor-eq0.true, c.if-patch-eq0.true) refl in
    c.time_of_identifier.ensures
    ∙ time-one (by c.args.minor c.args.patch c.args.pre_release.now) c.args.pre_release.now refl c.in-None.ensures
    true both

pub returns-else-minor-eq0 : goal.returns-else-minor-eq0
unfolding stamp_of
returns-else-minor-eq0 c =
    let other : false ≡ ((c.args.minor == 0) && (c.args.patch == 0)) = elim c.else-minor-eq0.branch [
      | else-minor-eq0-via-then-minor-eq0+else-patch-eq0 w ↦
          not-second c.args.minor c.args.patch (λ e. w.if-patch-eq0.false e)
      | else-minor-eq0-via-else-minor-eq0 w ↦ not-first c.args.minor c.args.patch (λ e. w.if-minor-eq0.false e)
    ] in
    time-one (by c.args.minor c.args.patch c.args.pre_release.now) c.args.pre_release.now refl c.in-None.ensures false
    other

pub returns-then-is_base : goal.returns-then-is_base
unfolding stamp_of
returns-then-is_base c =
    c.time_of_identifier-then-is_base.ensures
    ∙ time-more (by c.args.minor c.args.patch c.args.pre_release.now) c.args.pre_release.now c.in-Some.front.now
    c.in-Some.last.now refl c.in-Some.ensures true (c.if-is_base.ensures c.args.minor)

pub returns-else-is_base : goal.returns-else-is_base
unfolding stamp_of
returns-else-is_base c =
    time-more (by c.args.minor c.args.patch c.args.pre_release.now) c.args.pre_release.now c.in-Some.front.now
    c.in-Some.last.now refl c.in-Some.ensures false (c.if-is_base.ensures c.args.minor)
