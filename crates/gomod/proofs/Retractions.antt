-- The test whether a version is retracted decides it.
use Rattle.std.proofs.Common.{◌≡◌, true, ◌↔◌}
use Rattle.std.proofs.lemmas.Bool.{and_parts, and_from, not-true, not_from_false, false_from_ne_true, both_ways}
use Rattle.std.proofs.lemmas.List.Folds.{Any-from_list_any, list_any-from_Any}
use Rattle.gomod.specs.Paths.{Version}
use Rattle.gomod.specs.Module.{Interval, GoModule, covers, Covers, is_retracted, IsRetracted}
use Rattle.gomod.proofs.Orders.{is_below-true, is_below-from}

covers-from : (v : Version) (i : Interval) → Covers v i → covers v i ≡ true
covers-from v i h =
    and_from _ _
    (not_from_false _ (false_from_ne_true _ (λ e. h.0 (is_below-true v i.low e))))
    (not_from_false _ (false_from_ne_true _ (λ e. h.1 (is_below-true i.high v e))))

covers-true : (v : Version) (i : Interval) → covers v i ≡ true → Covers v i
covers-true v i h =
    let both = and_parts _ _ h in (
      λ b. both_ways _ (not-true _ both.0) (is_below-from v i.low b),
      λ b.
          both_ways _ (not-true _ both.1) (is_below-from i.high v b),
    )

pub is_retracted-decides : (m : GoModule) (v : Version) → (is_retracted m v ≡ true) ↔ IsRetracted m v
is_retracted-decides m v = (
  λ h. (let a = Any-from_list_any (covers v) m.retractions h in (a.0, a.1, a.2, a.3, covers-true v a.1 a.4)),
  λ a. list_any-from_Any (covers v) m.retractions (a.0, a.1, a.2, a.3, covers-from v a.1 a.4),
)
