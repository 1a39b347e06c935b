use Rattle.std.proofs.Common.{Some, sym, ◌∙◌}
use Rattle.std.proofs.lemmas.Bool.{true≢false, not-true, not_from_false, false_from_ne_true}
use Rattle.gomod.specs.Module.{is_retracted}
use Rattle.gomod.proofs.Retractions.{is_retracted-decides}
use Rattle.latest.proofs.Scans.{named_alike}
use Rattle.latest.proofs.latest_of.Goals as goal

pub returns : goal.returns
returns c =
    let m = c.args.gomod.now in
    named_alike _ _ _
    (λ v h. (
      h.0,
      λ retracted.
          true≢false (sym ((is_retracted-decides m v).1 retracted) ∙ not-true (is_retracted m v) h.1),
    ))
    (λ v h. (
      h.0,
      not_from_false (is_retracted m v)
          (false_from_ne_true (is_retracted m v) (λ e. h.1 ((is_retracted-decides m v).0 e))),
    ))
    _ (c.top_of.ensures (Some m) (c.deref.ensures.value ∙ c.in_ok-retracted.ensures))
