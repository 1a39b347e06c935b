use Rattle.std.proofs.Common.{◌≡◌, ◌∙◌, ap, cond, drop, None, Some, subst, sym, take}
use Rattle.std.specs.Str.{IsUtf8}
use Rattle.control.specs.HealthText.{behind_time, time_len}
use Rattle.control.proofs.HealthAscii.{no_time}
use Rattle.control.proofs.health_text.behind_time.Goals as goal

pub returns-in_default : goal.returns-in_default
unfolding behind_time
returns-in_default c =
    let text = c.args.text.now in
    let size = time_len text in
    let front : c.split_at.result.0.now ≡ take size text =
    c.split_at.ensures.front ∙ ap (λ n. take n text) c.min.ensures in
    sym (ap (λ b. cond b (Some (drop size text)) None)
    (no_time (take size text) (λ is. c.in_default.ensures.cases.0 (subst IsUtf8 (sym front) is))))
