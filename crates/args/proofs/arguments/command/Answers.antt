use Rattle.std.proofs.Common.{◌==◌, ◌≡◌, ◌∙◌, ap, arith, false, is_some, length, not, true}
use Rattle.clap.specs.Words.{Rule, app_of, rule_of, with_rule}
use Rattle.args.proofs.Left.{last_of_ten, option_added, option_is_simple}
use Rattle.args.proofs.arguments.command.Goals as goal

pub loop-option-preserved : goal.loop-option-preserved
loop-option-preserved c =
    let a = c.argument.result in
    let simple : (rule_of a).is_simple ≡ true = ap (λ (r : Rule). r.is_simple) c.argument.ensures
    ∙ option_is_simple _ in
    let local : a.global ≡ false =
    last_of_ten (length a.overrides.items == 0) (length a.default_vals_ifs.items == 0) (length a.groups.items == 0)
    (not (is_some a.val_delim)) (not (is_some a.terminator)) (not a.allow_hyphen_values) (not a.allow_negative_numbers)
    (not a.require_equals) (not a.last) a.global simple in
    let added : app_of c.in_ok-command.command ≡ with_rule (app_of c.loop-option.command) (rule_of a) =
    c.in_ok-command.ensures.shape local in
    option_added _ _ _ c.args.row.now.options.now c.loop-option.option-index _ (omega arith)
    (added ∙ ap (with_rule (app_of c.loop-option.command)) c.argument.ensures) c.loop-option.invariant
