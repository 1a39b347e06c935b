use Rattle.std.proofs.Common.{◌∙◌, sym, ap, Some}
use Rattle.machine.specs.declared.reply.Decision.{Decision}
use Rattle.machine.proofs.Misfits.{refused_entry}
use Rattle.machine.proofs.decide.fitting_entry.Goals as goal

pub returns-in-Some-own_misfit-clause-refusal : goal.returns-in-Some-own_misfit-clause-refusal
returns-in-Some-own_misfit-clause-refusal c =
    let given = c.is_bad_time-is_bad.ensures in
    ap (λ (d : Decision). Some d) c.decision_of.ensures
    ∙ refused_entry c.args.publish.now c.in-Some.entry c.in-Some-own_misfit.misfit (sym c.entry.ensures ∙ c.in-Some.is)
    (λ bad. given.malformed (given.exact ∙ bad)) (sym c.own_misfit.ensures ∙ c.in-Some-own_misfit.is)
