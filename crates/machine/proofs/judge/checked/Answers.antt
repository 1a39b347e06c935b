use Rattle.std.proofs.Common.{◌∙◌, sym, ap}
use Rattle.world.specs.declared.entry.Entry.{Entry}
use Rattle.world.specs.GoMods.{reading_of}
use Rattle.machine.proofs.Checks.{refused_first, then_by_gomod}
use Rattle.machine.proofs.judge.checked.Goals as goal

pub returns-in-Err-clause-refusal : goal.returns-in-Err-clause-refusal
returns-in-Err-clause-refusal c =
    sym (refused_first c.args.publish.now c.args.right c.in-Err.refused (sym c.in-Err.ensures.refusal))

pub returns-in-Some-clause-refusal : goal.returns-in-Some-clause-refusal
returns-in-Some-clause-refusal c =
    let read = c.in_ok-gomod.ensures ∙ ap (λ (e : Entry). reading_of e.gomod) c.entry.view_is in
    sym c.in-Some.is ∙ c.gomod_refusal.ensures
    ∙ sym (then_by_gomod c.args.publish.now c.args.right c.in-Ok.entry c.in_ok-gomod.gomod
    (sym c.in-Ok.ensures.refusal) c.in-Ok.ensures.entry read)

pub returns-clause-refusal : goal.returns-clause-refusal
returns-clause-refusal c =
    let read = c.in_ok-gomod.ensures ∙ ap (λ (e : Entry). reading_of e.gomod) c.entry.view_is in
    sym c.in-None.is ∙ c.gomod_refusal.ensures
    ∙ sym (then_by_gomod c.args.publish.now c.args.right c.in-Ok.entry c.in_ok-gomod.gomod
    (sym c.in-Ok.ensures.refusal) c.in-Ok.ensures.entry read)
