use Rattle.std.proofs.Common.{ap, sym, ◌∙◌}
use Rattle.std.proofs.lemmas.Bool.{not-false, eqb-true}
use Rattle.sqlite_disk.specs.declared.tally.Tally.{Tally}
use Rattle.store.proofs.FileLemmas.{left_holds_none}
use Rattle.store.proofs.files.connect_judged.Goals as goal

pub returns-in-Err-clause-bad : goal.returns-in-Err-clause-bad
returns-in-Err-clause-bad g c bad clean =
    let (uncaught, error) = c.file_refusal-refusal.ensures.bad.0 bad in
    let count = λ (t : Tally). t.caught in
    let same = sym (ap count c.tally_of.ensures) ∙ eqb-true _ _ (not-false _ uncaught)
    ∙ ap count c.tally-caught.ensures in
    left_holds_none c.args.files c.in-Err.left c.in-Err.error (c.in-Err.ensures.cause clean) same error
