use Rattle.std.proofs.Common.{arith, inl}
use Rattle.catalog.proofs.TurnLemmas.{not_output_fails, turns_cut, turns_print}
use Rattle.catalog.proofs.walk.print_account.Goals as goal

pub returns-in-Ok-clause-prints : goal.returns-in-Ok-clause-prints
returns-in-Ok-clause-prints g c = λ m flags.
    turns_print _ _ _ _ _ _ _ c.print_versions.result (c.in-Ok.ensures.stays c.args.shelf.now)
    (c.print_versions.ensures.prints m flags)

pub returns-in-Ok-clause-went : goal.returns-in-Ok-clause-went
returns-in-Ok-clause-went g c =
    g.met.T.Turns.goes_on _ _ _ _ _ _ c.in-Ok.ensures.went c.print_versions.ensures.went

pub returns-in-Err-clause-prints : goal.returns-in-Err-clause-prints
returns-in-Err-clause-prints g c = λ m flags.
    turns_cut _ _ _ _ _ c.in-Err.why (λ w. inl c.in-Err.ensures.halts) (c.in-Err.ensures.stays c.args.shelf.now)

pub returns-in-Err-clause-fails : goal.returns-in-Err-clause-fails
returns-in-Err-clause-fails g c = not_output_fails _ _ (omega arith) _ c.in-Err.ensures.output
