use Rattle.commands.proofs.ControlledNamed.{revokes_as_on_the_store}
use Rattle.commands.proofs.laws.revocations_end_as_on_the_store.Goals as goal

pub returns : goal.returns
returns g c = λ old new copies copies_new tally. revokes_as_on_the_store _ _ _ _ _ _
