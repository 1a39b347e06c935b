use Rattle.commands.proofs.Controlled.{ends_as_on_the_store}
use Rattle.commands.proofs.laws.orders_end_as_on_the_store.Goals as goal

pub returns : goal.returns
returns g c = λ old new copies copies_new tally. ends_as_on_the_store _ _ _ _ _ _ (g.met.S.Shelves.sound old)
