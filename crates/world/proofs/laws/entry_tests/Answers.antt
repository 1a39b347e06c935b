use Rattle.world.proofs.EntryTests.{entry_exact}
use Rattle.world.proofs.laws.entry_tests.Goals as goal

pub returns : goal.returns
returns c = entry_exact
