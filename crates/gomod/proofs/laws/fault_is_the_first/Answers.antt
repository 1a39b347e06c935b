use Rattle.gomod.proofs.FileLaw.{faulty-from_reading, reading-from_faulty}
use Rattle.gomod.proofs.laws.fault_is_the_first.Goals as goal

pub returns : goal.returns
returns c = λ known bytes f. (faulty-from_reading known bytes f, reading-from_faulty known bytes f)
