use Rattle.gomod.proofs.FileLaw.{reads_or_is_faulty}
use Rattle.gomod.proofs.laws.file_reads_or_is_faulty.Goals as goal

pub returns : goal.returns
returns c = reads_or_is_faulty
