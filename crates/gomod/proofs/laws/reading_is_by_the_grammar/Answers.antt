use Rattle.gomod.proofs.FileLaw.{reads-from_reading, reading-from_reads}
use Rattle.gomod.proofs.laws.reading_is_by_the_grammar.Goals as goal

pub returns : goal.returns
returns c = λ known bytes m. (reads-from_reading known bytes m, reading-from_reads known bytes m)
