use Rattle.gomod.proofs.MoreKeywords.{reads_more}
use Rattle.gomod.proofs.laws.more_keywords_read_the_same.Goals as goal

pub returns : goal.returns
returns c = reads_more
