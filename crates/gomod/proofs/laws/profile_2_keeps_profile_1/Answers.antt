use Rattle.gomod.specs.Keywords.{profile_1, profile_2}
use Rattle.gomod.proofs.MoreKeywords.{reads_more, profile_1-within}
use Rattle.gomod.proofs.laws.profile_2_keeps_profile_1.Goals as goal

pub returns : goal.returns
returns c = λ bytes m. reads_more profile_1 profile_2 bytes m profile_1-within
