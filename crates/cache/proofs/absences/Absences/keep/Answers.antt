use Rattle.cache.proofs.AbsenceLemmas.{same_or_none}
use Rattle.cache.proofs.absences.Absences.keep.Goals as goal

pub returns : goal.returns
returns c = λ w are is. c.add.ensures w (same_or_none w c.args.self.now c.make_room.new.self c.make_room.ensures are) is
