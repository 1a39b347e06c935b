use Rattle.cache.proofs.AbsenceLemmas.{absent_still}
use Rattle.cache.proofs.absences.Absences.forget.Goals as goal

pub returns : goal.returns
returns c w s v e are = absent_still w s c.args.path.now v e c.args.self.now c.remove.new.self c.remove.ensures are
