use Rattle.std.proofs.Common.{◌∙◌, ap}
use Rattle.std.specs.FinMap as map
use Rattle.world.specs.FinMaps.{by_text}
use Rattle.world.proofs.MapsTexts.{remove_text}
use Rattle.cache.proofs.AbsenceLemmas.{pairs_left}
use Rattle.cache.proofs.absences.Absences.remove.Goals as goal

pub invariant_of-self : goal.invariant_of-self
invariant_of-self c =
    let rest = remove_text c.self.inside.paths c.remove.new.self c.args.path.now c.remove.ensures.updates in (
      pairs_left (by_text c.self.inside.paths.entries) (by_text c.remove.new.self.entries) c.args.path.now
          c.self.inside.number rest c.self.invariant.0,
      c.self.invariant.1,
    )

pub returns : goal.returns
returns c =
    let rest = remove_text c.self.inside.paths c.remove.new.self c.args.path.now c.remove.ensures.updates in
    rest ∙ ap (λ m. map.remove m c.args.path.now) c.self.view_is
