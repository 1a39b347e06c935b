use Rattle.std.proofs.Common.{◌∙◌, sym, ap}
use Rattle.std.specs.FinSet as set
use Rattle.world.proofs.Orders.{places_total}
use Rattle.world.proofs.Retained.{contains_any}
use Rattle.interleave.proofs.newcomers.Newcomers.has.Goals as goal

pub returns : goal.returns
returns c = c.contains.ensures
    ∙ (sym (contains_any places_total c.self.inside.places.keys c.args.place.now)
    ∙ ap (λ s. set.contains s c.args.place.now) c.self.view_is)
