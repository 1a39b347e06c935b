use Rattle.std.proofs.Common.{◌∙◌, ap}
use Rattle.std.specs.FinSet as set
use Rattle.world.proofs.Orders.{places_total, places_exact}
use Rattle.world.proofs.Retained.{insert_item}
use Rattle.interleave.proofs.newcomers.Newcomers.note.Goals as goal

pub returns-clause-ok : goal.returns-clause-ok
returns-clause-ok c =
    insert_item places_total places_exact c.self.inside.places.keys c.insert.new.self.keys c.args.place
    c.in_ok-insert.ensures.updates.0
    ∙ ap (λ s. set.insert s c.args.place) c.self.view_is
