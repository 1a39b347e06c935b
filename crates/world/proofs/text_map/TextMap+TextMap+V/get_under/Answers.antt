use Rattle.std.proofs.Common.{◌∙◌}
use Rattle.world.proofs.MapsNested.{nothing_under, something_under}
use Rattle.world.proofs.text_map.TextMap+TextMap+V.get_under.Goals as goal

pub returns-in_err-get : goal.returns-in_err-get
returns-in_err-get g c =
    rw c.from_residual.ensures (nothing_under c.args.self.now c.args.first.now c.args.second.now c.in_err-get.ensures)

pub returns : goal.returns
returns g c = c.get-2.ensures
    ∙ something_under c.args.self.now c.args.first.now c.args.second.now c.in_ok-get.field-0.now c.in_ok-get.ensures
