use Rattle.std.proofs.Common.{refl}
use Rattle.commands.proofs.OutlineLines.{adds_none, adds_one}
use Rattle.commands.proofs.inventory.add_version.Goals as goal

pub returns-in_default-clause-adds : goal.returns-in_default-clause-adds
returns-in_default-clause-adds g c =
    adds_none _ _ c.args.shelf.now c.args.path.now c.args.version.now _ c.in_ok-outline.ensures.reads _ _
    c.in_default.is refl

pub returns-clause-adds : goal.returns-clause-adds
returns-clause-adds g c =
    adds_one _ _ c.args.shelf.now c.args.path.now c.args.version.now _ c.in_ok-outline.ensures.reads _ _
    c.in-Some.outline c.in_ok-row.row c.in-Some.is c.in_ok-row.ensures c.in_ok-write_row.ensures.text
