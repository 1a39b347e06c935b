use Rattle.commands.specs.Import.{request_of}
use Rattle.commands.specs.ImportList.{line_of_row}
use Rattle.commands.proofs.Imports.{published}
use Rattle.commands.proofs.import.publish_row.Goals as goal

pub returns : goal.returns
returns g c =
    let does = rw c.time_of.ensures at c.publish_by.ensures in
    published _ _ (request_of c.args.key.now (line_of_row c.args.row.now) c.args.body) c.publish_by.result _ does
    c.answer_of.ensures
