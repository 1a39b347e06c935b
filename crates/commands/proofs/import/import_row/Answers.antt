use Rattle.std.proofs.Common.{Err, subst}
use Rattle.commands.specs.ImportFiles.{IsBodyOf}
use Rattle.commands.specs.ImportList.{line_of_row}
use Rattle.commands.specs.Sources.{Adds}
use Rattle.commands.proofs.Imports.{row_published, row_without_file, row_unfetched}
use Rattle.commands.proofs.import.import_row.Goals as goal

pub returns-in-Ok : goal.returns-in-Ok
returns-in-Ok g c =
    row_published c.args.key.now _ _ _ _ (line_of_row c.args.row.now) c.in-Ok.body _
    c.in-Ok.ensures c.publish_row.ensures

pub returns-in-Err-NoFile : goal.returns-in-Err-NoFile
returns-in-Err-NoFile g c =
    let line = line_of_row c.args.row.now in
    row_without_file c.args.key.now _ _ _ line
    (subst (λ f. Adds (g.F.Sources.history c.args.sources.now) (g.F.Sources.history c.body_of.new.sources)
    (IsBodyOf line (Err f))) c.in-Err-NoFile.field-0-is c.in-Err-NoFile.ensures)

pub returns-in-Err-Memory : goal.returns-in-Err-Memory
returns-in-Err-Memory g c =
    let line = line_of_row c.args.row.now in
    row_unfetched c.args.key.now _ _ _ line
    (subst (λ f. Adds (g.F.Sources.history c.args.sources.now) (g.F.Sources.history c.body_of.new.sources)
    (IsBodyOf line (Err f))) c.in-Err-Memory.field-0-is c.in-Err-Memory.ensures)
