use Rattle.csv.specs.Records.{fields_of}
use Rattle.commands.proofs.ImportLists.{read_more}
use Rattle.commands.proofs.import_list.read_next.Goals as goal

pub returns-in-Ok-true : goal.returns-in-Ok-true
returns-in-Ok-true g c =
    λ list rows so.
    let says = rw c.in-Ok-true.field-0-test at c.in-Ok-true.ensures in
    read_more g.R.Read.remaining c.args.reader.now c.read_record.new.self (fields_of c.read_record.new.row) list rows so
    (says.reads so.trim so.ready) says.flexible (says.ready so.trim)
