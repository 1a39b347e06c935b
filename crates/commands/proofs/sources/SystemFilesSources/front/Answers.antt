use Rattle.commands.proofs.SourceLemmas.{gave_so, read_noted}
use Rattle.commands.proofs.sources.SystemFilesSources.front.Goals as goal

pub returns-in-Ok : goal.returns-in-Ok
returns-in-Ok c =
    read_noted _ c.args.most _ _ _ c.hear_front-front.result c.hear_front-front.new.reader
    (rw (c.as_bytes.ensures.value, c.deed_of.ensures) at c.note.ensures)
    (gave_so c.args.most _ _ _ _ _ c.new-reader.ensures.came c.hear_front-front.ensures.hears)
