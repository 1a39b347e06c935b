use Rattle.std.proofs.Common.{refl}
use Rattle.commands.proofs.SourceLemmas.{memory_noted, unopened_noted}
use Rattle.commands.specs.MemoryFiles.{account_of}
use Rattle.commands.proofs.memory_files.FilesInMemorySources.front.Goals as goal

pub returns-in-Ok-clause-history : goal.returns-in-Ok-clause-history
returns-in-Ok-clause-history c =
    memory_noted c.args.most c.args.self.now.noted.deeds c.note.new.self.deeds c.args.name.now _ c.in-Ok.front
    c.front_in.result (c.front_in.ensures c.in-Ok.front refl) (rw c.as_bytes.ensures.value at c.note.ensures)
    c.in-Ok.ensures

pub returns-in-Err-clause-history : goal.returns-in-Err-clause-history
returns-in-Err-clause-history c =
    unopened_noted account_of c.args.most c.args.self.now.noted.deeds c.note-in-Err.new.self.deeds c.args.name.now
    c.in-Err.fault (rw (c.as_bytes-in-Err.ensures.value, c.unopened.ensures) at c.note-in-Err.ensures)
