use Rattle.control.proofs.NoticeLemmas.{notices_more}
use Rattle.control.proofs.ServeLemmas.{each_read}
use Rattle.commands.proofs.Served.{counted_first, lines_of_serve}
use Rattle.commands.proofs.serve.serve_told.Goals as goal

pub returns-clause-each : goal.returns-clause-each
returns-clause-each g c =
    let served = c.serve_both.ensures.traces in
    record {
      mid = c.versions-versions.new.shelves;
      counts = c.versions-versions.ensures.reads;
      versions = c.versions-versions.result;
      cause = c.versions-versions.ensures.cause;
      number = c.versions-versions.ensures.counted;
      each = served.ends;
      more = served.more;
      are = served.are;
      lines = lines_of_serve _ _ served.ends.reads.each.calls _ _ _ _ _ _ _ _ _
          (rw c.served.ensures at c.opened.ensures) c.tell.ensures.tells c.tell_room.ensures.tells served.traces
          (rw c.served-2.ensures at c.ended.ensures) c.tell-2.ensures.tells;
    }

pub returns-clause-goes : goal.returns-clause-goes
returns-clause-goes g c =
    counted_first _ _ _ _ _ _ _ _ c.versions-versions.ensures.reads
    (each_read _ _ _ _ _ _ _ _ _ _ _ _ _ _ c.serve_both.ensures.reads) _ c.versions-versions.ensures.counted

pub returns-clause-notes : goal.returns-clause-notes
returns-clause-notes g c =
    notices_more _ _ _ (notices_more _ _ _ (notices_more _ _ _ c.tell.ensures.notes c.tell_room.ensures.notes)
    c.serve_both.ensures.notes) c.tell-2.ensures.notes
