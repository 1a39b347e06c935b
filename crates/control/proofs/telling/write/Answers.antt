use Rattle.control.proofs.NoticeLemmas.{line_written, notice_written, notices_kept}
use Rattle.control.proofs.telling.write.Goals as goal

pub returns-clause-notes : goal.returns-clause-notes
returns-clause-notes g c = notices_kept _ _ _
    (notice_written _ _ _ _ c.requires (rw c.as_bytes.ensures.value at c.write_bytes.ensures.bytes))
    c.settle.ensures.bytes

pub returns-clause-tells : goal.returns-clause-tells
returns-clause-tells g c = line_written _ _ _ _ _ _ _ _ _ c.requires
    (rw c.as_bytes.ensures.value at c.write_bytes.ensures.bytes) c.write_bytes.ensures.fails c.settle.ensures.bytes
    c.settle.ensures.calls
