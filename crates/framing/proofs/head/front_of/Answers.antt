use Rattle.framing.proofs.HeadLemmas.{never_from_length, never_from_room}
use Rattle.framing.proofs.StreamLemmas.{never_ends, nothing_may_begin, some_bytes, no_bytes}
use Rattle.framing.proofs.head.front_of.Goals as goal

pub returns-then-is_empty : goal.returns-then-is_empty
returns-then-is_empty c = nothing_may_begin c.args.bytes.now (no_bytes _ c.if-is_empty.ensures)

pub returns-in-Ok-Partial-2 : goal.returns-in-Ok-Partial-2
returns-in-Ok-Partial-2 c =
    never_ends c.args.bytes.now (some_bytes _ c.if-is_empty.ensures)
    (never_from_length c.args.bytes.now (rw c.in-Ok-Partial.field-0-is at c.in-Ok-Partial.ensures).partial
    c.if-bytes-lt-HEAD_LIMIT.false)

pub returns-in-Err : goal.returns-in-Err
returns-in-Err c =
    never_ends c.args.bytes.now (some_bytes _ c.if-is_empty.ensures)
    (never_from_room c.args.bytes.now _ c.requires c.in-Err.ensures.no_room)
