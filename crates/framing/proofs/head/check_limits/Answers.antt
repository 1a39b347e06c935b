use Rattle.std.proofs.Common.{drop}
use Rattle.framing.proofs.HeadLemmas.{never_from_long, never_from_encoded, never_from_unannounced, good_head}
use Rattle.framing.proofs.StreamLemmas.{bad_head, too_large_ends}
use Rattle.framing.proofs.head.check_limits.Goals as goal
use Rattle.framing.proofs.head.check_limits.Goals.{then-spans-gt-HEAD_LIMIT-via-then-spans-gt-HEAD_LIMIT}
use Rattle.framing.proofs.head.check_limits.Goals.{}
use Rattle.framing.proofs.head.check_limits.Goals.{then-spans-gt-HEAD_LIMIT-via-else-spans-gt-HEAD_LIMIT+then-is_encoded}

pub returns-then-spans-gt-HEAD_LIMIT : goal.returns-then-spans-gt-HEAD_LIMIT
returns-then-spans-gt-HEAD_LIMIT c =
    elim c.then-spans-gt-HEAD_LIMIT.branch [
      | then-spans-gt-HEAD_LIMIT-via-then-spans-gt-HEAD_LIMIT w ↦
          bad_head _ _ _ c.requires.whole.1.reads
          (never_from_long _ _ _ c.requires.whole.0 c.requires.whole.1 w.if-spans-gt-HEAD_LIMIT.true)
      | then-spans-gt-HEAD_LIMIT-via-else-spans-gt-HEAD_LIMIT+then-is_encoded w ↦
          bad_head _ _ _ c.requires.whole.1.reads
          (never_from_encoded _ _ _ c.requires.whole.0 c.requires.whole.1 w.if-is_encoded.ensures)
    ]

pub returns-in-None : goal.returns-in-None
returns-in-None c = bad_head _ _ _ c.requires.whole.1.reads
    (never_from_unannounced _ _ _ c.requires.whole.0 c.requires.whole.1 c.in-None.ensures)

pub returns-in-Some : goal.returns-in-Some
returns-in-Some c =
    let at = c.requires.whole.1 in
    let good =
    good_head c.args.bytes.now c.args.headers.now c.args.spans c.requires.whole.0 at c.in-Some.body c.requires.room
    c.if-spans-gt-HEAD_LIMIT.false c.if-is_encoded.ensures c.in-Some.ensures in
    too_large_ends c.args.bytes.now (
      c.requires.whole.0,
      c.in-Some.body,
      drop c.args.spans.len c.args.bytes.now,
      record { reads = at.reads; good = good },
      c.if-body-gt-BODY_LIMIT.true,
    )
