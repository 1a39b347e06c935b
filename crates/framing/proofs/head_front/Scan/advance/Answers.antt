use Rattle.framing.proofs.BegunLemmas.{slice_to_end}
use Rattle.framing.proofs.HeadFrontLemmas.{scan_advances}
use Rattle.framing.proofs.head_front.Scan.advance.Goals as goal

pub returns : goal.returns
returns c =
    scan_advances c.args.bytes.now _ c.args.self c.in_ok-state.state c.requires
    (slice_to_end c.args.self.len c.args.bytes.now) c.in_ok-state.ensures
    c.if-bytes-ge-HEAD_LIMIT.false
