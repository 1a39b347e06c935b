use Rattle.std.proofs.Common.{◌≡◌, ◌+◌, length}
use Rattle.socket.specs.Rest.{most_dropped}
use Rattle.socket.proofs.rest.skip.Given as goal

-- no call failed so far, and so many bytes may still come
abbrev pub invariant-loop-left : goal.invariant-loop-left
invariant-loop-left g l =
    let r = g.R.Hear in
    record {
      calm : (r.reads l.reader).failed ≡ (r.reads l.fn.reader).failed;
      left : length (r.account l.reader).heard + l.left ≡ length (r.account l.fn.reader).heard + most_dropped;
    }

abbrev pub decreases-loop-left : goal.decreases-loop-left
decreases-loop-left g l = l.left
