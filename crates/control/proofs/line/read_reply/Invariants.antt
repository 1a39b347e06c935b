use Rattle.std.specs.Prelude.{vec_capacity, vec_len}
use Rattle.std.proofs.Common.{◌≤◌, false}
use Rattle.control.specs.Line.{IsPartAfter, ReadsFew, ReadsMore}
use Rattle.control.proofs.HeardLemmas.{StillReads}
use Rattle.control.proofs.line.read_reply.Given as goal

-- the bytes so far are what was read, by so many reads, of which none broke or was late, and there is no less room;
-- each read gave some of them or failed
abbrev pub invariant-loop : goal.invariant-loop
invariant-loop g l =
    let reads = g.R.Hear.reads in
    let account = g.R.Hear.account in
    record {
      more : ReadsMore (account l.fn.reader) (account l.reader) l.fn.got.items l.got.items;
      still : StillReads false l.counter (reads l.fn.reader) (reads l.reader);
      room : vec_capacity l.fn.got ≤ vec_capacity l.got;
      part : IsPartAfter l.extent (vec_len l.fn.got) (vec_len l.got);
      few : ReadsFew 0 (reads l.fn.reader) (reads l.reader) (vec_len l.fn.got) (vec_len l.got);
    }
