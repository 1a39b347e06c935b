use Rattle.std.specs.Prelude.{vec_capacity, vec_len}
use Rattle.std.proofs.Common.{◌≤◌, true}
use Rattle.control.specs.Line.{IsPartAfter, ReadsMore}
use Rattle.control.specs.declared.line.Extent.TheVariants.{Line}
use Rattle.control.proofs.HeardLemmas.{StillReads}
use Rattle.commands.specs.Connection.{IsAll, PingsBetween}
use Rattle.commands.proofs.copy.await_line.Given as goal

-- the bytes so far are what was read, by so many reads, of which none broke, there is no less room, and the server was
-- only asked for its health, at most once for each read that failed
abbrev pub invariant-loop : goal.invariant-loop
invariant-loop g l =
    let reads = g.R.Hear.reads in
    let account = g.R.Hear.account in
    record {
      more : ReadsMore (account l.fn.reader) (account l.reader) l.fn.got.items l.got.items;
      still : StillReads true l.counter (reads l.fn.reader) (reads l.reader);
      room : vec_capacity l.fn.got ≤ vec_capacity l.got;
      part : IsPartAfter Line (vec_len l.fn.got) (vec_len l.got);
      between : PingsBetween
          (λ link passed. IsAll (account link.reader) (reads link.reader) (g.W.Write.contents link.writer)
          (g.W.Tell.writes link.writer).failed passed)
          (g.V.Servers.history l.fn.servers) (g.V.Servers.history l.servers) l.fn.control (reads l.fn.reader).failed
          (reads l.reader).failed;
    }
