use Rattle.std.proofs.Common.{refl, sym, arith}
use Rattle.sqlite_disk.proofs.EventLemmas.{length-padded, Cut-padded}
use Rattle.peek.specs.Edits.{shown}
use Rattle.peek.proofs.EditLemmas.{fronts_cut}
use Rattle.peek.proofs.PeekDisk.set_len.Goals as goal

pub invariant_of-self-2 : goal.invariant_of-self-2
invariant_of-self-2 g c =
    let was = c.args.self.now in
    let file = g.D.Disk.seen was.file in
    let shows = c.in-Ok.ensures.shows file in
    record {
      kept = was.kept;
      same = was.same;
      usable = was.usable;
      own = was.own;
      fronts = λ clean. rw shows
          (fronts_cut was.front _ file _ (was.fronts clean) (omega (arith, c.min-self.ensures)) c.args.len
          (omega (arith, c.min-self.ensures)));
      long = λ clean. rw shows (sym (length-padded (shown file was.edits.items) c.args.len));
      short = omega (arith, c.min-self.ensures);
    }

pub returns-clause-len : goal.returns-clause-len
returns-clause-len g c =
    let was = c.args.self.now in
    let file = g.D.Disk.seen was.file in
    rw (c.in-Ok.ensures.shows file) (length-padded (shown file was.edits.items) c.args.len)

pub returns-clause-others : goal.returns-clause-others
returns-clause-others g c =
    let was = c.args.self.now in
    let file = g.D.Disk.seen was.file in
    rw (c.in-Ok.ensures.shows file) (Cut-padded (shown file was.edits.items) c.args.len)

pub returns-clause-crash : goal.returns-clause-crash
returns-clause-crash g c left may =
    let was = c.args.self.now in
    let file = g.D.Disk.seen was.file in (
      shown file was.edits.items,
      refl,
      rw (may, c.in-Ok.ensures.shows file) (Cut-padded (shown file was.edits.items) c.args.len),
    )
