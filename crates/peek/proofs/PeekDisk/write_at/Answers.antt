use Rattle.std.proofs.Common.{refl, ap, ◌∙◌, arith}
use Rattle.sqlite_disk.specs.Events.{overlaid}
use Rattle.sqlite_disk.proofs.EventLemmas.{Holds-overlaid, Torn-overlaid}
use Rattle.peek.specs.Edits.{shown}
use Rattle.peek.proofs.EditLemmas.{fronts_put, length_put}
use Rattle.peek.proofs.PeekDisk.write_at.Goals as goal

pub invariant_of-self-2 : goal.invariant_of-self-2
invariant_of-self-2 g c =
    let was = c.args.self.now in
    let file = g.D.Disk.seen was.file in
    let now = shown file was.edits.items in
    let shows = c.in-Ok-add.ensures.shows file ∙ ap (overlaid now c.args.at) c.in-Ok.ensures in
    record {
      kept = was.kept;
      same = was.same;
      usable = was.usable;
      own = was.own;
      fronts = λ clean. rw shows
          (fronts_put was.front _ file now (was.fronts clean) (omega (arith, c.min-self.ensures)) c.args.at
          c.args.bytes.now (omega (arith, c.min-self.ensures)));
      long = λ clean. rw shows
          (omega (arith, c.max-self.ensures, was.long clean, length_put now c.args.at c.args.bytes.now));
      short = omega (arith, c.min-self.ensures, c.max-self.ensures, was.short);
    }

pub returns-clause-written : goal.returns-clause-written
returns-clause-written g c some =
    let file = g.D.Disk.seen c.args.self.now.file in
    let now = shown file c.args.self.now.edits.items in
    let shows = c.in-Ok-add.ensures.shows file ∙ ap (overlaid now c.args.at) c.in-Ok.ensures in
    rw shows (Holds-overlaid now c.args.at c.args.bytes.now)

pub returns-clause-others : goal.returns-clause-others
returns-clause-others g c =
    let file = g.D.Disk.seen c.args.self.now.file in
    let now = shown file c.args.self.now.edits.items in
    let shows = c.in-Ok-add.ensures.shows file ∙ ap (overlaid now c.args.at) c.in-Ok.ensures in
    rw shows (Torn-overlaid now c.args.at c.args.bytes.now)

pub returns-clause-crash : goal.returns-clause-crash
returns-clause-crash g c left may =
    let file = g.D.Disk.seen c.args.self.now.file in
    let now = shown file c.args.self.now.edits.items in
    let shows = c.in-Ok-add.ensures.shows file ∙ ap (overlaid now c.args.at) c.in-Ok.ensures in
    (now, refl, rw (may, shows) (Torn-overlaid now c.args.at c.args.bytes.now))
