use Rattle.std.proofs.Common.{◌++◌, codes}
use Rattle.catalog.specs.Line.{gomod_text, home, marks_text, maybe_member, sums}
use Rattle.catalog.proofs.Pushed.{after_one}
use Rattle.catalog.proofs.path.push_rest.Goals as goal

pub returns : goal.returns
returns c =
    let heading = c.args.heading.now in
    let it = c.args.outline.now in
    let time = maybe_member (codes "Time") heading.time in
    let marks = marks_text c.args.marks in
    let gomod = gomod_text heading.gomod in
    let last = sums (home c.args.shelf.now it.shelf) heading.gomod it.zip_bytes in
    let third = rw c.as_slice-gomod.ensures at c.in_ok-push_gomod.ensures in
    let fourth = rw (c.home.ensures, c.as_str.ensures, c.as_slice-gomod.ensures) at c.push_sums.ensures in
    after_one _ c.args.line.now.items time (marks ++ (gomod ++ last)) _ _ c.in_ok-push_time.ensures
    (after_one _ c.push_time.new.line.items marks (gomod ++ last) _ _ c.in_ok-push_marks.ensures
    (after_one _ c.push_marks.new.line.items gomod last _ _ third fourth))
