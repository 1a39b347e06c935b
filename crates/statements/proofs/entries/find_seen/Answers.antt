use Rattle.std.proofs.Common.{map, sym, ap, subst}
use Rattle.sqlite.specs.Held.{state}
use Rattle.world.specs.World.{first_on}
use Rattle.outline.specs.Seen.{seen_heading}
use Rattle.statements.specs.Reading.{HasRow}
use Rattle.statements.proofs.HeadingLemmas.{seen_of_row}
use Rattle.statements.proofs.entries.find_seen.Goals as goal

pub returns-in-Some-clause-answer : goal.returns-in-Some-clause-answer
returns-in-Some-clause-answer g c clean w stands =
    let old = state g.S.Store c.args.conn.now in
    let seen = first_on w (map (λ s. s.now) c.args.shelves.now) c.args.path.now c.args.version.now in
    seen_of_row old.now.trees seen c.in-Some.row
    (subst (HasRow old.now.trees seen) c.in-Some.is (c.in_ok-row.ensures.answer clean w stands))

pub returns-in-None-clause-answer : goal.returns-in-None-clause-answer
returns-in-None-clause-answer g c clean w stands =
    let old = state g.S.Store c.args.conn.now in
    let seen = first_on w (map (λ s. s.now) c.args.shelves.now) c.args.path.now c.args.version.now in
    sym (ap seen_heading (subst (HasRow old.now.trees seen) c.in-None.is (c.in_ok-row.ensures.answer clean w stands)))
