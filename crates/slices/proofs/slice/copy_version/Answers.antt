use Rattle.std.proofs.Common.{IsTrue, subst, rules}
use Rattle.sqlite.specs.Held.{state}
use Rattle.world.specs.declared.entry.Entry.{Entry}
use Rattle.statements.specs.Reading.{IsZip}
use Rattle.slices.proofs.HoldLemmas.{still_there, resumes}
use Rattle.slices.proofs.slice.copy_version.Goals as goal

pub returns-else-not-is_resumed-clause-copies : goal.returns-else-not-is_resumed-clause-copies
returns-else-not-is_resumed-clause-copies g c clean good w later stands since is holds =
    let yes : IsTrue c.is_resumed.result = search rules in
    let same = c.is_resumed.ensures yes in
    let part = resumes w c.args.at c.args.version c.in-Some.part (state g.F.Store c.args.tx.now.conn.now) c.in-Some.is
    same.0 same.1 holds in
    let zip = still_there w later c.args.newcomers.now since c.args.version.place part.entry is.entry part.there
    is.there in
    c.copy_rest.ensures.copies clean good w later stands part
    (subst (λ (e : Entry). IsZip (state g.S.Store c.args.source.now).now.trees c.args.version.id e.zip) zip is.zip)

pub returns-in-None-clause-copies : goal.returns-in-None-clause-copies
returns-in-None-clause-copies g c clean good w later stands since is holds =
    c.copy_whole.ensures.copies clean good w later stands since is (rw c.in-None.is at holds)
