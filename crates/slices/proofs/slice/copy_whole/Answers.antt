use Rattle.std.proofs.Common.{sym, ◌∙◌}
use Rattle.sqlite.specs.Held.{state}
use Rattle.tables.proofs.FailureLemmas.{was_clean}
use Rattle.world.specs.World.{heading_of}
use Rattle.statements.proofs.ExtractLemmas.{spares_itself}
use Rattle.statements.proofs.GoingLemmas.{goes_on_itself, goes_on_then}
use Rattle.slices.proofs.HoldLemmas.{begins}
use Rattle.slices.proofs.slice.copy_whole.Goals as goal

pub returns-then-is_newcomer-clause-reads : goal.returns-then-is_newcomer-clause-reads
returns-then-is_newcomer-clause-reads g c = spares_itself (state g.S.Store c.args.source.now)

pub returns-then-is_newcomer-clause-goes_on : goal.returns-then-is_newcomer-clause-goes_on
returns-then-is_newcomer-clause-goes_on g c = goes_on_itself (state g.F.Store c.args.tx.now.conn.now)

pub returns-then-is_newcomer-clause-copies : goal.returns-then-is_newcomer-clause-copies
returns-then-is_newcomer-clause-copies g c clean good w later stands since is holds = holds

pub returns-in-Ok-clause-same_reference : goal.returns-in-Ok-clause-same_reference
returns-in-Ok-clause-same_reference g c = c.copy_rest.ensures.same_reference ∙ c.in-Ok.ensures.same_reference

pub returns-in-Ok-clause-goes_on : goal.returns-in-Ok-clause-goes_on
returns-in-Ok-clause-goes_on g c =
    goes_on_then (state g.F.Store c.args.tx.now.conn.now) (state g.F.Store c.put_version.new.tx.conn.now)
    (state g.F.Store c.copy_rest.new.tx.conn.now) _
    c.in-Ok.ensures.goes_on c.copy_rest.ensures.goes_on

pub returns-in-Ok-clause-copies : goal.returns-in-Ok-clause-copies
returns-in-Ok-clause-copies g c clean good w later stands since is holds =
    let source = state g.S.Store c.args.source.now in
    let a = state g.F.Store c.args.tx.now.conn.now in
    let b = state g.F.Store c.put_version.new.tx.conn.now in
    let end = state g.F.Store c.copy_rest.new.tx.conn.now in
    let v = c.args.version in
    let mid = was_clean b end c.copy_rest.ensures.goes_on.survives.clean good in
    let put = c.in-Ok.ensures.puts mid (v.place, heading_of is.entry, is.shows)
    (record {
      schema = holds.writing.schema;
      sound = holds.writing.trees.sound;
      is_open = holds.writing.is_open;
      inside = holds.writing.inside;
    }) in
    let old = sym c.is_newcomer.ensures ∙ c.if-is_newcomer.false in
    let begun = begins w later c.args.newcomers.now since source.now.trees v is old c.args.left a b holds put.0 put.1 in
    c.copy_rest.ensures.copies clean good w later stands begun.0 begun.1

pub returns-in-Err-clause-reads : goal.returns-in-Err-clause-reads
returns-in-Err-clause-reads g c = spares_itself (state g.S.Store c.args.source.now)
