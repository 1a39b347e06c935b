use Rattle.std.proofs.Common.{refl}
use Rattle.sqlite.specs.Held.{state}
use Rattle.tables.proofs.ListingLemmas.{entry_rows}
use Rattle.tables.proofs.Texts.{entry_rows_text}
use Rattle.tables.proofs.FitTests.{walked, EntryFits, EntryKeeps, entries_true, entries_false}
use Rattle.tables.proofs.WalkCauses.{walkable, walk_reason}
use Rattle.tables.proofs.fit.are_entries_fit.Goals as goal

pub rows_pass-requires : goal.rows_pass-requires
rows_pass-requires g c =
    record { plain = entry_rows.plain; tables = entry_rows.unlisted; walkable = walkable entry_rows }

pub returns-clause-tests : goal.returns-clause-tests
returns-clause-tests g c =
    let old = state g.S.Store c.args.conn.now in
    walked EntryFits EntryKeeps entry_rows_text old
    (state g.S.Store c.rows_pass.new.conn) c.rows_pass.result _ c.rows_pass.new.test _ c.rows_pass.ensures.looks
    c.rows_pass.ensures.same c.rows_pass.ensures.answer
    (entries_true old.now _ c.rows_pass.new.test refl) (entries_false old.now _ c.rows_pass.new.test refl)

pub returns-clause-cause : goal.returns-clause-cause
returns-clause-cause g c clean has =
    let old = state g.S.Store c.args.conn.now in
    walk_reason entry_rows old (state g.S.Store c.rows_pass.new.conn) c.rows_pass.result has
    (c.rows_pass.ensures.cause clean has)
