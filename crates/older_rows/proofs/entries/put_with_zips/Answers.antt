use Rattle.std.proofs.Common.{refl}
use Rattle.sqlite.specs.Held.{state}
use Rattle.older.specs.declared.schema.Format.TheVariants.{One}
use Rattle.older_rows.specs.Entered.{PutsEntries}
use Rattle.older_rows.proofs.OneLemmas.{one_plain, one_unlisted, has_entries}
use Rattle.older_rows.proofs.Walkable.{one_walkable}
use Rattle.older_rows.proofs.WalkLemmas.{moves_of, if_done}
use Rattle.older_rows.proofs.entries.put_with_zips.Goals as goal

pub visit_rows-requires-clause-plain : goal.visit_rows-requires-clause-plain
visit_rows-requires-clause-plain g c = one_plain

pub visit_rows-requires-clause-tables : goal.visit_rows-requires-clause-tables
visit_rows-requires-clause-tables g c = one_unlisted

pub visit_rows-requires-clause-walkable : goal.visit_rows-requires-clause-walkable
visit_rows-requires-clause-walkable g c = one_walkable

pub returns-clause-moves : goal.returns-clause-moves
returns-clause-moves g c =
    let old = state g.S.Store c.args.source.now in
    let fresh = state g.F.Store c.args.tx.now.conn.now in
    let after = state g.F.Store c.visit_rows.new.tx.conn.now in
    let walked = c.visit_rows.ensures in
    moves_of One (PutsEntries One) old (state g.S.Store c.visit_rows.new.source) fresh after walked.clean
    c.visit_rows.result walked.reads walked.survives walked.goes_on
    (λ clean good has filling. if_done c.visit_rows.result
    (λ it. (
      has_entries old.now it.1.0 it.1.1 _ c.visit_rows.new.visitor fresh.now.trees after.now.trees refl refl
          it.1.2,
      it.0,
    ))
    (walked.puts clean good has filling))
