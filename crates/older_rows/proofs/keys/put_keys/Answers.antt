use Rattle.std.proofs.Common.{refl}
use Rattle.sqlite.specs.Held.{state}
use Rattle.older_rows.specs.Registry.{PutsKeys}
use Rattle.older_rows.proofs.ListedLemmas.{key_text, key_columns, key_whole, all_of}
use Rattle.older_rows.proofs.KeyLemmas.{puts_keys}
use Rattle.older_rows.proofs.Walkable.{key_walkable}
use Rattle.older_rows.proofs.WalkLemmas.{moves_of, if_done}
use Rattle.older_rows.proofs.keys.put_keys.Goals as goal

pub visit_rows-requires-clause-plain : goal.visit_rows-requires-clause-plain
visit_rows-requires-clause-plain g c = key_whole.plain c.args.format

pub visit_rows-requires-clause-tables : goal.visit_rows-requires-clause-tables
visit_rows-requires-clause-tables g c = key_whole.unlisted c.args.format

pub visit_rows-requires-clause-walkable : goal.visit_rows-requires-clause-walkable
visit_rows-requires-clause-walkable g c = key_walkable c.args.format

pub returns-clause-moves : goal.returns-clause-moves
returns-clause-moves g c =
    let old = state g.S.Store c.args.source.now in
    let fresh = state g.F.Store c.args.tx.now.conn.now in
    let after = state g.F.Store c.visit_rows.new.tx.conn.now in
    let walked = c.visit_rows.ensures in
    moves_of c.args.format PutsKeys old (state g.S.Store c.visit_rows.new.source) fresh after walked.clean
    c.visit_rows.result walked.reads walked.survives walked.goes_on
    (λ clean good has filling. if_done c.visit_rows.result
    (λ it.
    let found = all_of key_text 4 key_columns _ key_whole (λ _. refl) c.args.format old.now it.1.0 it.1.1 in
    (puts_keys old.now.trees _ c.visit_rows.new.visitor fresh.now.trees after.now.trees it.1.0 found it.1.2, it.0))
    (walked.puts clean good has filling))
