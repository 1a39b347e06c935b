use Rattle.std.proofs.Common.{true, refl}
use Rattle.sqlite.specs.Held.{state}
use Rattle.older_rows.specs.Registry.{IsNamed}
use Rattle.tables.proofs.WalkCauses.{error_says}
use Rattle.older_rows.proofs.ListedLemmas.{meta_text, meta_columns, meta_whole, all_of}
use Rattle.older_rows.proofs.MetaLemmas.{named, wrapped}
use Rattle.older_rows.proofs.Walkable.{meta_walkable}
use Rattle.older_rows.proofs.WalkLemmas.{moves_less}
use Rattle.older_rows.proofs.meta.names_schema.Goals as goal

pub visit_rows-requires-clause-plain : goal.visit_rows-requires-clause-plain
visit_rows-requires-clause-plain g c = meta_whole.plain c.args.format

pub visit_rows-requires-clause-tables : goal.visit_rows-requires-clause-tables
visit_rows-requires-clause-tables g c = meta_whole.unlisted c.args.format

pub visit_rows-requires-clause-walkable : goal.visit_rows-requires-clause-walkable
visit_rows-requires-clause-walkable g c = meta_walkable c.args.format

pub returns-clause-moves : goal.returns-clause-moves
returns-clause-moves g c =
    let old = state g.S.Store c.args.source.now in
    let fresh = state g.F.Store c.args.tx.now.conn.now in
    let after = state g.F.Store c.visit_rows.new.tx.conn.now in
    let walked = c.in_ok-visit_rows.ensures in
    let end = c.visit_rows.new.visitor in
    moves_less c.args.format (IsNamed c.args.format) old (state g.S.Store c.visit_rows.new.source) fresh after
    walked.clean true end.has_row (λ _. refl) walked.reads walked.survives walked.goes_on
    (λ clean good has filling all.
    let it = (rw c.if-not-branch.false at (walked.puts clean good has filling)) refl in
    let found = all_of meta_text 0 meta_columns _ meta_whole (λ _. refl) c.args.format old.now it.1.0 it.1.1 in (
      named c.args.format old.now.trees _ end fresh.now.trees after.now.trees it.1.0
          (wrapped c.args.format c.number_of.result c.number_of.ensures) refl found it.1.2 all,
      it.0,
    ))

pub returns-in_err-visit_rows-clause-cause : goal.returns-in_err-visit_rows-clause-cause
returns-in_err-visit_rows-clause-cause g c clean has =
    error_says _ c.from_residual.result c.in_err-visit_rows.field-0.0 c.from_residual.ensures.1
    (c.in_err-visit_rows.ensures.cause clean has)
