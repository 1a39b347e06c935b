use Rattle.std.proofs.Common.{List, [], ◌∷◌, refl, subst}
use Rattle.sqlite.specs.Held.{state}
use Rattle.sqlite.specs.Order.{Row}
use Rattle.sqlite.specs.Effect.{Reads}
use Rattle.sqlite.specs.Listing.{understood}
use Rattle.sqlite.specs.Values.{bound_value}
use Rattle.sqlite_tied.specs.Compute.{everything}
use Rattle.statements.specs.Extract.{CopiesPieces}
use Rattle.statements.proofs.ChangeLemmas.{on_weaker}
use Rattle.statements.proofs.LookupLemmas.{asks}
use Rattle.statements.proofs.CopyRowLemmas.{pieces_on_query, pieces_copied}
use Rattle.statements.proofs.ExtractLemmas.{copied}
use Rattle.statements.proofs.extract_rows.copy_pieces.Goals as goal

pub hand_on-requires-clause-plain : goal.hand_on-requires-clause-plain
unfolding understood everything
hand_on-requires-clause-plain g c = (refl, refl)

pub hand_on-requires-clause-tables : goal.hand_on-requires-clause-tables
unfolding understood everything
hand_on-requires-clause-tables g c = refl

pub hand_on-requires-clause-fits : goal.hand_on-requires-clause-fits
hand_on-requires-clause-fits g c = λ db w rows row means first. tt

pub returns-clause-copies : goal.returns-clause-copies
unfolding understood everything
returns-clause-copies g c =
    let handed = c.hand_on.ensures in
    let source = state g.S.Store c.args.source.now in
    let fresh = state g.F.Store c.args.tx.now.conn.now in
    let done = state g.F.Store c.hand_on.new.tx.conn.now in
    copied c.hand_on.result (CopiesPieces c.args.shelf.now) source (state g.S.Store c.hand_on.new.source) fresh done
    handed.looks handed.same
    handed.goes_on
    (λ clean good has w means filling.
    let read = λ (rows : List Row).
    subst (λ v. Reads (asks pieces_on_query) source.now (bound_value v ∷ []) rows) c.params-to_sql.ensures in
    on_weaker c.hand_on.result
    (λ it. (
      pieces_copied _ c.args.shelf.now source.now fresh.now.trees done.now.trees it.1.0 (read it.1.0 it.1.1)
          it.1.2,
      it.0,
    )) (handed.puts clean good has w means filling))
