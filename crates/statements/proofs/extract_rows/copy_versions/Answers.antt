use Rattle.std.proofs.Common.{List, [], ◌∷◌, ◌++◌, refl, subst}
use Rattle.sqlite.specs.Held.{state}
use Rattle.sqlite.specs.Order.{Row}
use Rattle.sqlite.specs.Effect.{Reads, ReadsFirst}
use Rattle.sqlite.specs.Listing.{understood}
use Rattle.sqlite.specs.Values.{bound_value}
use Rattle.sqlite_tied.specs.Compute.{everything}
use Rattle.statements.specs.Extract.{CopiesVersions}
use Rattle.statements.proofs.ChangeLemmas.{on_weaker}
use Rattle.statements.proofs.LookupLemmas.{asks}
use Rattle.statements.proofs.CopyRowLemmas.{versions_on_query, versions_fit, versions_copied}
use Rattle.statements.proofs.ExtractLemmas.{copied}
use Rattle.statements.proofs.extract_rows.copy_versions.Goals as goal

pub hand_on-requires-clause-plain : goal.hand_on-requires-clause-plain
unfolding understood everything
hand_on-requires-clause-plain g c = (refl, refl)

pub hand_on-requires-clause-tables : goal.hand_on-requires-clause-tables
unfolding understood everything
hand_on-requires-clause-tables g c = refl

pub hand_on-requires-clause-fits : goal.hand_on-requires-clause-fits
unfolding understood everything
hand_on-requires-clause-fits g c db w rows row means first =
    versions_fit c.args.shelf.now db w rows row means
    (subst (λ v. ReadsFirst (asks versions_on_query) db (bound_value v ∷ []) (rows ++ row ∷ []))
    c.params-to_sql.ensures first)

pub returns-clause-copies : goal.returns-clause-copies
unfolding understood everything
returns-clause-copies g c =
    let handed = c.hand_on.ensures in
    let source = state g.S.Store c.args.source.now in
    let fresh = state g.F.Store c.args.tx.now.conn.now in
    let done = state g.F.Store c.hand_on.new.tx.conn.now in
    copied c.hand_on.result (CopiesVersions c.args.shelf.now) source (state g.S.Store c.hand_on.new.source) fresh done
    handed.looks handed.same
    handed.goes_on
    (λ clean good has w means filling.
    let read = λ (rows : List Row).
    subst (λ v. Reads (asks versions_on_query) source.now (bound_value v ∷ []) rows) c.params-to_sql.ensures in
    on_weaker c.hand_on.result
    (λ it. (
      versions_copied c.args.shelf.now source.now fresh.now.trees done.now.trees it.1.0 (read it.1.0 it.1.1)
          it.1.2,
      it.0,
    )) (handed.puts clean good has w means filling))
