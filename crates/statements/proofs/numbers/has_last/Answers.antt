use Rattle.std.proofs.Common.{sym, subst, Decides, refl}
use Rattle.sqlite.specs.Held.{state}
use Rattle.sqlite.specs.Listing.{understood}
use Rattle.sqlite_tied.specs.Compute.{everything}
use Rattle.statements.specs.Numbers.{last, HasNumber}
use Rattle.statements.proofs.NumberLemmas.{last_found}
use Rattle.statements.proofs.numbers.has_last.Goals as goal

pub find_number-requires-clause-plain : goal.find_number-requires-clause-plain
unfolding understood everything
find_number-requires-clause-plain g c = (refl, refl)

pub find_number-requires-clause-tables : goal.find_number-requires-clause-tables
unfolding understood everything
find_number-requires-clause-tables g c = refl

pub returns-clause-answer : goal.returns-clause-answer
unfolding understood everything
returns-clause-answer g c clean w stands =
    let old = state g.S.Store c.args.conn.now in
    let h = rw c.params-to_sql.ensures at (c.in_ok-found.ensures.number clean w stands) in (
      h.0,
      h.1,
      subst (λ b. Decides b (HasNumber (old.now.trees 6) last)) (sym c.is_some.ensures)
          (last_found old.now c.in_ok-found.found h.2),
    )
