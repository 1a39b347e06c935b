use Rattle.std.proofs.Common.{[], subst, rules, w64, SFits, to_z-of_z, refl}
use Rattle.sqlite.specs.Held.{state}
use Rattle.sqlite.specs.Listing.{understood}
use Rattle.sqlite_tied.specs.Compute.{everything}
use Rattle.statements.proofs.NumberLemmas.{numbers_query, PicksNumber, one_less, lacks_found}
use Rattle.statements.proofs.numbers.number_below_all.Goals as goal

pub find_number-requires-clause-plain : goal.find_number-requires-clause-plain
unfolding understood everything
find_number-requires-clause-plain g c = (refl, refl)

pub find_number-requires-clause-tables : goal.find_number-requires-clause-tables
unfolding understood everything
find_number-requires-clause-tables g c = refl

pub returns-in-Some-clause-answer : goal.returns-in-Some-clause-answer
unfolding understood everything
returns-in-Some-clause-answer g c clean w stands =
    let old = state g.S.Store c.args.conn.now in
    let h = c.in_ok-lowest.ensures.number clean w stands in
    let fits : SFits w64 c.in-Some.lowest = search rules in (
      h.1,
      one_less old.now c.in-Some.lowest c.checked_sub.result fits
          (subst (PicksNumber numbers_query [] old.now) c.in-Some.is h.2)
          (rw (to_z-of_z {w = w64} {z = c.in-Some.lowest} fits) at c.checked_sub.ensures),
    )

pub returns-in-None-clause-answer : goal.returns-in-None-clause-answer
unfolding understood everything
returns-in-None-clause-answer g c clean w stands =
    let old = state g.S.Store c.args.conn.now in
    let h = c.in_ok-lowest.ensures.number clean w stands in
    (h.1, lacks_found old.now (subst (PicksNumber numbers_query [] old.now) c.in-None.is h.2))
