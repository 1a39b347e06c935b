use Rattle.std.proofs.Common.{rules, ◌≡◌, subst, to_z-of_z, w64, SFits}
use Rattle.sqlite.specs.declared.types.Value.TheVariants.{Int}
use Rattle.sqlite.specs.Order.{column}
use Rattle.sqlite.specs.Held.{state}
use Rattle.sqlite.specs.Values.{bound}
use Rattle.statements.specs.Calls.{Selects}
use Rattle.statements.proofs.numbers.find_number.Goals as goal

pub returns-in_ok-get-in-Some-clause-number : goal.returns-in_ok-get-in-Some-clause-number
returns-in_ok-get-in-Some-clause-number g c clean w stands =
    let h = c.in_ok-row.ensures.row clean w stands in
    let range : SFits w64 c.in_ok-get-in-Some.field-0 = search rules in
    let shown : column c.in-Some.row 0 ≡ Int c.in_ok-get-in-Some.field-0 = c.in_ok-get-in-Some.ensures.ok.1 in (
      h.0,
      h.1,
      (
        c.in-Some.row,
        subst (Selects c.args.sql.now (bound c.args.params.now) (state g.S.Store c.args.conn.now).now) c.in-Some.is h.2,
        rw (to_z-of_z {w = w64} {z = c.in_ok-get-in-Some.field-0} range) shown,
      ),
    )

pub returns-in-None-clause-number : goal.returns-in-None-clause-number
returns-in-None-clause-number g c clean w stands =
    let h = c.in_ok-row.ensures.row clean w stands in (
      h.0,
      h.1,
      subst (Selects c.args.sql.now (bound c.args.params.now) (state g.S.Store c.args.conn.now).now)
          c.in-None.is h.2,
    )
