use Rattle.std.proofs.Common.{sym, subst, Decides}
use Rattle.sqlite.specs.Held.{state}
use Rattle.setup.specs.Extracted.{HasKey}
use Rattle.tables.proofs.FailureLemmas.{was_clean}
use Rattle.setup.proofs.BlankLemmas.{any_key, key_found}
use Rattle.setup.proofs.judge.has_key.Goals as goal

pub find_row-requires : goal.find_row-requires
find_row-requires g c = record { plain = any_key.plain; tables = any_key.unlisted }

pub returns-clause-answer : goal.returns-clause-answer
returns-clause-answer g c clean x stands =
    let old = state g.F.Store c.args.conn.now in
    let h = (c.in_ok-found.ensures.row clean x stands) in
    let holds = stands (was_clean old (state g.F.Store c.find_row.new.conn) c.find_row.ensures.spares.clean clean)
    h.0 in (
      h.1,
      subst (λ b. Decides b (HasKey x)) (sym c.is_some.ensures)
          (key_found old.now x holds.trees.means c.in_ok-found.found h.2),
    )
