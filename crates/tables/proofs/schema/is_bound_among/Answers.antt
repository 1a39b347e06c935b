use Rattle.std.proofs.Common.{suc, arith, le-ltb}
use Rattle.tables.specs.Schema.{is_from_zero}
use Rattle.tables.proofs.CheckLemmas.{check_then, check_else, low_bound}
use Rattle.tables.proofs.schema.is_bound_among.Goals as goal

pub returns-then-nodes-gt1 : goal.returns-then-nodes-gt1
returns-then-nodes-gt1 c =
    check_then 1 is_from_zero low_bound (λ d. suc (suc d)) (λ n long. omega arith)
    c.args.nodes.now c.args.roots.now c.is_lower_bound.result c.if-nodes-gt1.true c.in-len1.len_at_least
    c.in-len1.len_below c.is_lower_bound.ensures

pub returns-else-nodes-gt1 : goal.returns-else-nodes-gt1
returns-else-nodes-gt1 c = rw (le-ltb 1 _ c.if-nodes-gt1.false)
    (check_else 1 is_from_zero low_bound c.args.nodes.now c.args.roots.now c.if-nodes-gt1.false c.in-len1.len_at_least
    c.in-len1.len_below)
