use Rattle.std.proofs.Common.{suc, arith, le-ltb}
use Rattle.tables.specs.Schema.{is_flag}
use Rattle.tables.proofs.CheckLemmas.{check_then, check_else, low_flag}
use Rattle.tables.proofs.schema.is_flag_among.Goals as goal

pub returns-then-nodes-gt2 : goal.returns-then-nodes-gt2
returns-then-nodes-gt2 c =
    check_then 2 is_flag low_flag (λ d. suc (suc (suc d))) (λ n long. omega arith)
    c.args.nodes.now c.args.roots.now c.is_either.result c.if-nodes-gt2.true c.in-len1.len_at_least c.in-len1.len_below
    c.is_either.ensures

pub returns-else-nodes-gt2 : goal.returns-else-nodes-gt2
returns-else-nodes-gt2 c = rw (le-ltb 2 _ c.if-nodes-gt2.false)
    (check_else 2 is_flag low_flag c.args.nodes.now c.args.roots.now c.if-nodes-gt2.false c.in-len1.len_at_least
    c.in-len1.len_below)
