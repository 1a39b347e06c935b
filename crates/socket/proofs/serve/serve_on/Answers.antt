use Rattle.std.proofs.Common.{arith}
use Rattle.socket.specs.Serving.{exchanges_in}
use Rattle.socket.proofs.OneLemmas.{each_none, each_more, one_each}
use Rattle.socket.proofs.serve.serve_on.Goals as goal

pub loop-init : goal.loop-init
loop-init g c = each_none _ _ _ _ _

pub loop-preserved : goal.loop-preserved
loop-preserved g c = each_more _ _ _ _ _ _ _ _ _ _ c.loop.invariant c.serve_next.ensures

pub returns-clause-most : goal.returns-clause-most
returns-clause-most g c = record {
  exchanges = exchanges_in c.loop.invariant.calls;
  few = omega (arith, one_each c.loop.invariant.calls, c.loop.invariant.count, c.loop.auto.counter-end);
  through = c.loop.invariant.through;
}
