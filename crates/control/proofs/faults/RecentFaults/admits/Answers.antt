use Rattle.std.proofs.Common.{◌∙◌, inl, inr, sym, arith}
use Rattle.control.proofs.FaultLemmas.{holds_back, lets_through}
use Rattle.control.proofs.faults.RecentFaults.admits.Goals as goal

pub returns-then-len-ge-MOST : goal.returns-then-len-ge-MOST
returns-then-len-ge-MOST c = holds_back c.args.now c.args.self.now c.forget.new.self _ c.forget.ensures
    (inr (omega (arith, c.if-len-ge-MOST.true)))

pub returns-then-has : goal.returns-then-has
returns-then-has c = holds_back c.args.now c.args.self.now c.forget.new.self _ c.forget.ensures
    (inl (sym (rw c.deref.ensures.value at c.has.ensures) ∙ c.if-has.true))

pub returns : goal.returns
returns c = lets_through c.args.now c.args.self.now c.forget.new.self _ c.forget.ensures _
    (omega (arith, c.if-len-ge-MOST.false)) (sym (rw c.deref.ensures.value at c.has.ensures) ∙ c.if-has.false)
    c.remember.ensures
