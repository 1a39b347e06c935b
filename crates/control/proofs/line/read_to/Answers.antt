use Rattle.std.proofs.Common.{ℕ, List, arith, inr, sym, subst}
use Rattle.histories.specs.Account.{Gives}
use Rattle.histories.proofs.AccountLemmas.{Gives-none, Gives-trans}
use Rattle.control.proofs.LineLemmas.{asks_none, asks_on, none_enough, still_open, tried_on}
use Rattle.control.proofs.line.read_to.Goals as goal

pub loop-init : goal.loop-init
loop-init g c =
    let reader = c.args.reader.now in
    rw c.in_ok-got.ensures.items (
      Gives-none (g.R.Hear.account reader),
      (inr (omega arith), omega arith),
      asks_none c.args.most (g.R.Hear.account reader) (g.R.Hear.reads reader),
      none_enough c.args.most,
    )

pub loop-preserved : goal.loop-preserved
loop-preserved g c =
    let (far, tried, asked, unended) = c.loop.invariant in
    let read = c.in_ok-read_on.ensures in
    let account = g.R.Hear.account in
    let reads = g.R.Hear.reads in (
      subst (λ (got : List ℕ). Gives (account c.args.reader.now) (account c.read_on.new.reader) got) (sym read.on.behind)
          (Gives-trans _ _ _ _ _ far read.on.gives),
      tried_on _ (reads c.args.reader.now) (reads c.loop.reader) (reads c.read_on.new.reader) tried read.tried,
      asks_on _ _ _ _ (reads c.args.reader.now) (reads c.loop.reader) (reads c.read_on.new.reader) _ far unended asked
          read.once,
      still_open _ _ _ unended (read.more c.if-branch.false),
    )

pub returns-then-branch-clause-reads : goal.returns-then-branch-clause-reads
returns-then-branch-clause-reads g c =
    let on = c.in_ok-read_on.ensures.on in
    let account = g.R.Hear.account in
    record {
      gives = subst
          (λ (got : List ℕ). Gives (account c.args.reader.now) (account c.read_on.new.reader) got) (sym on.behind)
          (Gives-trans _ _ _ _ _ c.loop.invariant.0 on.gives);
      enough = on.enough c.if-branch.true;
    }

pub returns-then-branch-clause-asks : goal.returns-then-branch-clause-asks
returns-then-branch-clause-asks g c =
    let reads = g.R.Hear.reads in
    asks_on _ _ _ _ (reads c.args.reader.now) (reads c.loop.reader) (reads c.read_on.new.reader) _ c.loop.invariant.0
    c.loop.invariant.3 c.loop.invariant.2 c.in_ok-read_on.ensures.once

pub returns-in_err-read_on-clause-asks : goal.returns-in_err-read_on-clause-asks
returns-in_err-read_on-clause-asks g c =
    let reads = g.R.Hear.reads in
    asks_on _ _ _ _ (reads c.args.reader.now) (reads c.loop.reader) (reads c.read_on.new.reader) _ c.loop.invariant.0
    c.loop.invariant.3 c.loop.invariant.2 c.in_err-read_on.ensures.once
