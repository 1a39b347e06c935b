use Rattle.std.proofs.Common.{◌≤◌, ◌+◌, length}
use Rattle.histories.specs.Account.{Gives}
use Rattle.commands.specs.Front.{ReadsFew}
use Rattle.commands.proofs.front.hear_to_end.Given as goal

-- The bytes so far are what was read, and no more than are asked for. Each read gave some of them, or failed.
abbrev pub invariant-loop : goal.invariant-loop
invariant-loop g l = record {
  gives : Gives (g.R.Hear.account l.fn.reader) (g.R.Hear.account l.reader) l.got.items;
  few : length l.got.items ≤ l.most + 1;
  idle : ReadsFew 0 (g.R.Hear.reads l.fn.reader) (g.R.Hear.reads l.reader) (length l.fn.got.items)
      (length l.got.items);
}
