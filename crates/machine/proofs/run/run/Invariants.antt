use Rattle.std.proofs.Common.{◌≡◌, ◌≤◌, length, take}
use Rattle.std.specs.Prelude.{vec_len, vec_capacity}
use Rattle.machine.specs.Machine.{MetDevice}
use Rattle.world.specs.Store.{GrewOrFull}
use Rattle.machine.specs.Runs.{Runs}
use Rattle.machine.proofs.run.run.Given as goal

-- the events so far were answered by a run, and there is room for each answer
abbrev pub invariant-loop-event : goal.invariant-loop-event
invariant-loop-event g l =
    let s = g.S.Shelves in
    record {
      runs : Runs (s.shown l.fn.shelves) (s.shown l.shelves) (take l.event-index l.events) l.answers.items;
      no_fewer : (s.shown l.fn.shelves).failures ≤ (s.shown l.shelves).failures;
      device : MetDevice l.answers.items → GrewOrFull (s.shown l.fn.shelves).failures (s.shown l.shelves).failures;
      count : vec_len l.answers ≡ l.event-index;
      room : length l.events ≤ vec_capacity l.answers;
    }
