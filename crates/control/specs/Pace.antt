-- How much time an operator gets.
use Rattle.std.specs.Prelude.{ℕ, ◌*◌, ◌≤◌, ◌⊎◌, List}
use Rattle.std.proofs.Common.{arith}
use Rattle.histories.specs.Account.{Account}
use Rattle.histories.specs.Timing.{KeepsEach, KeepsTime}
use Rattle.histories.specs.declared.call.Call.{Call}
use Rattle.orders.specs.Order.{IsLineOf, Catalog}
use Rattle.control.specs.Line.{ReadsLine}

-- the nanoseconds for the reads of a line, or for the writes of its outcome, which bytes do not buy
abbrev pub time_for_order : ℕ → ℕ
time_for_order moved = 2 * 1000000000

-- more bytes take no time away
pub order_grows : (few many : ℕ) → few ≤ many → time_for_order few ≤ time_for_order many
order_grows few many h = omega arith

-- All writes from old to new began in the time of an order. Or a line that asks for a catalog was read, and the time
-- began anew between its lines.
abbrev pub WritesInTime : Account → Account → List Call → List Call → Type 0
WritesInTime came came_new calls calls_new =
    KeepsTime time_for_order calls calls_new
    ⊎ ((got : List ℕ) × (key : List ℕ) × ReadsLine came came_new got × IsLineOf got (Catalog key)
    × KeepsEach time_for_order calls calls_new)
