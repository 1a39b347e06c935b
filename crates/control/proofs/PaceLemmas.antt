-- How much time an operator gets.
use Rattle.std.proofs.Common.{◌≡◌, ◌⊎◌, ℕ, List, [], inl, inr}
use Rattle.histories.specs.Account.{Account}
use Rattle.histories.specs.Timing.{KeepsEach, KeepsTime}
use Rattle.histories.specs.declared.call.Call.{Call}
use Rattle.orders.specs.Order.{IsLineOf, Catalog}
use Rattle.control.specs.Line.{ReadsLine}
use Rattle.control.specs.Pace.{WritesInTime, time_for_order}

module _ (came came_new : Account) (calls calls_new : List Call) where
  -- nothing was written
  pub unwritten_in_time : calls_new ≡ calls → WritesInTime came came_new calls calls_new
  unwritten_in_time same = inl ∣ ([], same, tt) ∣₁

  -- what came of a line that was read was written in its time
  pub answered_in_time : (got : List ℕ) → ReadsLine came came_new got
      → KeepsTime time_for_order calls calls_new
      ⊎ ((key : List ℕ) × IsLineOf got (Catalog key) × KeepsEach time_for_order calls calls_new)
      → WritesInTime came came_new calls calls_new
  answered_in_time got reads (inl kept) = inl kept
  answered_in_time got reads (inr (key, is, each)) = inr (got, key, reads, is, each)
