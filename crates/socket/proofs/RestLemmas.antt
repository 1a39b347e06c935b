-- The statuses of the replies that close a stream, and what is read behind them.
use Rattle.std.proofs.Common.{ℕ, ◌+◌, ◌≡◌, ◌==◌, ◌||◌, Bool, List, [], Some, true, false, refl, inl, inr, arith, length}
use Rattle.histories.specs.Account.{Account}
use Rattle.histories.specs.Calls.{Reads}
use Rattle.histories.specs.Stopping.{WaitsBy, WaitsIf}
use Rattle.histories.specs.Timing.{KeepsTime}
use Rattle.histories.specs.declared.call.Call.{Call}
use Rattle.socket.specs.Rest.{DropsRest, most_dropped}
use Rattle.wire.specs.Reply.{fixed_status}
use Rattle.wire.specs.declared.reply.Fixed.{Fixed}
use Rattle.wire.specs.declared.reply.Fixed.TheVariants as fixed
use Rattle.engine.specs.Served.{IsClosing}

-- a reply that closes a stream has one of these statuses
pub closing_leaves : (status : ℕ) (rest : List ℕ) (reply : Fixed) → IsClosing rest (Some reply)
    → status ≡ fixed_status reply
    → ((status == 400) || (status == 413) || (status == 503)) ≡ true
closing_leaves status rest fixed.BadRequest closes is = rw is refl
closing_leaves status rest fixed.TooLarge closes is = rw is refl
closing_leaves status rest fixed.Unavailable closes is = rw is refl
closing_leaves status rest fixed.AlreadyPublished closes is = absurd closes
closing_leaves status rest fixed.Published closes is = absurd closes
closing_leaves status rest fixed.BadModLength closes is = absurd closes
closing_leaves status rest fixed.Forbidden closes is = absurd closes
closing_leaves status rest fixed.NotFound closes is = absurd closes
closing_leaves status rest fixed.Conflict closes is = absurd closes
closing_leaves status rest fixed.MajorMismatch closes is = absurd closes
closing_leaves status rest fixed.BadTime closes is = absurd closes
closing_leaves status rest fixed.TimeMismatch closes is = absurd closes
closing_leaves status rest (fixed.BadGoMod line) closes is = absurd closes
closing_leaves status rest fixed.ModulePath closes is = absurd closes
closing_leaves status rest fixed.IncompatibleGoMod closes is = absurd closes
closing_leaves status rest fixed.Full closes is = absurd closes

-- ---- no call came

none_waits : (may_wait : Bool) → WaitsBy may_wait []
none_waits true = λ never. never
none_waits false = tt

pub waits_none : (may_wait : Bool) (old new : List Call) → new ≡ old → WaitsIf may_wait old new
waits_none may_wait old new same = ∣ ([], same, none_waits may_wait) ∣₁

pub time_none : (allowed : ℕ → ℕ) (old new : List Call) → new ≡ old → KeepsTime allowed old new
time_none allowed old new same = ∣ ([], same, tt) ∣₁

-- a call failed, and nothing came
pub drops_failed : (came came_new : Account) (reads reads_new : Reads) → came_new ≡ came
    → reads_new.failed ≡ reads.failed + 1 → DropsRest (came, reads) (came_new, reads_new)
drops_failed came came_new reads reads_new same failed =
    rw same (inr (inl (omega (arith, failed))), omega arith)
