-- How the connection of a peer is ended.
use Rattle.std.specs.Prelude.{ℕ, ◌≡◌, ◌+◌, ◌<◌, ◌≤◌, ◌⊎◌, ◌==◌, ◌||◌, Bool, IsTrue, List, ◌∷◌, length}
use Rattle.std.specs.Prelude.{Option, Some, None}
use Rattle.histories.specs.Account.{Account}
use Rattle.histories.specs.Calls.{Reads}
use Rattle.histories.specs.Stopping.{WaitsIf}
use Rattle.histories.specs.Timing.{KeepsTime}
use Rattle.histories.specs.declared.call.Call.{Call}
use Rattle.histories.specs.declared.call.Call.TheVariants.{Shuts}
use Rattle.socket.specs.Pace.{time_for_rest}

-- a message that got a reply with this status may be only partly read
abbrev pub leaves_rest : ℕ → Bool
leaves_rest status = (status == 400) || (status == 413) || (status == 503)

-- the most bytes after a message that are read and dropped
abbrev pub most_dropped : ℕ
most_dropped = 33554432

-- What still came was read: until there was no more, or a call failed, or the most bytes had come that are dropped. No
-- more of them came.
abbrev pub DropsRest : Account × Reads → Account × Reads → Type 0
DropsRest heard heard_new =
    (IsTrue heard_new.0.is_over ⊎ ((heard.1.failed < heard_new.1.failed)
    ⊎ (length heard.0.heard + most_dropped ≤ length heard_new.0.heard)))
    × (length heard_new.0.heard ≤ length heard.0.heard + most_dropped)

module _ {P : Type 0} (heard : P → Account × Reads) (written : P → Option (List ℕ))
    (read_calls write_calls : P → List Call) where
  -- After a reply with this status nothing more was written, and the system was asked, once, to shut the writing side.
  -- What the peer still sent was read and dropped, in time: if its message may be only partly read, no wait was ruled
  -- out, and otherwise no read waited.
  pub record EndsInOrder (peer : P) (status : ℕ) (gone : P) : Type 0 where
    pub silent : written gone ≡ written peer
    pub shuts : write_calls gone ≡ Shuts ∷ write_calls peer
    pub drops : DropsRest (heard peer) (heard gone)
    pub in_time : KeepsTime time_for_rest (read_calls peer) (read_calls gone)
    pub waits : WaitsIf (leaves_rest status) (read_calls peer) (read_calls gone)

  -- so it was after a reply that was written whole, and without one nothing was done
  abbrev pub IsEndedAfter : P → Option ℕ → P → Type 0
  IsEndedAfter peer None gone = gone ≡ peer
  IsEndedAfter peer (Some status) gone = EndsInOrder peer status gone
