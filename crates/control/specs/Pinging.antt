-- What a ping does, and what it is told.
use Rattle.std.specs.Prelude.{ℕ, ◌≡◌, ◌⊎◌, Option, Result, Ok, Err}
use Rattle.world.specs.Store.{Shown}
use Rattle.world.specs.declared.registry.StoreFault.{StoreFault}
use Rattle.world.specs.declared.registry.StoreFault.TheVariants.{Memory}
use Rattle.interleave.specs.declared.between.CopyProgress.{CopyProgress}
use Rattle.control.specs.Copying.{IsOnlyRead}
use Rattle.control.specs.Health.{IsPinged, line_of}
use Rattle.control.specs.Hearing.{told_of_ping}
use Rattle.control.specs.declared.health.Metrics.{Metrics}
use Rattle.control.specs.declared.health.Health.{Health}
use Rattle.control.specs.declared.tally.Tally.{Tally}
use Rattle.control.specs.declared.control_reply.ControlReply.{ControlReply}
use Rattle.control.specs.declared.control_reply.ControlReply.TheVariants as spoken

-- the line of this health is told, or that there was no memory for it
abbrev pub IsLineFor : Health → ControlReply → Type 0
IsLineFor health told = (told ≡ told_of_ping (Ok health)) ⊎ (told ≡ told_of_ping (Err Memory))

-- The store was only read, and this was told.
pub record Pings
    {S : Type 0} (shown : S → Shown) (counted : S → S → ℕ → Type 0) (tally : Tally) (old new : S) (told : ControlReply)
    : Type 0 where
  pub heard : Result Health StoreFault
  pub reads : IsOnlyRead (shown old) (shown new)
  pub came : IsPinged tally (shown old).failures (shown new).failures (counted old new) heard
  pub tells : told ≡ told_of_ping heard

-- where the lines of a health are told, it came of the ping, and this is known of its figures
abbrev pub TellsPing : (Metrics → Type 0) → (Result Health StoreFault → Type 0) → ControlReply → Type 0
TellsPing known pinged (spoken.Health lines) = (h : Health) × pinged (Ok h) × known h.figures × (lines ≡ line_of h)
TellsPing known pinged (spoken.Outcome outcome) = Unit {0}
TellsPing known pinged (spoken.List lines) = Unit {0}

-- where the lines of a health are told, they tell that the copy is so far, or of none
abbrev pub TellsHowFar : Option CopyProgress → ControlReply → Type 0
TellsHowFar far (spoken.Health lines) = (h : Health) × (h.figures.copying ≡ far) × (lines ≡ line_of h)
TellsHowFar far (spoken.Outcome outcome) = Unit {0}
TellsHowFar far (spoken.List lines) = Unit {0}
