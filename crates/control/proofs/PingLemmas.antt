-- What a ping is told.
use Rattle.std.proofs.Common.{ℕ, ◌≡◌, List, Result, Ok, Err, IfOk, inl, inr, refl, subst, sym}
use Rattle.engine.specs.declared.fault.Io.{Io}
use Rattle.world.specs.Store.{Shown}
use Rattle.world.specs.declared.registry.StoreFault.{StoreFault}
use Rattle.world.specs.declared.registry.StoreFault.TheVariants.{Memory}
use Rattle.control.specs.Copying.{IsOnlyRead}
use Rattle.control.specs.Health.{IsPinged}
use Rattle.control.specs.Listing.{told_of_list}
use Rattle.control.specs.Pinging.{IsLineFor, Pings, TellsPing}
use Rattle.control.specs.ControlReply.{IsOutcome}
use Rattle.control.specs.declared.health.Metrics.{Metrics}
use Rattle.control.specs.declared.health.Health.{Health}
use Rattle.orders.specs.declared.outcome.Outcome.{Outcome}
use Rattle.control.specs.declared.tally.Tally.{Tally}
use Rattle.control.specs.declared.control_reply.ControlReply.{ControlReply}
use Rattle.control.specs.declared.control_reply.ControlReply.TheVariants as spoken

-- versions were counted
pub pings_counted : {S : Type 0} (shown : S → Shown) (counted : S → S → ℕ → Type 0) (tally : Tally) (old new : S)
    (health : Health) (told : ControlReply) → IsOnlyRead (shown old) (shown new)
    → IsPinged tally (shown old).failures (shown new).failures (counted old new) (Ok health) → IsLineFor health told
    → Pings shown counted tally old new told
pings_counted shown counted tally old new health told reads came line = elim line [
  | inl is ↦ record { heard = Ok health; reads = reads; came = came; tells = is }
  | inr is ↦ record { heard = Err Memory; reads = reads; came = λ e. cc; tells = is }
]

module _ (known : Metrics → Type 0) (pinged : Result Health StoreFault → Type 0) where
  -- what is told of a health is told of it, and of nothing else
  tells_ping : (health : Health) (told : ControlReply) → pinged (Ok health) → known health.figures
      → IsLineFor health told
      → TellsPing known pinged told
  tells_ping health told came is line = elim line [
    | inl e ↦ subst (TellsPing known pinged) (sym e) (health, came, is, refl)
    | inr e ↦ subst (TellsPing known pinged) (sym e) tt
  ]

  told_of_none : (heard : Result (List ℕ) StoreFault) → TellsPing known pinged (told_of_list heard)
  told_of_none (Ok text) = tt
  told_of_none (Err fault) = tt

  -- a list is no health
  pub tells_no_ping : (heard : Result (List ℕ) StoreFault) (told : ControlReply) → told ≡ told_of_list heard
      → TellsPing known pinged told
  tells_no_ping heard told is = subst (TellsPing known pinged) (sym is) (told_of_none heard)

  -- nor is an outcome
  pub outcome_no_ping : (told : ControlReply) → IsOutcome told → TellsPing known pinged told
  outcome_no_ping (spoken.Outcome outcome) is = tt
  outcome_no_ping (spoken.Health line) is = absurd is
  outcome_no_ping (spoken.List lines) is = absurd is

  pub tells_outcome : (result : Result ControlReply Io) → IfOk result IsOutcome → IfOk result (TellsPing known pinged)
  tells_outcome (Ok told) is = outcome_no_ping told is
  tells_outcome (Err e) is = tt

  pub tells_same : (outcome : Outcome) (result : Result ControlReply Io)
      → IfOk result (λ said. said ≡ spoken.Outcome outcome)
      → IfOk result (TellsPing known pinged)
  tells_same outcome (Ok told) same = subst (TellsPing known pinged) (sym same) tt
  tells_same outcome (Err e) same = tt

-- what is told of versions that were counted
pub tells_counted : (known : Metrics → Type 0) (tally : Tally) (before now : ℕ) (counted : ℕ → Type 0)
    (health : Health) (told : ControlReply) → health.tally ≡ tally → health.store_failures ≡ now
    → counted health.versions
    → known health.figures → IsLineFor health told → TellsPing known (IsPinged tally before now counted) told
tells_counted known tally before now counted health told same failures versions is line =
    tells_ping known (IsPinged tally before now counted) health told (same, failures, versions) is line
