-- `key-revoke --fingerprint` with `--control`, and the `serve` that gets its line.
use Rattle.std.proofs.Common.{◌≡◌, ℕ, List, [], Option, Result, Ok, Err, refl, ◌∙◌, ap, subst, inl, inr}
use Rattle.std.proofs.Common.{Bool, true, false, true≢false}
use Rattle.keyring.specs.Revoke.{after_revoke, revoked}
use Rattle.world.specs.Store.{Shown}
use Rattle.world.specs.World.{World}
use Rattle.world.specs.declared.registry.RegistryReply.{RegistryReply}
use Rattle.world.specs.declared.registry.StoreFault.{StoreFault}
use Rattle.control.specs.Copying.{Making, OfKey, ToPath, GoesThroughSteps}
use Rattle.control.specs.Hearing.{Heard, Carried, Made, Listed, Pinged, Named, Stop, NoOrder, NoMemory}
use Rattle.control.specs.Hearing.{GoesAs, IsHeardIn, ListsBy, told_heard}
use Rattle.control.specs.Naming.{Finds, Naming, NamesOne, NamesNone, ReadError, named_result, named_steps}
use Rattle.control.specs.Outcome.{outcome_of}
use Rattle.orders.specs.Order as orders
use Rattle.orders.specs.Order.{Ordered, IsLineOf, commanded}
use Rattle.orders.proofs.OrderLemmas.{one_order}
use Rattle.control.specs.declared.health.Health.{Health}
use Rattle.orders.specs.declared.command.RegistryCommand.TheVariants.{KeyRevoke}
use Rattle.orders.specs.declared.outcome.Outcome.{Outcome}
use Rattle.control.specs.declared.client.OrderReply.TheVariants as reply
use Rattle.control.specs.declared.control_reply.ControlReply.TheVariants as spoken
use Rattle.commands.specs.Controlled.{RevokesAt, RevokesAsOnTheStore}
use Rattle.commands.specs.Ending.{ending}
use Rattle.commands.specs.SentOrder.{Ends, ending_of, quiet}
use Rattle.commands.proofs.Controlled.{outcome_in_told, registered_in, replied}

-- ---- a line that names a key orders nothing else

abbrev is_named : Ordered → Bool
is_named (orders.RevokeByFingerprint f) = true
is_named other = false

abbrev named_in : Ordered → List ℕ
named_in (orders.RevokeByFingerprint f) = f
named_in other = []

alone : (sent f : List ℕ) (o : Ordered) → IsLineOf sent (orders.RevokeByFingerprint f) → IsLineOf sent o
    → true ≡ is_named o
alone sent f o is is_too = ap is_named (one_order sent (orders.RevokeByFingerprint f) o is is_too)

-- ---- how the command ends

ends_so : (f : List ℕ) (told : Result RegistryReply StoreFault)
    → ending_of (orders.RevokeByFingerprint f) (Ok (reply.Outcome (outcome_of told))) ≡ quiet (ending told)
ends_so f (Ok r) = refl
ends_so f (Err fault) = refl

module _ (idle : Option Heard → Type 0) (meanwhile : Making → Type 0) (old new : Shown) (f : List ℕ) (ended : Ends)
    (w : World) where
  named : new.is_honest → old.stands w → (naming : Naming) → Finds old new f naming
      → GoesThroughSteps old new (named_steps f naming) → ended ≡ quiet (ending (named_result naming))
      → RevokesAt new w f ended
  named honest stands (NamesOne key (Ok r)) finds through ends =
      let run = through.runs.at honest w stands in
      let found = finds honest w stands in
      let outcome = ap registered_in run.run.0 ∙ replied w (KeyRevoke key) in
      inl (
        ends ∙ ap (λ o. quiet (ending (Ok o))) (outcome ∙ ap (revoked w) found),
        subst new.stands (ap (after_revoke w) found) run.ends,
      )
  named honest stands (NamesOne key (Err fault)) finds through ends =
      inr (fault, ends, (through.runs.at honest w stands).ends)
  named honest stands NamesNone finds through ends =
      let found = finds honest w stands in
      inl (
        ends ∙ ap (λ o. quiet (ending (Ok (revoked w o)))) found,
        subst new.stands (ap (after_revoke w) found) (through.runs.at honest w stands).ends,
      )
  named honest stands (ReadError fault) finds through ends = inr (fault, ends, (through.runs.at honest w stands).ends)

  heard_so : (sent : List ℕ) → new.is_honest → old.stands w → IsLineOf sent (orders.RevokeByFingerprint f)
      → (heard : Heard) → IsHeardIn sent heard
      → (outcome : Outcome) → spoken.Outcome outcome ≡ told_heard heard
      → ended ≡ ending_of (orders.RevokeByFingerprint f) (Ok (reply.Outcome outcome))
      → GoesAs idle meanwhile old new heard → ListsBy old new heard → RevokesAt new w f ended
  heard_so sent honest stands asks (Named g naming) from outcome tells ends through finds =
      let same = ap named_in (one_order sent (orders.RevokeByFingerprint g) (orders.RevokeByFingerprint f) from asks) in
      let both = subst (λ (x : List ℕ). Finds old new x naming × GoesThroughSteps old new (named_steps x naming)) same
      (finds, through.1) in
      named honest stands naming both.0 both.1
      (ends ∙ ap (λ o. ending_of (orders.RevokeByFingerprint f) (Ok (reply.Outcome o))) (ap outcome_in_told tells)
      ∙ ends_so f (named_result naming))
  heard_so sent honest stands asks (Carried order told) from outcome tells ends through lists =
      absurd (true≢false (alone sent f (orders.Registry (commanded order)) asks from))
  heard_so sent honest stands asks (Made (ToPath path told)) from outcome tells ends through lists =
      absurd (true≢false (alone sent f (orders.Copy path) asks from))
  heard_so sent honest stands asks (Made (OfKey key printed told)) from outcome tells ends through lists =
      absurd (true≢false (alone sent f (orders.Catalog key) asks from))
  heard_so sent honest stands asks (Pinged told) from outcome tells ends through lists =
      absurd (true≢false (alone sent f orders.Ping asks from))
  heard_so sent honest stands asks (Listed listing told) from outcome tells ends through lists =
      absurd (true≢false (alone sent f (orders.ListOf listing) asks from))
  heard_so sent honest stands asks Stop from outcome tells ends through lists =
      absurd (true≢false (alone sent f orders.Stop asks from))
  heard_so sent honest stands asks NoOrder from outcome tells ends through lists =
      absurd (from (orders.RevokeByFingerprint f) asks)
  heard_so sent honest stands asks NoMemory from outcome tells ends through lists = absurd from

pub revokes_as_on_the_store : (made : Making → Type 0)
    (pinged : Result Health StoreFault → Type 0) (idle : Option Heard → Type 0) (meanwhile : Making → Type 0) (old new : Shown)
    → RevokesAsOnTheStore made pinged idle meanwhile old new
revokes_as_on_the_store made pinged idle meanwhile old new f ended w two honest stands =
    heard_so idle meanwhile old new f ended w two.passed.sent honest stands two.exchanges.0 two.server.heard
    two.server.from.0 two.told two.server.tells two.ends two.server.through two.server.lists
