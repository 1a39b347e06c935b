-- Attempts to take a caller one after another, and the end of a connection.
use Rattle.std.proofs.Common.{◌++◌, ◌+◌, ◌∙◌, ◌∷◌, ◌≡◌, List, None, Option, [], ap, append_assoc, refl, ℕ}
use Rattle.socket.specs.Listening.{Asked, HangsUp, IsGone, PollsOnly, deeds_of, door_of, polls_in}
use Rattle.socket.specs.History.{Done, EndsOperator, EndsPeer}
use Rattle.socket.specs.declared.callers.Caller.{Caller}
use Rattle.socket.specs.declared.callers.Caller.TheVariants.{Peer, Operator}
use Rattle.socket.specs.declared.deed.Deed.TheVariants as deed
use Rattle.socket.specs.declared.deed.Search.TheVariants.{Waiting}
use Rattle.socket.specs.declared.listener_call.ListenerCall.TheVariants as call
use Rattle.socket.specs.declared.listener_call.Stage.TheVariants as stage

-- so many polls, which waited unless somebody was known to wait, named nobody who could be taken
pub record Idles {C : Type 0} (old now : List (Asked C)) (polls : ℕ) : Type 0 where
  pub same : deeds_of now ≡ deeds_of old
  pub polled : polls_in now ≡ polls_in old + polls
  pub only : PollsOnly Waiting old now

-- one was left, and then its connection was ended
pub left_then : {C : Type 0} (old mid new : List (Done C)) (caller gone : C) (status : Option ℕ)
    → mid ≡ old ++ ([], deed.Left caller status) ∷ [] → new ≡ mid ++ ([], deed.Ended gone) ∷ []
    → new ≡ old ++ ([], deed.Left caller status) ∷ ([], deed.Ended gone) ∷ []
left_then old mid new caller gone status left ended =
    ended ∙ ap (λ deeds. deeds ++ ([], deed.Ended gone) ∷ []) left
    ∙ append_assoc old (([], deed.Left caller status) ∷ []) (([], deed.Ended gone) ∷ [])

module _ {P O : Type 0} (is_ended : P → Option ℕ → P → Type 0) (old mid new : List (Asked (Caller P O))) where
  -- a caller was left, and then its connection was closed
  pub hangs_up : (caller gone : Caller P O) (status : Option ℕ) → IsGone is_ended caller status gone
      → mid ≡ ([], call.Connection (stage.Left status) caller) ∷ old
      → new ≡ ([], call.Connection stage.HungUp gone) ∷ mid
      → HangsUp is_ended old new caller status
  hangs_up caller gone status is left closed =
      (gone, is, closed ∙ ap (λ calls. ([], call.Connection stage.HungUp gone) ∷ calls) left)

  -- so the connection of a peer was ended
  pub ends_peer : (peer : P) (gone : Caller P O) (status : Option ℕ) → IsGone is_ended (Peer peer) status gone
      → mid ≡ ([], call.Connection (stage.Left status) (Peer peer)) ∷ old
      → new ≡ ([], call.Connection stage.HungUp gone) ∷ mid
      → EndsPeer is_ended (door_of old) (door_of new) peer status
  ends_peer peer (Peer gone) status is left closed = (
    gone,
    is,
    record {
      waits = refl;
      noted = left_then (deeds_of old) (deeds_of mid) (deeds_of new) (Peer peer) (Peer gone) status (ap deeds_of left)
          (ap deeds_of closed);
    },
  )
  ends_peer peer (Operator gone) status is left closed = absurd is

  -- and that of an operator
  pub ends_operator : (operator : O) → mid ≡ ([], call.Connection (stage.Left None) (Operator operator)) ∷ old
      → new ≡ ([], call.Connection stage.HungUp (Operator operator)) ∷ mid
      → EndsOperator (door_of old) (door_of new) operator
  ends_operator operator left closed = record {
    waits = refl;
    noted = left_then (deeds_of old) (deeds_of mid) (deeds_of new) (Operator operator) (Operator operator) None
        (ap deeds_of left) (ap deeds_of closed);
  }
