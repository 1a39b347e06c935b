-- What was asked of the listeners, and what that says. Lists of calls have the last call first.
use Rattle.std.specs.Prelude.{ℕ, ◌≡◌, ◌+◌, ◌-◌, ◌≤◌, ◌^◌, ◌⊎◌, ◌==◌, Bool, true, false, cond, not, ◌&&◌, ◌||◌, IsTrue}
use Rattle.std.specs.Prelude.{List, [], ◌∷◌, ◌++◌, Option, Some, None, Result, Ok, Err, refl, ⊤}
use Rattle.std.specs.Coded.{Coded, Coded-set, code_by, coded_ℕ, coded_bool, coded_option, coded×, ×_prop}
use Rattle.std.specs.Duration.{as_nanos}
use Rattle.std.specs.declared.time.Duration.{Duration}
use Rattle.socket.specs.History.{Done, Door, Takes, TakesNone}
use Rattle.socket.specs.declared.callers.Caller.{Caller}
use Rattle.socket.specs.declared.callers.Caller.TheVariants.{Peer, Operator}
use Rattle.socket.specs.declared.deed.Deed.{Deed}
use Rattle.socket.specs.declared.deed.Deed.TheVariants as deed
use Rattle.socket.specs.declared.deed.ListenOn.{ListenOn}
use Rattle.socket.specs.declared.deed.Search.{Search}
use Rattle.socket.specs.declared.deed.Search.TheVariants.{Waiting, AtOnce}
use Rattle.socket.specs.declared.listener_call.Listener.{Listener}
use Rattle.socket.specs.declared.listener_call.Listener.TheVariants.{Peers, Operators}
use Rattle.socket.specs.declared.listener_call.ListenerCall.{ListenerCall}
use Rattle.socket.specs.declared.listener_call.ListenerCall.TheVariants.{Bound, Unbound, Made, Unmade, Removed}
use Rattle.socket.specs.declared.listener_call.ListenerCall.TheVariants.{Polled, Unpolled, Nobody, Unaccepted}
use Rattle.socket.specs.declared.listener_call.ListenerCall.TheVariants.{GivenUp, Unawaited, Watched, WatchedOperator}
use Rattle.socket.specs.declared.listener_call.ListenerCall.TheVariants.{Connection, Closed}
use Rattle.socket.specs.declared.listener_call.Ready.{Ready}
use Rattle.socket.specs.declared.listener_call.Stage.{Stage}
use Rattle.socket.specs.declared.listener_call.Stage.TheVariants.{Accepted, Awaited, Left, HungUp}
use Rattle.socket.specs.declared.socket_file.SocketFile.{SocketFile}

-- a call, with the path of the socket that it is about, or with none
abbrev pub Asked : Type 0 → Type 0
Asked C = List ℕ × ListenerCall C

-- an operator connects to the socket, and a peer to the port or to standard input
abbrev pub IsAt : {P O : Type 0} → Listener → Caller P O → Type 0
IsAt Peers (Peer peer) = ⊤
IsAt Peers (Operator operator) = ⊥
IsAt Operators (Peer peer) = ⊥
IsAt Operators (Operator operator) = ⊤

-- ---- what is noted of the result of a call

module _ {E : Type 0} where
  abbrev pub bound_at : {C : Type 0} → ListenOn → Result ListenOn E → ListenerCall C
  bound_at entrance (Ok bound) = Bound bound
  bound_at entrance (Err e) = Unbound entrance

  abbrev pub made_as : {C : Type 0} → Result SocketFile E → ListenerCall C
  made_as (Ok file) = Made file
  made_as (Err e) = Unmade

  abbrev pub polled_for : {C : Type 0} → Search → Option Duration → Result Ready E → ListenerCall C
  polled_for search longest (Ok seen) = Polled search longest seen
  polled_for search longest (Err e) = Unpolled search longest

  abbrev pub accepted_at : {C : Type 0} → Listener → Result (Option C) E → ListenerCall C
  accepted_at at (Ok (Some caller)) = Connection Accepted caller
  accepted_at at (Ok None) = Nobody at
  accepted_at at (Err e) = Unaccepted

  abbrev pub awaited_as : {P O : Type 0} → Result P E → ListenerCall (Caller P O)
  awaited_as (Ok peer) = Connection Awaited (Peer peer)
  awaited_as (Err e) = Unawaited

-- ---- the deeds that the calls are

module _ {C : Type 0} where
  abbrev search_since : ListenerCall C → Search → Search
  search_since (Polled search longest seen) before = search
  search_since (Unpolled search longest) before = search
  search_since other before = before

  -- how the caller was looked for whom the last poll was for
  abbrev pub search_of : List (Asked C) → Search
  search_of [] = Waiting
  search_of (asked ∷ before) = search_since asked.1 (search_of before)

  abbrev deed_of_step : Stage → C → List (Asked C) → Deed C
  deed_of_step Accepted caller before = deed.Taken (search_of before) caller
  deed_of_step Awaited caller before = deed.Taken Waiting caller
  deed_of_step (Left status) caller before = deed.Left caller status
  deed_of_step HungUp caller before = deed.Ended caller

  -- what a call does, after those before it
  abbrev pub deed_of : ListenerCall C → List (Asked C) → Option (Deed C)
  deed_of (Bound entrance) before = Some (deed.Listens entrance)
  deed_of (Unbound entrance) before = Some (deed.Deaf entrance)
  deed_of (Made file) before = Some deed.Made
  deed_of Unmade before = Some deed.Unmade
  deed_of (Removed file) before = Some deed.Removed
  deed_of (Polled search longest seen) before = None
  deed_of (Unpolled search longest) before = Some (deed.Untaken search)
  deed_of (Nobody at) before = None
  deed_of Unaccepted before = Some (deed.Untaken (search_of before))
  deed_of Unawaited before = Some deed.UntakenPeer
  deed_of GivenUp before = Some (deed.Untaken Waiting)
  deed_of (Watched at named) before = None
  deed_of WatchedOperator before = Some deed.Watched
  deed_of (Connection step caller) before = Some (deed_of_step step caller before)
  deed_of Closed before = Some deed.Closed

  abbrev pub followed_by : List (Done C) → List ℕ → Option (Deed C) → List (Done C)
  followed_by deeds path None = deeds
  followed_by deeds path (Some what) = deeds ++ (path, what) ∷ []

  -- what was done by these calls, the oldest first
  abbrev pub deeds_of : List (Asked C) → List (Done C)
  deeds_of [] = []
  deeds_of (asked ∷ before) = followed_by (deeds_of before) asked.0 (deed_of asked.1 before)

  -- who connects is not known before; what was done is what was asked
  abbrev pub door_of : List (Asked C) → Door C
  door_of calls = (None, deeds_of calls)

-- ---- what is known after the calls

abbrev pub is_same : Listener → Listener → Bool
is_same Peers Peers = true
is_same Peers Operators = false
is_same Operators Peers = false
is_same Operators Operators = true

abbrev pub named_at : Listener → Ready → Bool
named_at Peers seen = seen.peer
named_at Operators seen = seen.operator

abbrev is_for : Search → Search → Bool
is_for Waiting Waiting = true
is_for Waiting AtOnce = false
is_for AtOnce Waiting = false
is_for AtOnce AtOnce = true

-- how long a poll waits: as long as it takes, or not at all
abbrev is_as_long : Option Duration → Bool → Bool
is_as_long None waits = waits
is_as_long (Some longest) waits = not waits && (as_nanos longest == 0)

module _ {C : Type 0} where
  abbrev waits_since : Listener → ListenerCall C → Bool → Bool
  waits_since at (Polled search longest seen) waits = waits || named_at at seen
  waits_since at (Nobody there) waits = cond (is_same at there) false waits
  waits_since at (Watched there named) waits = cond (is_same at there) (not named) waits
  waits_since at other waits = waits

  -- whether somebody may wait at a listener: a poll named it, and then no accept found nobody there, and it is not
  -- watched anew
  abbrev pub waits_at : Listener → List (Asked C) → Bool
  waits_at at [] = false
  waits_at at (asked ∷ before) = waits_since at asked.1 (waits_at at before)

  abbrev left_since : ListenerCall C → Bool → Bool
  left_since (Polled search longest seen) left = left || seen.left
  left_since WatchedOperator left = false
  left_since other left = left

  -- whether a poll saw the operator leave who is watched
  abbrev pub saw_leave : List (Asked C) → Bool
  saw_leave [] = false
  saw_leave (asked ∷ before) = left_since asked.1 (saw_leave before)

  abbrev made_since : ListenerCall C → Option SocketFile → Option SocketFile
  made_since (Made file) made = Some file
  made_since other made = made

  -- the file of the socket that was made last
  abbrev pub made_by : List (Asked C) → Option SocketFile
  made_by [] = None
  made_by (asked ∷ before) = made_since asked.1 (made_by before)

  abbrev polls_since : ListenerCall C → ℕ → ℕ
  polls_since (Polled search longest seen) polls = polls + 1
  polls_since other polls = polls

  -- how many polls returned
  abbrev pub polls_in : List (Asked C) → ℕ
  polls_in [] = 0
  polls_in (asked ∷ before) = polls_since asked.1 (polls_in before)

  abbrev polls_for_since : Search → ListenerCall C → ℕ → ℕ
  polls_for_since how (Polled search longest seen) polls = cond (is_for how search) (polls + 1) polls
  polls_for_since how (Unpolled search longest) polls = cond (is_for how search) (polls + 1) polls
  polls_for_since how other polls = polls

  -- how many polls were made for callers who were looked for so
  abbrev pub polls_for : Search → List (Asked C) → ℕ
  polls_for how [] = 0
  polls_for how (asked ∷ before) = polls_for_since how asked.1 (polls_for how before)

  -- the polls since then were all for callers who were looked for so
  abbrev pub PollsOnly : Search → List (Asked C) → List (Asked C) → Type 0
  PollsOnly Waiting old new = polls_for AtOnce new ≡ polls_for AtOnce old
  PollsOnly AtOnce old new = polls_for Waiting new ≡ polls_for Waiting old

  -- whether a poll may wait after these calls: only for a caller who is waited for, and only if nobody may wait already
  abbrev pub is_wait_due : Search → List (Asked C) → Bool
  is_wait_due Waiting before = not (waits_at Peers before) && not (waits_at Operators before)
  is_wait_due AtOnce before = false

  -- whether a poll waits as long as it takes where it may wait, and otherwise not at all
  abbrev pub waits_as_due : Search → Option Duration → List (Asked C) → Bool
  waits_as_due search longest before = is_as_long longest (is_wait_due search before)

  abbrev pub WaitsAsDue : Search → Option Duration → List (Asked C) → Type 0
  WaitsAsDue search longest before = IsTrue (waits_as_due search longest before)

abbrev coded_file : Coded SocketFile
coded_file = code_by (ℕ × ℕ) (coded× coded_ℕ coded_ℕ) (λ f. (f.device, f.inode))
    (λ p. record { device = p.0; inode = p.1 }) (λ _. refl)

module _ {P O : Type 0} where
  abbrev is_accept : Listener → ListenerCall (Caller P O) → Bool
  is_accept Peers (Connection Accepted (Peer peer)) = true
  is_accept Operators (Connection Accepted (Operator operator)) = true
  is_accept at other = false

  -- whether the last call accepted a caller at this listener
  abbrev accepted_last : Listener → List (Asked (Caller P O)) → Bool
  accepted_last at [] = false
  accepted_last at (asked ∷ before) = is_accept at asked.1

  -- whether a call may come after those before it: a poll waits as long as it takes where it may wait, and otherwise
  -- not at all; a peer is accepted only if no operator may wait; and a listener is watched anew only right after a
  -- caller was accepted there
  abbrev pub is_due : ListenerCall (Caller P O) → List (Asked (Caller P O)) → Bool
  is_due (Polled search longest seen) before = waits_as_due search longest before
  is_due (Unpolled search longest) before = waits_as_due search longest before
  is_due (Connection Accepted (Peer peer)) before = not (waits_at Operators before)
  is_due (Watched at named) before = accepted_last at before
  is_due other before = true

  -- whether each call came when it might
  abbrev pub is_orderly : List (Asked (Caller P O)) → Bool
  is_orderly [] = true
  is_orderly (asked ∷ before) = is_due asked.1 before && is_orderly before

  -- What is kept of these calls is what they say: whether a peer may wait, or an operator, whether the one who is
  -- watched left, and the file of the socket. And each call came when it might.
  abbrev pub IsKept : List (Asked (Caller P O)) → Bool → Bool → Bool → Option SocketFile → Type 0
  IsKept calls peer operator left made = (peer ≡ waits_at Peers calls) × ((operator ≡ waits_at Operators calls)
      × ((left ≡ saw_leave calls) × ((made ≡ made_by calls) × IsTrue (is_orderly calls))))

  pub IsKept-prop : (calls : List (Asked (Caller P O))) (peer operator left : Bool) (made : Option SocketFile)
      → IsProp (IsKept calls peer operator left made)
  IsKept-prop calls peer operator left made = ×_prop (Coded-set coded_bool _ _) (×_prop (Coded-set coded_bool _ _)
      (×_prop (Coded-set coded_bool _ _) (×_prop (Coded-set (coded_option coded_file) _ _) (Coded-set coded_bool _ _))))

-- ---- one attempt to take a caller

-- so many polls are made for one caller at most
abbrev pub most_polls : ℕ
most_polls = 2 ^ 64 - 1

module _ {C : Type 0} where
  abbrev is_refusal : ListenerCall C → Bool
  is_refusal (Unpolled search longest) = true
  is_refusal Unaccepted = true
  is_refusal other = false

  -- whether the last call is a poll or an accept that failed
  abbrev pub is_refused : List (Asked C) → Bool
  is_refused [] = false
  is_refused (asked ∷ before) = is_refusal asked.1

  -- why nobody was taken: the last call failed, or the most polls were made
  abbrev pub IsFailed : List (Asked C) → List (Asked C) → Type 0
  IsFailed old new = IsTrue (is_refused new) ⊎ (polls_in old + most_polls ≤ polls_in new)

  -- the listeners were polled once, which waited as it was due, or failed
  abbrev pub Looks : {A E : Type 0} → Search → List (Asked C) → List (Asked C) → Result A E → Type 0
  Looks search old new (Ok x) = (longest : Option Duration) × (seen : Ready)
      × (new ≡ ([], Polled search longest seen) ∷ old) × WaitsAsDue search longest old
  Looks search old new (Err e) = (longest : Option Duration)
      × (new ≡ ([], Unpolled search longest) ∷ old) × WaitsAsDue search longest old

  -- Nobody waits at this listener, nor at another where nobody did. Nothing was done, and there was no poll.
  pub record FindsNone (at : Listener) (old new : List (Asked C)) : Type 0 where
    pub same : deeds_of new ≡ deeds_of old
    pub search : search_of new ≡ search_of old
    pub unpolled : polls_in new ≡ polls_in old
    pub unlooked : (search : Search) → polls_for search new ≡ polls_for search old
    pub none : waits_at at new ≡ false
    pub others : (other : Listener) → waits_at other old ≡ false → waits_at other new ≡ false

  -- a caller was accepted at a listener, which is then watched anew; or nobody waits there; or the accept failed
  abbrev pub AcceptsAt : {E : Type 0} → Listener → List (Asked C) → List (Asked C) → Result (Option C) E → Type 0
  AcceptsAt at old new (Ok (Some caller)) =
      (named : Bool) × (new ≡ ([], Watched at named) ∷ ([], Connection Accepted caller) ∷ old)
  AcceptsAt at old new (Ok None) = FindsNone at old new
  AcceptsAt at old new (Err e) = new ≡ ([], Unaccepted) ∷ old

  -- The listeners were polled once, and then nobody waits. Nothing was done.
  pub record FindsNobody (old new : List (Asked C)) : Type 0 where
    pub same : deeds_of new ≡ deeds_of old
    pub polled : polls_in new ≡ polls_in old + 1
    pub no_peer : waits_at Peers new ≡ false
    pub no_operator : waits_at Operators new ≡ false

  -- the listeners were polled once, and a caller was taken, or nobody, or a call failed
  abbrev pub TriesOnce : {E : Type 0} → Search → List (Asked C) → List (Asked C) → Result (Option C) E → Type 0
  TriesOnce search old new (Ok (Some caller)) = Takes search (door_of old) (door_of new) caller
  TriesOnce search old new (Ok None) = FindsNobody old new
  TriesOnce search old new (Err e) = TakesNone search (door_of old) (door_of new) × IsTrue (is_refused new)

-- ---- the end of a connection

module _ {P O : Type 0} (is_ended : P → Option ℕ → P → Type 0) where
  -- how a caller is whose connection may be closed, who was left after a reply with this status or after none
  abbrev pub IsGone : Caller P O → Option ℕ → Caller P O → Type 0
  IsGone (Peer peer) status (Peer gone) = is_ended peer status gone
  IsGone (Peer peer) status (Operator gone) = ⊥
  IsGone (Operator operator) status (Peer gone) = ⊥
  IsGone (Operator operator) status (Operator gone) = gone ≡ operator

  -- this caller was left, and then its connection was ended and closed
  abbrev pub HangsUp : List (Asked (Caller P O)) → List (Asked (Caller P O)) → Caller P O → Option ℕ → Type 0
  HangsUp old new caller status = (gone : Caller P O) × IsGone caller status gone
      × (new ≡ ([], Connection HungUp gone) ∷ ([], Connection (Left status) caller) ∷ old)
