-- What a shelf can learn of the requests of others: nothing.
use Rattle.std.specs.Prelude.{ℕ, ◌≡◌, List, [], ◌∷◌, ◌++◌, length, Bool, true, false, Option, Some, None, ◌↔◌}
use Rattle.std.specs.FinMap as map
use Rattle.world.specs.declared.entry.Holder.{Holder}
use Rattle.machine.specs.declared.request.Request.{Request}
use Rattle.machine.specs.declared.request.Request.TheVariants.{Unreadable, Get, Put}
use Rattle.machine.specs.declared.request.Event.{Event}
use Rattle.machine.specs.declared.request.Event.TheVariants.{Requested}
use Rattle.machine.specs.declared.reply.Answer.{Answer}
use Rattle.machine.specs.declared.reply.Answer.TheVariants.{Replied, Failed}
use Rattle.world.specs.World.{World, IsWorld, chain, on_shelf, place}
pub use Rattle.world.specs.World.{is_among, sees}
use Rattle.machine.specs.Machine.{after, after_all, request_reply, after_request, replies, Run, answered, replies_of}

-- ---- the key of a request

-- the key belongs to the shelf
abbrev pub belongs : World → List ℕ → List ℕ → Type 0
belongs w k s = (h : Holder) × (map.get w.keys k ≡ Some h) × (h.shelf ≡ s)

-- the key that a request is made with, if it is readable
abbrev pub key_of : Request → Option (List ℕ)
key_of Unreadable = None
key_of (Get k q) = Some k
key_of (Put k p) = Some k

-- the key that an event is made with, if it is a readable request; a registry command has none
abbrev pub asking_key : Event → Option (List ℕ)
asking_key (Requested a) = key_of a
asking_key e = None

-- ---- a run without other shelves' requests

-- whether there is no holder, or its shelf is one of these
abbrev pub is_near : List (List ℕ) → Option Holder → Bool
is_near ss None = true
is_near ss (Some h) = is_among ss h.shelf

-- whether there is no key, or it is unknown or belongs to one of these shelves
abbrev pub is_near_key : World → List (List ℕ) → Option (List ℕ) → Bool
is_near_key w ss None = true
is_near_key w ss (Some k) = is_near ss (map.get w.keys k)

-- whether an event remains after a purge: it is no request with a key that belongs to another shelf than these
abbrev pub is_remaining : World → List (List ℕ) → Event → Bool
is_remaining w ss e = is_near_key w ss (asking_key e)

-- for each event whether it remains, in the world at its moment
abbrev pub remaining : World → List (List ℕ) → List Event → List Bool
remaining w ss [] = []
remaining w ss (e ∷ es) = is_remaining w ss e ∷ remaining (after w e) ss es

-- the items whose mark is true
abbrev pub marked : {A : Type 0} → List Bool → List A → List A
marked (true ∷ marks) (x ∷ xs) = x ∷ marked marks xs
marked (false ∷ marks) (x ∷ xs) = marked marks xs
marked marks xs = []

-- the events without the requests of other shelves than these
abbrev pub purge : World → List (List ℕ) → List Event → List Event
purge w ss es = marked (remaining w ss es) es

-- The worlds have one registry, and equal entries on each of these shelves.
pub record Agree (w x : World) (ss : List (List ℕ)) : Type 0 where
  pub keys : w.keys ≡ x.keys
  pub shelves : w.shelves ≡ x.shelves
  pub seen : (t : List ℕ) → is_among ss t ≡ true → (p v : List ℕ)
      → map.get w.entries (place t p v) ≡ map.get x.entries (place t p v)

-- A shelf gets the replies that it would get without the requests made with keys of shelves that it does not see: in
-- each run, the replies to the remaining events are those of the machine over the purged list, from this world or from
-- one that agrees with it on what the shelf sees. The worlds after them agree again.
abbrev pub IsIsolated : Type 0
IsIsolated =
    (old old_too new : World) (s : List ℕ) (events : List Event) (answers : List Answer) → IsWorld old
    → Agree old old_too (chain new s)
    → Run old events answers new → let asked : List Event = purge old (chain new s) (answered events answers) in
    (marked (remaining old (chain new s) (answered events answers)) (replies_of answers) ≡ replies old_too asked)
    × Agree new (after_all old_too asked) (chain new s)

-- ---- two runs

-- the event was answered, if it remains
abbrev pub IsAnsweredIfItRemains : Bool → Answer → Type 0
IsAnsweredIfItRemains true (Failed fault) = ⊥
IsAnsweredIfItRemains mark a = Unit {0}

-- each remaining event was answered
abbrev pub RemainingAnswered : World → List (List ℕ) → List Event → List Answer → Type 0
RemainingAnswered w ss (e ∷ es) (a ∷ answers) = IsAnsweredIfItRemains (is_remaining w ss e) a
    × RemainingAnswered (after w e) ss es answers
RemainingAnswered w ss es answers = Unit {0}

-- the event was answered
abbrev pub IsReplied : Answer → Type 0
IsReplied (Replied r) = Unit {0}
IsReplied (Failed fault) = ⊥

-- each event was answered
abbrev pub AllReplied : List Answer → Type 0
AllReplied [] = Unit {0}
AllReplied (a ∷ answers) = IsReplied a × AllReplied answers

-- If no remaining event met a fault, purging the events gives the list that purging only the answered events gives.
abbrev pub PurgeIsTheSame : Type 0
PurgeIsTheSame =
    (old new : World) (s : List ℕ) (events : List Event) (answers : List Answer) → IsWorld old
    → Run old events answers new
    → RemainingAnswered old (chain new s) events answers
    → purge old (chain new s) events ≡ purge old (chain new s) (answered events answers)

-- From worlds that agree on what the shelf sees, a run over a list and a run without faults over the purged list answer
-- the remaining events alike, if none of these met a fault, and end in worlds that agree. Faults of the other events do
-- not matter.
abbrev pub PurgedRunsAgree : Type 0
PurgedRunsAgree =
    (old old_too new new_too : World) (s : List ℕ) (events : List Event) (answers purged : List Answer) → IsWorld old
    → Agree old old_too (chain new s) → Run old events answers new → RemainingAnswered old (chain new s) events answers
    → Run old_too (purge old (chain new s) events) purged new_too → AllReplied purged
    → (marked (remaining old (chain new s) events) answers ≡ purged) × Agree new new_too (chain new s)

-- Two runs from one world, after which a shelf sees the same shelves and whose answered events are equal once purged,
-- give the remaining events equal replies.
abbrev pub FaultyRunsAgree : Type 0
FaultyRunsAgree =
    (old one two : World) (s : List ℕ) (first second : List Event) (told heard : List Answer) → IsWorld old
    → Run old first told one → Run old second heard two → chain one s ≡ chain two s
    → purge old (chain one s) (answered first told) ≡ purge old (chain two s) (answered second heard)
    → marked (remaining old (chain one s) (answered first told)) (replies_of told)
    ≡ marked (remaining old (chain two s) (answered second heard)) (replies_of heard)

-- ---- what is purged

-- There is a mark for each event.
abbrev pub MarksAreAsLong : Type 0
MarksAreAsLong = (w : World) (ss : List (List ℕ)) (es : List Event) → length (remaining w ss es) ≡ length es

-- Each mark says whether its event remains in the world at its moment.
abbrev pub MarksAreAtTheirMoment : Type 0
MarksAreAtTheirMoment =
    (w : World) (ss : List (List ℕ)) (past : List Event) (e : Event) (rest : List Event)
    → remaining w ss (past ++ e ∷ rest)
    ≡ remaining w ss past ++ is_remaining (after_all w past) ss e ∷ remaining (after (after_all w past) e) ss rest

-- a request with a key that belongs to another shelf than these
abbrev pub IsOfOthers : World → List (List ℕ) → Event → Type 0
IsOfOthers w ss e = (k : List ℕ) × (h : Holder) × (asking_key e ≡ Some k) × (map.get w.keys k ≡ Some h)
    × (is_among ss h.shelf ≡ false)

-- An event is dropped exactly if it is a request with a key that belongs to another shelf than these.
abbrev pub OnlyOthersGo : Type 0
OnlyOthersGo = (w : World) (ss : List (List ℕ)) (e : Event) → (is_remaining w ss e ≡ false) ↔ IsOfOthers w ss e

-- ---- what a shelf can distinguish

-- The worlds are the same to s: s sees the same shelves, with the same entries, and with the same keys and rights.
pub record Low (w x : World) (s : List ℕ) : Type 0 where
  pub chains : chain w s ≡ chain x s
  pub entries : (t : List ℕ) → sees w s t ≡ true → on_shelf w t ≡ on_shelf x t
  pub keys : (k : List ℕ) (h : Holder) → sees w s h.shelf ≡ true
      → (map.get w.keys k ≡ Some h) ↔ (map.get x.keys k ≡ Some h)

-- Worlds in which s sees the same shelves agree on those exactly if they are the same to s and have one registry.
abbrev pub AgreeIsLow : Type 0
AgreeIsLow =
    (w x : World) (s : List ℕ) → chain w s ≡ chain x s
    → Agree w x (chain w s) ↔ (Low w x s × (w.keys ≡ x.keys) × (w.shelves ≡ x.shelves))

-- In worlds that are the same to s, a request with a key of a shelf that s sees gets equal replies, and leads to worlds
-- that are again the same to s.
abbrev pub IsBlind : Type 0
IsBlind =
    (w x : World) (s t k : List ℕ) (a : Request) → IsWorld w → IsWorld x → Low w x s → sees w s t ≡ true → belongs w k t
    → key_of a ≡ Some k
    → (request_reply w a ≡ request_reply x a) × Low (after_request w a) (after_request x a) s
