-- What a shelf can learn of others by what a request asks of the store, and by the faults that it meets: nothing.
use Rattle.std.specs.Prelude.{ℕ, ◌≡◌, ◌≢◌, ◌⊎◌, List, [], ◌∷◌, ◌++◌, Option, Some, None, true}
use Rattle.std.specs.FinMap as map
use Rattle.world.specs.declared.entry.Holder.{Holder}
use Rattle.world.specs.declared.registry.StoreFault.{StoreFault}
use Rattle.world.specs.declared.registry.StoreFault.TheVariants.{Memory}
use Rattle.world.specs.World.{World, IsWorld, sees}
use Rattle.machine.specs.declared.request.Request.{Request}
use Rattle.machine.specs.declared.traced_shelves.Method.TheVariants as method
use Rattle.machine.specs.Calls.{Question, Call, History, of_key}
use Rattle.machine.specs.Isolation.{belongs, key_of, Low}
use Rattle.machine.specs.Needs.{Need, Told, Room, needs, Meets}

-- the need is memory of the request's own, or an answer of this shelf
abbrev pub IsOwnNeed : List ℕ → Need → Type 0
IsOwnNeed s Room = Unit {0}
IsOwnNeed s (Told q) = (q.of ≡ s) × (q.method ≢ method.Key)

abbrev pub AreOwnNeeds : List ℕ → List Need → Type 0
AreOwnNeeds s [] = Unit {0}
AreOwnNeeds s (n ∷ ns) = IsOwnNeed s n × AreOwnNeeds s ns

-- A request asks for its key, and after that only the shelf that holds it; nothing more if the key is unknown.
abbrev pub NeedsAreOwn : Type 0
NeedsAreOwn =
    (w : World) (k : List ℕ) (h : Holder) (a : Request) → key_of a ≡ Some k → map.get w.keys k ≡ Some h
    → (rest : List Need) × (needs w a ≡ Told (of_key k) ∷ rest) × AreOwnNeeds h.shelf rest

abbrev pub UnknownNeedsNothing : Type 0
UnknownNeedsNothing =
    (w : World) (k : List ℕ) (a : Request) → key_of a ≡ Some k → map.get w.keys k ≡ None
    → needs w a ≡ Told (of_key k) ∷ []

-- In worlds that are the same to s, a request with a key of a shelf that s sees needs the same: what is asked, of which
-- shelf, at which path and version, and in which order.
abbrev pub NeedsAreAlike : Type 0
NeedsAreAlike =
    (w x : World) (s t k : List ℕ) (a : Request) → IsWorld w → IsWorld x → Low w x s → sees w s t ≡ true → belongs w k t
    → key_of a ≡ Some k
    → needs w a ≡ needs x a

-- each of these calls met the fault, or none, that its question meets by this
abbrev pub AreRefusedBy : (Question → Option StoreFault) → List Call → Type 0
AreRefusedBy refuses [] = Unit {0}
AreRefusedBy refuses (c ∷ calls) = (c.fault ≡ refuses c.question) × AreRefusedBy refuses calls

-- From worlds that are the same to s, over two stores that refuse the same questions, a request with a key of a shelf
-- that s sees meets the same fault, or none in both, unless memory ran out in one: the store's or the request's own.
abbrev pub FaultsAreAlike : Type 0
FaultsAreAlike =
    (w x : World) (s t k : List ℕ) (a : Request) (refuses : Question → Option StoreFault)
    (old new old_too new_too : History)
    (calls calls_too : List Call) (met met_too : Option StoreFault)
    → IsWorld w → IsWorld x → Low w x s → sees w s t ≡ true → belongs w k t → key_of a ≡ Some k
    → Meets old new (needs w a) met → new.calls ≡ old.calls ++ calls → AreRefusedBy refuses calls
    → Meets old_too new_too (needs x a) met_too → new_too.calls ≡ old_too.calls ++ calls_too
    → AreRefusedBy refuses calls_too
    → (met ≡ met_too) ⊎ ((met ≡ Some Memory) ⊎ (met_too ≡ Some Memory))
