-- What was served or accepted once is served for good.
use Rattle.std.specs.Prelude.{ℕ, ◌≡◌, ◌⊎◌, List, [], ◌∷◌, Some}
use Rattle.std.specs.FinMap as map
use Rattle.world.specs.declared.entry.Right.TheVariants.{Publishes}
use Rattle.machine.specs.declared.request.Query.{Query}
use Rattle.machine.specs.declared.request.Query.TheVariants as query
use Rattle.machine.specs.declared.request.Body.{Body}
use Rattle.machine.specs.declared.request.Publish.{Publish}
use Rattle.machine.specs.declared.request.Request.TheVariants.{Get, Put}
use Rattle.machine.specs.declared.request.Event.{Event}
use Rattle.machine.specs.declared.request.Event.TheVariants.{Requested}
use Rattle.machine.specs.declared.reply.Decision.{Decision}
use Rattle.machine.specs.declared.reply.Decision.TheVariants.{Published, Same}
use Rattle.machine.specs.declared.reply.Reply.{Reply}
use Rattle.machine.specs.declared.reply.Reply.TheVariants as reply
use Rattle.machine.specs.declared.reply.Answer.{Answer}
use Rattle.machine.specs.declared.reply.Answer.TheVariants.{Replied, Failed}
use Rattle.world.specs.World.{World, IsWorld}
use Rattle.machine.specs.Machine.{Run, entry_of}
use Rattle.machine.specs.Isolation.{belongs}

-- the event met a fault
abbrev pub IsFailed : Answer → Type 0
IsFailed (Replied r) = ⊥
IsFailed (Failed fault) = Unit {0}

-- the query asks for one version
abbrev pub IsOfVersion : Query → Type 0
IsOfVersion (query.GoMod path version) = Unit {0}
IsOfVersion (query.Zip path version) = Unit {0}
IsOfVersion (query.Info path version) = Unit {0}
IsOfVersion q = ⊥

-- the reply shows one version that was found
abbrev pub IsFound : Reply → Type 0
IsFound (reply.GoMod b) = Unit {0}
IsFound (reply.Zip b) = Unit {0}
IsFound (reply.Info v time) = Unit {0}
IsFound r = ⊥

-- Once a query of one version with a key of s has found it, then after any events the query with any key that then
-- belongs to s gets an equal reply, or meets a fault. A run may be cut at any event, so this holds from each event of a
-- run on.
abbrev pub StaysServed : Type 0
StaysServed =
    (old mid new : World) (s k later : List ℕ) (q : Query) (r : Reply) (events : List Event) (answers : List Answer)
    (a : Answer)
    → IsWorld old → belongs old k s → IsOfVersion q → IsFound r
    → Run old (Requested (Get k q) ∷ events) (Replied r ∷ answers) mid
    → belongs mid later s → Run mid (Requested (Get later q) ∷ []) (a ∷ []) new
    → (a ≡ Replied r) ⊎ IsFailed a

-- the publish is stored, now or before
abbrev pub IsAccepted : Decision → Type 0
IsAccepted Published = Unit {0}
IsAccepted Same = Unit {0}
IsAccepted d = ⊥

-- the query asks for something that the publish handed in, and this is the reply that has it
abbrev pub asks_back : Publish → Body → Query → Reply → Type 0
asks_back p b (query.GoMod path version) r = (path ≡ p.path) × (version ≡ p.version) × (r ≡ reply.GoMod b.gomod)
asks_back p b (query.Zip path version) r = (path ≡ p.path) × (version ≡ p.version) × (r ≡ reply.Zip b.zip)
asks_back p b (query.Info path version) r = (path ≡ p.path) × (version ≡ p.version)
    × (r ≡ reply.Info version (entry_of p b).time)
asks_back p b q r = ⊥

-- Once a publish with a key of s was accepted, then after any events each key that belongs to s gets its go.mod, its
-- zip and its time, or meets a fault.
abbrev pub AcceptedIsServed : Type 0
AcceptedIsServed =
    (old mid new : World) (s k later : List ℕ) (p : Publish) (b : Body) (d : Decision)
    (q : Query) (r : Reply) (events : List Event) (answers : List Answer) (a : Answer)
    → IsWorld old → belongs old k s → p.body ≡ Some b → IsAccepted d
    → Run old (Requested (Put k p) ∷ events) (Replied (reply.Decided d) ∷ answers) mid
    → belongs mid later s → asks_back p b q r → Run mid (Requested (Get later q) ∷ []) (a ∷ []) new
    → (a ≡ Replied r) ⊎ IsFailed a

-- ---- a list of publishes that comes again

-- the publishes as requests with this key
abbrev pub puts : List ℕ → List Publish → List Event
puts k [] = []
puts k (p ∷ ps) = Requested (Put k p) ∷ puts k ps

-- the answer accepts a publish
abbrev pub IsAcceptance : Answer → Type 0
IsAcceptance (Replied (reply.Decided d)) = IsAccepted d
IsAcceptance a = ⊥

-- each answer accepts a publish
abbrev pub AllAccepted : List Answer → Type 0
AllAccepted [] = Unit {0}
AllAccepted (a ∷ answers) = IsAcceptance a × AllAccepted answers

-- each answer says that an equal entry is there already, or is a fault
abbrev pub AllSameOrFailed : List Answer → Type 0
AllSameOrFailed [] = Unit {0}
AllSameOrFailed (a ∷ answers) = ((a ≡ Replied (reply.Decided Same)) ⊎ IsFailed a) × AllSameOrFailed answers

-- Once each publish of a list with a key of s was accepted, then after any events the list with a key that may then
-- publish to s changes nothing, and each of its publishes gets the answer that an equal entry is there already, or
-- meets a fault.
abbrev pub RepeatedListChangesNothing : Type 0
RepeatedListChangesNothing =
    (old mid later new : World) (s k again : List ℕ) (ps : List Publish) (events : List Event)
    (accepted told repeated : List Answer)
    → IsWorld old → belongs old k s → Run old (puts k ps) accepted mid → AllAccepted accepted
    → Run mid events told later → map.get later.keys again ≡ Some (record { shelf = s; right = Publishes })
    → Run later (puts again ps) repeated new
    → AllSameOrFailed repeated × (new ≡ later)
