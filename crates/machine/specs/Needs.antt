-- What a request needs of its store and of memory, in order, and the fault that it meets where a need is refused.
use Rattle.std.specs.Prelude.{ℕ, ◌≡◌, ◌⊎◌, List, [], ◌∷◌, ◌++◌, Option, Some, None}
use Rattle.std.specs.FinMap as map
use Rattle.modver.specs.SemanticVersion.{SemanticVersion}
use Rattle.world.specs.declared.entry.Entry.{Entry}
use Rattle.world.specs.declared.entry.Holder.{Holder}
use Rattle.world.specs.declared.registry.StoreFault.{StoreFault}
use Rattle.world.specs.declared.registry.StoreFault.TheVariants.{Memory}
use Rattle.world.specs.Latest.{latest_of}
use Rattle.world.specs.Store.{Shown}
use Rattle.world.specs.World.{World}
use Rattle.machine.specs.declared.request.Request.{Request}
use Rattle.machine.specs.declared.request.Request.TheVariants.{Unreadable, Get, Put}
use Rattle.machine.specs.declared.request.Publish.{Publish}
use Rattle.machine.specs.declared.request.Query.{Query}
use Rattle.machine.specs.declared.request.Query.TheVariants as query
use Rattle.machine.specs.declared.reply.Decision.{Decision}
use Rattle.machine.specs.declared.reply.Decision.TheVariants.{Published}
use Rattle.machine.specs.Calls.{Question, History, noted, of_key, entry_of, heading_of, comparison}
use Rattle.machine.specs.Calls.{versions_at, latest_at, paths_on, count_of, insertion}
use Rattle.machine.specs.Machine.{decision, first_failing, offered, own_refusal, request_checks}

-- an answer of the store, or memory of the request's own: for a copy of its version, or to read its go.mod
pub data Need : Type 0 where
  Told : Question → Need
  Room : Need

-- ---- a GET

-- the heading of the latest version, if there is one
abbrev pub latest_needs : List ℕ → List ℕ → Option SemanticVersion → List Need
latest_needs s p None = []
latest_needs s p (Some v) = Told (heading_of s p v) ∷ []

-- what a query by a key of this shelf needs
abbrev pub query_needs : World → List ℕ → Query → List Need
query_needs w s (query.GoMod p v) = Told (heading_of s p v) ∷ []
query_needs w s (query.Zip p v) = Told (entry_of s p v) ∷ []
query_needs w s (query.Info p v) = Room ∷ Told (heading_of s p v) ∷ []
query_needs w s (query.List p) = Told (versions_at s p) ∷ []
query_needs w s (query.Latest p) = Told (latest_at s p) ∷ latest_needs s p (latest_of w s p)
query_needs w s query.Modules = Told (paths_on s) ∷ []

-- what a query needs once its key is known to be of this holder
abbrev pub keyed_needs : World → Option Holder → Query → List Need
keyed_needs w None q = []
keyed_needs w (Some h) q = query_needs w h.shelf q

-- ---- a PUT

-- this, if there is an entry
abbrev pub for_entry : Option Entry → Need → List Need
for_entry None n = []
for_entry (Some e) n = n ∷ []

-- what the checks of a publish against what stands on a shelf need
abbrev pub shelf_needs : List ℕ → Publish → List Need
shelf_needs s p = for_entry (offered p) (Told (comparison s p.path p.version)) ++ Told (count_of s p.path) ∷ []

-- the checks against what stands, if nothing is refused before
abbrev pub unless_refused : Option Decision → List Need → List Need
unless_refused None ns = ns
unless_refused (Some d) ns = []

-- what the checks of a publish by a holder need: none looks at the store before the publish and its go.mod pass by
-- themselves
abbrev pub check_needs : Holder → Publish → List Need
check_needs h p =
    unless_refused (first_failing (request_checks p (Some h.right)))
    (Room ∷ unless_refused (own_refusal p h.right) (shelf_needs h.shelf p))

-- what it takes to store a publish
abbrev pub store_needs : Holder → Publish → Decision → List Need
store_needs h p Published = for_entry (offered p) (Told (insertion h.shelf p.path p.version))
store_needs h p d = []

-- what a publish needs once its key is known to be of this holder
abbrev pub publish_needs : World → Option Holder → Publish → List Need
publish_needs w None p = []
publish_needs w (Some h) p = check_needs h p ++ store_needs h p (decision w (Some h) p)

-- ---- a request

-- What a request needs in this world, in order: first the answer to its key, then only answers of the shelf that holds
-- the key.
abbrev pub needs : World → Request → List Need
needs w Unreadable = []
needs w (Get k q) = Told (of_key k) ∷ keyed_needs w (map.get w.keys k) q
needs w (Put k p) = Told (of_key k) ∷ publish_needs w (map.get w.keys k) p

-- From the old history to the new one these needs were met in order, up to one that was refused, if one was. A fault is
-- that of the need which was refused, and nothing was asked after it.
abbrev pub Meets : History → History → List Need → Option StoreFault → Type 0
Meets old new [] met = (new ≡ old) × (met ≡ None)
Meets old new (Room ∷ ns) met = Meets old new ns met ⊎ ((new ≡ old) × (met ≡ Some Memory))
Meets old new (Told q ∷ ns) met =
    Meets (noted old q None) new ns met ⊎ ((fault : StoreFault) × (new ≡ noted old q (Some fault)) × (met ≡ Some fault))

-- If the disks are honest, then these needs were met in each world that the store stood for.
abbrev pub MeetsIn : Shown → Shown → History → History → (World → List Need) → Option StoreFault → Type 0
MeetsIn shown shown_new old new ns met =
    shown_new.is_honest → (w : World) → shown.stands w → Meets old new (ns w) met
