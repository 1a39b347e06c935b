-- What a call over a store does with a publish.
use Rattle.std.specs.Prelude.{ℕ, ◌≡◌, List, Result, Some, true}
use Rattle.machine.specs.Machine.{put_decision, after_put, decision, after_publish, after_decision, stored, place_of}
use Rattle.machine.specs.Machine.{offered}
use Rattle.machine.specs.declared.request.Publish.{Publish}
use Rattle.machine.specs.declared.reply.Decision.{Decision}
use Rattle.machine.specs.declared.reply.Decision.TheVariants.{Published}
use Rattle.std.specs.FinMap as map
use Rattle.world.specs.Store.{Shown, Does, DoesWhere}
use Rattle.world.specs.World.{World}
use Rattle.world.specs.declared.entry.Holder.{Holder}
use Rattle.world.specs.declared.registry.StoreFault.{StoreFault}

-- The call returns the decision on a PUT with this key, and stores what is published.
abbrev pub AnswersPut : Shown → Shown → Result Decision StoreFault → List ℕ → Publish → Type 0
AnswersPut old new result k p = Does old new result (λ w. put_decision w k p) (λ w. after_put w k p)

-- the shelf of the key exists
abbrev pub HasShelf : Holder → World → Type 0
HasShelf h w = map.contains_key w.shelves h.shelf ≡ true

-- If the shelf of the key exists, the call returns the decision on a publish by its holder, and stores what is
-- published.
abbrev pub PublishesTo : Shown → Shown → Result Decision StoreFault → Holder → Publish → Type 0
PublishesTo old new result h p =
    DoesWhere (HasShelf h) old new result (λ w. decision w (Some h) p) (λ w. after_publish w (Some h) p)

-- the shelf of the key exists, and this is the decision on a publish by its holder
abbrev pub IsDecided : Holder → Publish → Decision → World → Type 0
IsDecided h p d w = HasShelf h w × (decision w (Some h) p ≡ d)

-- If this is the decision on a publish, the call carries it out.
abbrev pub CarriesOut : Shown → Shown → Result Unit StoreFault → Holder → Publish → Decision → Type 0
CarriesOut old new result h p d =
    DoesWhere (IsDecided h p d) old new result (λ _. tt) (λ w. after_decision w (Some h) p d)

-- If a publish passes the checks, the call stores it.
abbrev pub StoresFor : Shown → Shown → Result Unit StoreFault → Holder → Publish → Type 0
StoresFor old new result h p =
    DoesWhere (IsDecided h p Published) old new result (λ _. tt) (λ w. stored w (place_of h.shelf p) (offered p))
