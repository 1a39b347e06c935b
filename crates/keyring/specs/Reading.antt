-- Gathering a list from a store.
use Rattle.std.specs.Prelude.{List, ◌++◌, Result, Ok, Err}
use Rattle.world.specs.Store.{Shown, Reads}
use Rattle.world.specs.World.{World}
use Rattle.world.specs.declared.registry.StoreFault.{StoreFault}

-- the items of a list after a call that filled it, or why it was not filled
abbrev pub filled : {T U : Type 0} → Result U StoreFault → T → Result T StoreFault
filled (Ok u) items = Ok items
filled (Err fault) items = Err fault

-- a call added these items of the world behind those that were there, or failed; it changed nothing in the store
abbrev pub Adds : {T : Type 0} → Shown → Shown → List T → List T → Result (Unit {0}) StoreFault → (World → List T)
    → Type 0
Adds old new before after told more = Reads old new (filled told after) (λ w. before ++ more w)
