-- Why a store is not opened.
use Rattle.store_files.specs.declared.refusal.StoreRefusal.{StoreRefusal}
use Rattle.store_files.specs.declared.refusal.StoreRefusal.TheVariants.{Device, Memory, BadSchema}

-- the refusals of a call that opens a store
abbrev pub IsOfOpening : StoreRefusal → Type 0
IsOfOpening Device = Unit {0}
IsOfOpening Memory = Unit {0}
IsOfOpening BadSchema = Unit {0}
IsOfOpening other = ⊥
