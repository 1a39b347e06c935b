-- What contracts say of a call on a connection, by its states before and after.
use Rattle.std.specs.Prelude.{◌≡◌, Result, IfErr}
use Rattle.sqlite.specs.declared.error.Error.{Error}
use Rattle.sqlite.specs.Schema.{Schema}
use Rattle.sqlite.specs.State.{State, HasCleanDisk}
use Rattle.tables.specs.Causes.{HasReason}
use Rattle.tables.specs.Schema.{store_schema}

-- this holds of the states before and after, if no answer of the disk was wrong up to the state after
abbrev pub Honestly : State → State → (State → State → Type 0) → Type 0
Honestly old new P = HasCleanDisk new → P old new

-- this holds of the states before and after, if no answer of the disk was wrong and the connection had the tables of
-- this schema
abbrev pub HonestlyOver : Schema → State → State → (State → State → Type 0) → Type 0
HonestlyOver schema old new P = Honestly old new (λ old new. old.now.schema ≡ schema → P old new)

-- on a connection with the tables of a store, the call fails only for one of the reasons
abbrev pub FailsWithReason : {X : Type 0} → State → State → Result X Error → Type 0
FailsWithReason old new result = HonestlyOver store_schema old new (λ old new. IfErr result (HasReason old new))
