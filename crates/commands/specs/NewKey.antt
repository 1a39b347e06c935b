-- A key that is made, added and printed.
use Rattle.std.specs.Prelude.{ℕ, ◌≡◌, ◌<◌, ◌⊎◌, ◌++◌, List, codes, Option, Some, None, Result, Ok, Err, IfErr}
use Rattle.std.specs.Borrow.{Bor}
use Rattle.std.specs.Io.KnownBytes.{Appends}
use Rattle.histories.specs.Calls.{Writes}
use Rattle.keyring.specs.Made.{key_of}
use Rattle.world.specs.Store.{Shown}
use Rattle.world.specs.declared.entry.Right.{Right}
use Rattle.orders.specs.declared.command.RegistryCommand.{RegistryCommand}
use Rattle.orders.specs.declared.command.RegistryCommand.TheVariants.{KeyAdd, KeyRevoke}
use Rattle.commands.specs.Ending.{Registers}
use Rattle.network.specs.History.{Done}
use Rattle.commands.specs.Connection.{Passed}
use Rattle.commands.specs.Order.{OrdersAt}
use Rattle.commands.specs.Printed.{HasFailed, PrintsFront}
use Rattle.commands.specs.RandomBytes.{Drawn, Gives, GivesNone, no_draws}
use Rattle.commands.specs.declared.refusal.CommandRefusal.{CommandRefusal}
use Rattle.commands.specs.declared.refusal.CommandRefusal.TheVariants.{Memory, Io}

-- why these bytes make no key: memory ran out, or they make none
abbrev pub MakesNone : List ℕ → CommandRefusal → Type 0
MakesNone bytes refusal = (refusal ≡ Memory) ⊎ ((refusal ≡ Io) × (key_of bytes ≡ None))

-- the key that they make, or why there is none
abbrev pub MakesKey : List ℕ → Result (List ℕ) CommandRefusal → Type 0
MakesKey bytes (Ok key) = key_of bytes ≡ Some key
MakesKey bytes (Err refusal) = MakesNone bytes refusal

-- so it is of bytes that were drawn, or none could be drawn
abbrev pub DrawsKey : Drawn → Drawn → Result (List ℕ) CommandRefusal → Type 0
DrawsKey drawn drawn_new (Ok key) = (bytes : List ℕ) × Gives drawn drawn_new bytes × (key_of bytes ≡ Some key)
DrawsKey drawn drawn_new (Err refusal) =
    ((bytes : List ℕ) × Gives drawn drawn_new bytes × MakesNone bytes refusal)
    ⊎ (GivesNone drawn drawn_new × (refusal ≡ Io))

-- the line of a key
abbrev pub key_line : List ℕ → List ℕ
key_line key = key ++ codes "\n"

-- how a command ends whose key could not be printed: with `Io` if the key was revoked, and otherwise as that ended
abbrev pub unprinted : Result (Unit {0}) CommandRefusal → CommandRefusal
unprinted (Ok u) = Io
unprinted (Err refusal) = refusal

-- `registers` says what happens when a registry command is carried out, by a store or by a `serve` that is asked.
module _ {R : Type 0} (registers : R → R → RegistryCommand → Result (Unit {0}) CommandRefusal → Type 0)
    (shelf : Bor (List ℕ)) (right : Right) where
  -- From mid to new, after the key was added: it was printed whole. Or the output failed, so that a beginning of its
  -- line was printed, or all of it, and then the key was revoked, or was to be.
  abbrev pub Prints : Bor (List ℕ) → R → R → Option (List ℕ) → Option (List ℕ) → Result (Unit {0}) CommandRefusal
      → Type 0
  Prints key mid new written written_new result =
      ((result ≡ Ok tt) × (new ≡ mid) × Appends written written_new (key_line key.now))
      ⊎ (PrintsFront written written_new (key_line key.now)
      × ((revoked : Result (Unit {0}) CommandRefusal) × registers mid new (KeyRevoke key) revoked
      × (result ≡ Err (unprinted revoked))))

  -- what is done with a key by how its addition ended: if that failed, nothing more is done, and nothing printed
  abbrev pub Shows : Result (Unit {0}) CommandRefusal → Bor (List ℕ) → R → R → Option (List ℕ) → Option (List ℕ)
      → Result (Unit {0}) CommandRefusal → Type 0
  Shows (Ok u) key mid new written written_new result = Prints key mid new written written_new result
  Shows (Err refusal) key mid new written written_new result =
      (result ≡ Err refusal) × (new ≡ mid) × (written_new ≡ written)

  -- From old to new the key was to be added to the shelf, and then to be printed.
  pub record AddsKey (key : Bor (List ℕ)) (old new : R) (written written_new : Option (List ℕ))
      (result : Result (Unit {0}) CommandRefusal) : Type 0 where
    pub mid : R
    pub added : Result (Unit {0}) CommandRefusal
    pub adds : registers old mid (KeyAdd shelf key right) added
    pub shows : Shows added key mid new written written_new result

  -- so it is of the key that the bytes make; or none was made, and nothing was done
  abbrev pub AddsMade : List ℕ → R → R → Option (List ℕ) → Option (List ℕ) → Result (Unit {0}) CommandRefusal → Type 0
  AddsMade bytes old new written written_new result =
      ((key : Bor (List ℕ)) × (key_of bytes ≡ Some key.now) × AddsKey key old new written written_new result)
      ⊎ ((refusal : CommandRefusal) × MakesNone bytes refusal × (result ≡ Err refusal) × (new ≡ old)
      × (written_new ≡ written))

  -- so it is with bytes that were drawn; or none could be drawn, and nothing was done
  abbrev pub AddsDrawn : Drawn → Drawn → R → R → Option (List ℕ) → Option (List ℕ) → Result (Unit {0}) CommandRefusal
      → Type 0
  AddsDrawn drawn drawn_new old new written written_new result =
      ((bytes : List ℕ) × Gives drawn drawn_new bytes × AddsMade bytes old new written written_new result)
      ⊎ (GivesNone drawn drawn_new × (result ≡ Err Io) × (new ≡ old) × (written_new ≡ written))

-- so it is of a store
abbrev pub AddsNew : {S : Type 0} → (S → Shown) → Drawn → Drawn → S → S → Bor (List ℕ) → Right
    → Option (List ℕ) → Option (List ℕ) → Result (Unit {0}) CommandRefusal → Type 0
AddsNew shown drawn drawn_new old new shelf right written written_new result =
    AddsDrawn (λ old new order ended. Registers (shown old) (shown new) order ended) shelf right drawn drawn_new
    old new written written_new result

-- so it is of a `serve` that is asked: each order was sent to the server of this path, and to no other
module _ {L : Type 0} (all : L → Passed → Type 0) (path : List ℕ) where
  abbrev pub OrdersDrawn : List (Done L) → List (Done L) → Drawn → Drawn → Bor (List ℕ) → Right
      → Option (List ℕ) → Option (List ℕ) → Result (Unit {0}) CommandRefusal → Type 0
  OrdersDrawn before after drawn drawn_new shelf right written written_new result =
      AddsDrawn (OrdersAt all path) shelf right drawn drawn_new before after written written_new result

  -- so it is where nothing was drawn before
  abbrev pub OrdersNew : List (Done L) → List (Done L) → Bor (List ℕ) → Right → Option (List ℕ) → Option (List ℕ)
      → Result (Unit {0}) CommandRefusal → Type 0
  OrdersNew before after shelf right written written_new result =
      (drawn : Drawn) × OrdersDrawn before after no_draws drawn shelf right written written_new result

-- ---- why a command ends with `Io`

-- From old to new nothing was done but to have a key added to the shelf, and that ended with it.
abbrev pub EndsWithIo : {R : Type 0} → (R → R → RegistryCommand → Result (Unit {0}) CommandRefusal → Type 0)
    → Bor (List ℕ) → Right → R → R → Type 0
EndsWithIo registers shelf right old new = (key : Bor (List ℕ)) × registers old new (KeyAdd shelf key right) (Err Io)

-- the output failed, or this is so
abbrev pub FailsOr : Type 0 → Writes → Writes → Type 0
FailsOr other writes writes_new = HasFailed writes writes_new ⊎ other

-- the bytes make no key, or so it is
abbrev pub IsUnmadeOr : Type 0 → List ℕ → Writes → Writes → Type 0
IsUnmadeOr other bytes writes writes_new = (key_of bytes ≡ None) ⊎ FailsOr other writes writes_new

-- so it is of the bytes that were drawn, or none could be drawn
abbrev pub HasNoKeyOr : Type 0 → Drawn → Drawn → Writes → Writes → Type 0
HasNoKeyOr other drawn drawn_new writes writes_new =
    (drawn.failed < drawn_new.failed)
    ⊎ ((bytes : List ℕ) × Gives drawn drawn_new bytes × IsUnmadeOr other bytes writes writes_new)

-- no registry command of a store ends with `Io`
abbrev pub HasNoKey : Drawn → Drawn → Writes → Writes → Type 0
HasNoKey drawn drawn_new writes writes_new = HasNoKeyOr ⊥ drawn drawn_new writes writes_new

-- the order to add a key may
abbrev pub HasNoKeyOrOrder : {L : Type 0} → (L → Passed → Type 0) → List ℕ → Bor (List ℕ) → Right → List (Done L)
    → List (Done L) → Drawn → Drawn → Writes → Writes → Type 0
HasNoKeyOrOrder all path shelf right before after =
    HasNoKeyOr (EndsWithIo (OrdersAt all path) shelf right before after)

-- so it is where nothing was drawn before
abbrev pub HasNoNewKey : {L : Type 0} → (L → Passed → Type 0) → List ℕ → Bor (List ℕ) → Right → List (Done L)
    → List (Done L) → Writes → Writes → Type 0
HasNoNewKey all path shelf right before after writes writes_new =
    (drawn : Drawn) × HasNoKeyOrOrder all path shelf right before after no_draws drawn writes writes_new

-- a command that ended with `Io` did so because of this
abbrev pub HasCause : Result (Unit {0}) CommandRefusal → Type 0 → Type 0
HasCause result cause = IfErr result (λ e. e ≡ Io → cause)
