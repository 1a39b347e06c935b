-- A key that is made, added and printed.
use Rattle.std.proofs.Common.{◌≡◌, ◌∙◌, ap, arith, inl, inr, refl, subst, sym, ℕ, List, Option, Some, Result, Ok, Err}
use Rattle.std.specs.Borrow.{Bor}
use Rattle.histories.specs.Calls.{Writes}
use Rattle.world.specs.Store.{Shown}
use Rattle.world.specs.declared.entry.Right.{Right}
use Rattle.world.specs.declared.registry.RegistryReply.{RegistryReply}
use Rattle.world.specs.declared.registry.RegistryReply.TheVariants as registered
use Rattle.world.specs.declared.registry.StoreFault.{StoreFault}
use Rattle.world.specs.declared.registry.StoreFault.TheVariants as fault
use Rattle.orders.specs.declared.command.RegistryCommand.{RegistryCommand}
use Rattle.orders.specs.declared.command.RegistryCommand.TheVariants.{KeyAdd}
use Rattle.network.specs.History.{Done}
use Rattle.commands.specs.Connection.{Passed}
use Rattle.commands.specs.Ending.{Registers, ending}
use Rattle.commands.specs.NewKey.{AddsDrawn, AddsKey, DrawsKey, EndsWithIo, FailsOr, HasCause, HasNoKeyOr}
use Rattle.commands.specs.NewKey.{HasNoKeyOrOrder, HasNoNewKey, OrdersDrawn, OrdersNew}
use Rattle.commands.specs.RandomBytes.{Drawn, no_draws}
use Rattle.commands.specs.declared.refusal.CommandRefusal.{CommandRefusal}
use Rattle.commands.specs.declared.refusal.CommandRefusal.TheVariants.{Io, Memory}

-- ---- a key that was drawn

module _ {R : Type 0} (registers : R → R → RegistryCommand → Result (Unit {0}) CommandRefusal → Type 0)
    (shelf : Bor (List ℕ)) (right : Right) (drawn drawn_new : Drawn) where
  pub drawn_by : (drew : List ℕ) (key : Bor (List ℕ)) (old new : R) (written written_new : Option (List ℕ))
      (result : Result (Unit {0}) CommandRefusal) → DrawsKey drawn drawn_new (Ok drew) → key.now ≡ drew
      → AddsKey registers shelf right key old new written written_new result
      → AddsDrawn registers shelf right drawn drawn_new old new written written_new result
  drawn_by drew key old new written written_new result (bytes, gives, makes) is adds =
      inl (bytes, gives, inl (key, makes ∙ ap Some (sym is), adds))

  pub none_drawn : (refusal : CommandRefusal) (old : R) (written : Option (List ℕ))
      → DrawsKey drawn drawn_new (Err refusal)
      → AddsDrawn registers shelf right drawn drawn_new old old written written (Err refusal)
  none_drawn refusal old written (inl (bytes, gives, none)) =
      inl (bytes, gives, inr (refusal, none, refl, refl, refl))
  none_drawn refusal old written (inr (none, is)) = inr (none, ap Err is, refl, refl)

-- ---- why a command ends with `Io`

pub never_io : (told : Result RegistryReply StoreFault) → Err Io ≡ ending told → ⊥
never_io (Ok registered.Done) is = cc
never_io (Ok registered.Name) is = cc
never_io (Ok registered.Taken) is = cc
never_io (Ok registered.NoTeam) is = cc
never_io (Ok registered.NoKey) is = cc
never_io (Ok registered.NoGroup) is = cc
never_io (Err fault.Device) is = cc
never_io (Err fault.Memory) is = cc

-- no registry command of a store does
pub never_registers : (old new : Shown) (order : RegistryCommand) (refusal : CommandRefusal)
    → Registers old new order (Err refusal) → refusal ≡ Io → ⊥
never_registers old new order refusal ends is = never_io ends.told (sym (ap Err is) ∙ ends.ends)

-- a key that was drawn leaves the causes of what is done with it
pub drawn_cause : (other cause : Type 0) (drawn drawn_new : Drawn) (writes writes_new : Writes) (drew : List ℕ)
    (result : Result (Unit {0}) CommandRefusal) → DrawsKey drawn drawn_new (Ok drew)
    → (cause → FailsOr other writes writes_new) → HasCause result cause
    → HasCause result (HasNoKeyOr other drawn drawn_new writes writes_new)
drawn_cause other cause drawn drawn_new writes writes_new drew (Ok u) draws into has = tt
drawn_cause other cause drawn drawn_new writes writes_new drew (Err e) (bytes, gives, makes) into has =
    λ is. inr (bytes, gives, inr (into (has is)))

never_both : Memory ≡ Io → ⊥
never_both is = cc

no_memory : (refusal : CommandRefusal) → refusal ≡ Memory → refusal ≡ Io → ⊥
no_memory refusal one other = never_both (sym one ∙ other)

-- why there is none
pub none_cause : (other : Type 0) (drawn drawn_new : Drawn) (writes : Writes) (refusal : CommandRefusal)
    → DrawsKey drawn drawn_new (Err refusal) → HasCause (Err refusal) (HasNoKeyOr other drawn drawn_new writes writes)
none_cause other drawn drawn_new writes refusal (inl (bytes, gives, inl memory)) is =
    absurd (no_memory refusal memory is)
none_cause other drawn drawn_new writes refusal (inl (bytes, gives, inr none)) is = inr (bytes, gives, inl none.1)
none_cause other drawn drawn_new writes refusal (inr (none, ends)) is =
    inl (omega (arith, none.1))

-- the order that ended with `Io` is the cause
pub ends_io : {R : Type 0} (registers : R → R → RegistryCommand → Result (Unit {0}) CommandRefusal → Type 0)
    (shelf key : Bor (List ℕ)) (right : Right) (old new : R) (refusal : CommandRefusal)
    → registers old new (KeyAdd shelf key right) (Err refusal) → refusal ≡ Io → EndsWithIo registers shelf right old new
ends_io registers shelf key right old new refusal ended is =
    (key, subst (λ e. registers old new (KeyAdd shelf key right) (Err e)) is ended)

-- so it is of the first key that is drawn
pub orders_new : {L : Type 0} (all : L → Passed → Type 0) (path : List ℕ) (before after : List (Done L))
    (drawn drawn_new : Drawn) (shelf : Bor (List ℕ)) (right : Right) (written written_new : Option (List ℕ))
    (result : Result (Unit {0}) CommandRefusal) → drawn ≡ no_draws
    → OrdersDrawn all path before after drawn drawn_new shelf right written written_new result
    → OrdersNew all path before after shelf right written written_new result
orders_new all path before after drawn drawn_new shelf right written written_new result is orders = (
  drawn_new,
  subst (λ d. OrdersDrawn all path before after d drawn_new shelf right written written_new result) is orders,
)

-- so are the causes
pub orders_new_cause : {L : Type 0} (all : L → Passed → Type 0) (path : List ℕ) (shelf : Bor (List ℕ)) (right : Right)
    (before after : List (Done L)) (drawn drawn_new : Drawn) (writes writes_new : Writes)
    (result : Result (Unit {0}) CommandRefusal) → drawn ≡ no_draws
    → HasCause result (HasNoKeyOrOrder all path shelf right before after drawn drawn_new writes writes_new)
    → HasCause result (HasNoNewKey all path shelf right before after writes writes_new)
orders_new_cause all path shelf right before after drawn drawn_new writes writes_new (Ok u) is has = tt
orders_new_cause all path shelf right before after drawn drawn_new writes writes_new (Err e) is has = λ io. (
  drawn_new,
  subst (λ d. HasNoKeyOrOrder all path shelf right before after d drawn_new writes writes_new) is (has io),
)
