-- What orders do to the reserve, one after another.
use Rattle.std.proofs.Common.{◌≡◌, ◌∙◌, ◌+◌, ℕ, List, [], ◌∷◌, ◌++◌, All, Option, Some, None, Result, Ok, Err}
use Rattle.std.proofs.Common.{ap, refl, subst, sym}
use Rattle.std.proofs.Common.{append_assoc, append-nil, arith, false, inl, inr, true}
use Rattle.std.proofs.lemmas.List.{length-append}
use Rattle.std.proofs.lemmas.List.Elements.{All-append, All-cons, All-nil}
use Rattle.std.specs.Prelude.{Bool, IsErrOf, length}
use Rattle.histories.specs.Account.{Account}
use Rattle.histories.specs.Calls.{Reads, Writes}
use Rattle.world.specs.Store.{Shown}
use Rattle.world.specs.declared.registry.RegistryReply.{RegistryReply}
use Rattle.world.specs.declared.registry.StoreFault.{StoreFault}
use Rattle.world.specs.declared.registry.StoreFault.TheVariants.{Device}
use Rattle.control.specs.Copying.{Making, IsBusy, OfKey, ToPath}
use Rattle.control.specs.Hearing.{Heard, Carried, Made, Listed, Pinged, Named, Stop, NoOrder, NoMemory, UsesRoomIf}
use Rattle.control.specs.Noted.{LooksUnlessWhole}
use Rattle.control.specs.Naming.{NamesOne, NamesNone, ReadError}
use Rattle.control.specs.Reserve.{BeganCopy, DiskDeed, DoesMore, FindsNone, GaveUp, GivesUp, IsUse, Lent}
use Rattle.control.specs.Reserve.{Renewed, UsesRoom, begun_for, once_begun}
use Rattle.control.specs.Uses.{IsUseIf}
use Rattle.control.specs.Visits.{Audience, Call, ObeysOne, OfOperator, OfPeer, Untaken}
use Rattle.control.specs.declared.health.Health.{Health}
use Rattle.control.specs.declared.copies.CatalogRefusal.TheVariants as unprinted
use Rattle.control.specs.declared.copies.CopyRefusal.TheVariants as refusal
use Rattle.control.specs.declared.reserve.Room.{Room}
use Rattle.control.proofs.OrderedLemmas.{Ordered, Other, ToMake, ordered_if}

-- ---- one order

-- a list is not one that goes on behind it
no_longer : (deeds more : List DiskDeed) (deed : DiskDeed) → deeds ≡ deeds ++ deed ∷ more → ⊥
no_longer deeds more deed is = omega (arith, ap length is, length-append deeds (deed ∷ more))

device_of : (result : Result RegistryReply StoreFault) → result ≡ Err Device → IsErrOf result Device
device_of result is = subst (λ r. IsErrOf r Device) (sym is) refl

-- where nothing was done, the order did not end with a fault of the disk
met_none : (old new : Shown) (deeds : List DiskDeed) (result : Result RegistryReply StoreFault)
    → UsesRoom old new deeds deeds result → result ≡ Err Device → ⊥
met_none old new deeds result uses is = elim (uses.device (device_of result is)) [
  | inl none ↦ no_longer deeds [] (GaveUp false) none
  | inr given ↦ no_longer deeds [] (GaveUp true) given.0
]

use_of_room : (old new : Shown) (deeds deeds_new : List DiskDeed) (result : Result RegistryReply StoreFault)
    → UsesRoom old new deeds deeds_new result
    → (own : List DiskDeed) × (deeds_new ≡ deeds ++ own) × IsUse result own
use_of_room old new deeds deeds_new result uses = elim uses.once [
  | inl same ↦ (
    [],
    same ∙ sym (append-nil deeds),
    inl (refl, met_none old new deeds result (subst (λ d. UsesRoom old new deeds d result) same uses)),
  )
  | inr (inl none) ↦ (GaveUp false ∷ [], none, inr (inl (refl, uses.none none)))
  | inr (inr given) ↦ (GaveUp true ∷ [], given, inr (inr refl))
]

unused : (deeds deeds_new : List DiskDeed) → deeds_new ≡ deeds
    → (own : List DiskDeed) × (deeds_new ≡ deeds ++ own) × (own ≡ [])
unused deeds deeds_new same = ([], same ∙ sym (append-nil deeds), refl)

use_of : (old new : Shown) (deeds deeds_new : List DiskDeed) (heard : Option Heard)
    → UsesRoomIf old new deeds deeds_new heard
    → (own : List DiskDeed) × (deeds_new ≡ deeds ++ own) × IsUseIf heard own
use_of old new deeds deeds_new None uses = unused deeds deeds_new uses
use_of old new deeds deeds_new (Some (Carried command told)) uses = use_of_room old new deeds deeds_new told uses
use_of old new deeds deeds_new (Some (Made making)) uses = (begun_for making, uses, refl)
use_of old new deeds deeds_new (Some (Pinged told)) uses = unused deeds deeds_new uses
use_of old new deeds deeds_new (Some (Listed listing told)) uses = unused deeds deeds_new uses
use_of old new deeds deeds_new (Some (Named f (NamesOne key told))) uses = use_of_room old new deeds deeds_new told uses
use_of old new deeds deeds_new (Some (Named f NamesNone)) uses = unused deeds deeds_new uses
use_of old new deeds deeds_new (Some (Named f (ReadError fault))) uses = unused deeds deeds_new uses
use_of old new deeds deeds_new (Some Stop) uses = unused deeds deeds_new uses
use_of old new deeds deeds_new (Some NoOrder) uses = unused deeds deeds_new uses
use_of old new deeds deeds_new (Some NoMemory) uses = unused deeds deeds_new uses

-- an order did this to the same reserve
pub used_so : (old new : Shown) (a b : Lent) (heard : Option Heard) → b.2 ≡ a.2 → b.1 ≡ a.1
    → UsesRoomIf old new a.0 b.0 heard → DoesMore (IsUseIf heard) a b
used_so old new a b heard same found uses =
    let used = use_of old new a.0 b.0 heard uses in (same, found, used.0, used.1, used.2)

-- so it is under another name of the loan
pub used_behind : (does : List DiskDeed → Type 0) (name : ℕ) (a b : Lent) → DoesMore does a b
    → DoesMore does (a.0, a.1, name) (b.0, b.1, name)
used_behind does name a b used = (refl, used.1, used.2, used.3, used.4)

-- nothing was done to it
used_none : (does : List DiskDeed → Type 0) (a : Lent) → does [] → DoesMore does a a
used_none does a none = (refl, refl, [], sym (append-nil a.0), none)

-- where another one is being made, none is begun
none_begun : (making : Making) → IsBusy making → [] ≡ begun_for making
none_begun (ToPath path told) busy = subst (λ r. [] ≡ begun_for (ToPath path r)) (sym busy) refl
none_begun (OfKey key printed told) busy = refl

-- of a copy that is begun, that is noted
pub began_for : (making : Making) → ¬ IsBusy making → (a : Lent) → DoesMore (λ own. own ≡ begun_for making) a (once_begun making a)
began_for (ToPath path (Ok done)) free a = (refl, refl, BeganCopy path ∷ [], refl, refl)
began_for (ToPath path (Err refusal.NotEmpty)) free a = (refl, refl, BeganCopy path ∷ [], refl, refl)
began_for (ToPath path (Err refusal.Device)) free a = (refl, refl, BeganCopy path ∷ [], refl, refl)
began_for (ToPath path (Err refusal.Memory)) free a = (refl, refl, BeganCopy path ∷ [], refl, refl)
began_for (ToPath path (Err refusal.Busy)) free a = absurd (free refl)
began_for (ToPath path (Err refusal.Ended)) free a = (refl, refl, BeganCopy path ∷ [], refl, refl)
began_for (OfKey key printed told) free a = used_none (λ own. own ≡ []) a refl

-- an order that has something made while another is made does nothing to it
pub used_busy : (a : Lent) (heard : Option Heard) (making : Making) → heard ≡ Some (Made making) → IsBusy making
    → DoesMore (IsUseIf heard) a a
used_busy a heard making is busy =
    used_none (IsUseIf heard) a (subst (λ h. IsUseIf h []) (sym is) (none_begun making busy))

-- so it is of either kind
used_either : (idle : Option Heard → Type 0) (meanwhile : Making → Type 0) (old new : Shown) (heard : Option Heard)
    (a b : Lent)
    → (idle heard → DoesMore (IsUseIf heard) a b)
    → ((making : Making) → meanwhile making → (b ≡ a) × IsBusy making)
    → Ordered idle meanwhile old new heard → DoesMore (IsUseIf heard) a b
used_either idle meanwhile old new heard a b one two (Other rests through short) = one rests
used_either idle meanwhile old new heard a b one two (ToMake making is done) =
    subst (DoesMore (IsUseIf heard) a) (sym (two making done).0) (used_busy a heard making is (two making done).1)

-- so it is of an operator who was obeyed
pub used_one : {O : Type 0} (heeded : O → Account × Reads) (told : O → Option (List ℕ) × Writes)
    (made : Making → Type 0) (pinged : Result Health StoreFault → Type 0)
    (idle : Option Heard → Type 0) (meanwhile : Making → Type 0) (old new : Shown) (operator gone : O) (stops : Bool)
    (a b : Lent) (next : ObeysOne heeded told made pinged idle meanwhile operator gone stops old new)
    → ((heard : Option Heard) → idle heard → DoesMore (IsUseIf heard) a b)
    → ((making : Making) → meanwhile making → (b ≡ a) × IsBusy making) → DoesMore (IsUseIf next.audience.heard) a b
used_one heeded told made pinged idle meanwhile old new operator gone stops a b next one two =
    used_either idle meanwhile old new next.audience.heard a b (one next.audience.heard) two
    (ordered_if idle meanwhile old new next.audience.heard next.through)
