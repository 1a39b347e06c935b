-- The cause of a fault, over the calls of a store.
use Rattle.std.proofs.Common.{◌≡◌, ◌≤◌, ◌∙◌, ℕ, Result, Ok, Err, inl, inr, arith, ap, sym}
use Rattle.std.specs.Prelude.{IsErrAnd}
use Rattle.world.specs.declared.registry.StoreFault.{StoreFault}
use Rattle.world.specs.declared.registry.StoreFault.TheVariants.{Device, Memory}
use Rattle.world.specs.Store.{Shown, HasCause, GrewOrFull}

-- if the count of failures grew or is full at one of two moments, it grew or is full after both
pub grown_more : (before mid now : ℕ) → GrewOrFull before mid → mid ≤ now → GrewOrFull before now
grown_more before mid now (inl grew) more = inl (omega arith)
grown_more before mid now (inr full) more = inr (omega arith)

pub grown_before : (before mid now : ℕ) → before ≤ mid → GrewOrFull mid now → GrewOrFull before now
grown_before before mid now less (inl grew) = inl (omega arith)
grown_before before mid now less (inr full) = inr full

-- an answer is no fault
pub answers : {T : Type 0} (old new : Shown) (x : T) → old.failures ≤ new.failures → HasCause old new (Ok x)
answers old new x no_fewer = record { no_fewer = no_fewer; device = λ never. absurd (let e = never in cc) }

-- nor is want of memory one of a device
pub lacks_memory : {T : Type 0} (old new : Shown) → old.failures ≤ new.failures → HasCause {T = T} old new (Err Memory)
lacks_memory old new no_fewer = record { no_fewer = no_fewer; device = λ never. absurd (let e = never in cc) }

-- a fault that is handed on has the cause that it had
pub handed_on : {T U : Type 0} (old new : Shown) (fault : StoreFault) (result : Result U StoreFault)
    → IsErrAnd result (λ e. e ≡ fault) → HasCause {T = T} old new (Err fault) → HasCause old new result
handed_on old new fault (Ok x) on cause = absurd on
handed_on old new fault (Err e) on cause = record {
  no_fewer = cause.no_fewer;
  device = λ failed. cause.device (ap (λ x. Err x) (sym on ∙ error_is e Device failed));
}
  where
    error_is : {V : Type 0} (a b : StoreFault) → ◌≡◌ {A = Result V StoreFault} (Err a) (Err b) → a ≡ b
    error_is a b same = cc

-- a fault of the second of two calls has its cause in it
pub in_turn : {T U : Type 0} (old mid new : Shown) (x : T) (result : Result U StoreFault) → HasCause old mid (Ok x)
    → HasCause mid new result → HasCause old new result
in_turn old mid new x result first next = record {
  no_fewer = omega (arith, first.no_fewer, next.no_fewer);
  device = λ failed. grown_before _ _ _ first.no_fewer (next.device failed);
}
