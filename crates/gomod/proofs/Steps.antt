-- Chains of steps that may fail, and tests, taken apart.
use Rattle.std.proofs.Common.{◌≡◌, Bool, true, false, cond, refl, Result, Ok, Err, ◌⊎◌, inl, inr, ap}
use Rattle.gomod.specs.declared.fault.GoModFault.{GoModFault}
use Rattle.gomod.specs.Reading.{◌>>=◌}

-- both steps of a chain that does not fail
pub bound : {A B : Type 0} (r : Result A GoModFault) (f : A → Result B GoModFault) (y : B) → r >>= f ≡ Ok y
    → (x : A) × (r ≡ Ok x) × (f x ≡ Ok y)
bound (Ok x) f y h = (x, refl, h)
bound (Err e) f y h = cc

-- a chain fails at its first step, or behind it
pub fails : {A B : Type 0} (r : Result A GoModFault) (g : A → Result B GoModFault) (f : GoModFault) → r >>= g ≡ Err f
    → (r ≡ Err f) ⊎ ((x : A) × (r ≡ Ok x) × (g x ≡ Err f))
fails (Ok x) g f h = inr (x, refl, h)
fails (Err e) g f h = inl (let same : e ≡ f = cc in ap (λ k. Err k) same)

pub ok_same : {A : Type 0} (x y : A) → ◌≡◌ {A = Result A GoModFault} (Ok x) (Ok y) → x ≡ y
ok_same x y h = cc

pub err_same : {A : Type 0} (d e : GoModFault) → ◌≡◌ {A = Result A GoModFault} (Err d) (Err e) → d ≡ e
err_same d e h = cc

pub ok_err : {A P : Type 0} (r : Result A GoModFault) (x : A) (e : GoModFault) → r ≡ Ok x → r ≡ Err e → P
ok_err r x e h k = cc

-- a result is one or the other
pub ok_or_err : {A : Type 0} (r : Result A GoModFault) → ((x : A) × (r ≡ Ok x)) ⊎ ((e : GoModFault) × (r ≡ Err e))
ok_or_err (Ok x) = inl (x, refl)
ok_or_err (Err e) = inr (e, refl)

-- a step behind a test, where the other way fails
pub guarded : {A : Type 0} (b : Bool) (r : Result A GoModFault) (e : GoModFault) (y : A) → cond b r (Err e) ≡ Ok y
    → (b ≡ true) × (r ≡ Ok y)
guarded true r e y h = (refl, h)
guarded false r e y h = cc
