-- Which keys tie, and what is found where none does.
use Rattle.std.proofs.Common.{◌≡◌, Bool, true, false, cond, refl, Some, None, Option}
use Rattle.std.specs.Option.{option_or}
use Rattle.std.specs.Ordering.{is_eq, is_lt}
use Rattle.std.specs.declared.cmp.Ordering.{Ordering}
use Rattle.std.specs.declared.cmp.Ordering.TheVariants.{Less, Equal, Greater}
use lib.Dec.{T}

pub or_none : {X : Type 0} (o : Option X) → option_or o None ≡ o
or_none None = refl
or_none (Some x) = refl

pub neither : {X : Type 0} (b : Bool) → ◌≡◌ {A = Option X} (cond b None None) None
neither true = refl
neither false = refl

pub is_apart : (r : Ordering) → T (is_lt r) → is_eq r ≡ false
is_apart Less h = refl
is_apart Equal h = absurd h
is_apart Greater h = refl

pub is_tied : (r : Ordering) → is_eq r ≡ true → r ≡ Equal
is_tied Less e = cc
is_tied Equal e = refl
is_tied Greater e = cc
