-- What tests that hold say of their halves, and numbers of their comparison.
use Rattle.std.proofs.Common.{◌≡◌, ◌&&◌, ◌==◌, ◌<◌, ◌≤◌, ℕ, Bool, true, false, not, refl, inl, inr, arith}
use Rattle.std.proofs.lemmas.Bool.{cases_lt, eq-eqb, le-ltb, lt-ltb}
use Rattle.std.proofs.lemmas.Bool.Decides.{nat_tests}
use Rattle.std.specs.Ordering.{nat_cmp, ordering_then}
use Rattle.std.specs.Prelude.{nat_le}
use Rattle.std.specs.declared.cmp.Ordering.{Ordering}
use Rattle.std.specs.declared.cmp.Ordering.TheVariants.{Equal, Greater, Less}

-- ---- two tests

pub and-first : (x y : Bool) → (x && y) ≡ true → x ≡ true
and-first true y h = refl
and-first false y h = cc h

pub and-second : (x y : Bool) → (x && y) ≡ true → y ≡ true
and-second true y h = h
and-second false y h = cc h

pub and-both : (x y : Bool) → (x && y) ≡ true → (x ≡ true) × (y ≡ true)
and-both true y h = (refl, h)
and-both false y h = cc h

pub not-both : (x y : Bool) → not (x && y) ≡ true → x ≡ true → y ≡ false
not-both true true h e = cc h
not-both true false h e = refl
not-both false y h e = cc e

-- ---- two numbers

pub nat_le-true : (m n : ℕ) → nat_le m n ≡ true → m ≤ n
nat_le-true m n h = grind (arith, nat_tests)

pub nat_le-false : (m n : ℕ) → nat_le m n ≡ false → n < m
nat_le-false m n h = grind (arith, nat_tests)

pub le-nat_le : (m n : ℕ) → m ≤ n → nat_le m n ≡ true
le-nat_le m n h = grind (arith, nat_tests)

pub nat_cmp-lt : (m n : ℕ) → m < n → nat_cmp m n ≡ Less
nat_cmp-lt m n h = rw (lt-ltb m n h) refl

pub nat_cmp-eq : (m n : ℕ) → m ≡ n → nat_cmp m n ≡ Equal
nat_cmp-eq m n h = let le : n ≤ m = omega arith in rw (le-ltb m n le, eq-eqb m n h) refl

pub nat_cmp-gt : (m n : ℕ) → n < m → nat_cmp m n ≡ Greater
nat_cmp-gt m n h =
    let le : n ≤ m = omega arith in
    let ne : (m == n) ≡ false = grind (arith, nat_tests) in
    rw (le-ltb m n le, ne) refl

pub less-nat : (m n : ℕ) → nat_cmp m n ≡ Less → m < n
less-nat m n h = elim (cases_lt m n) [
  | inl lt ↦ lt
  | inr le ↦ elim (cases_lt n m) [
    | inl gt ↦ cc (h, nat_cmp-gt m n gt)
    | inr ge ↦ cc (h, nat_cmp-eq m n (omega arith))
  ]
]

pub greater-nat : (m n : ℕ) → nat_cmp m n ≡ Greater → n < m
greater-nat m n h = elim (cases_lt m n) [
  | inl lt ↦ cc (h, nat_cmp-lt m n lt)
  | inr le ↦ elim (cases_lt n m) [
    | inl gt ↦ gt
    | inr ge ↦ cc (h, nat_cmp-eq m n (omega arith))
  ]
]

-- ---- two comparisons, one after the other

pub then_first : (r s : Ordering) → ordering_then r s ≡ Equal → r ≡ Equal
then_first Less s e = cc e
then_first Equal s e = refl
then_first Greater s e = cc e

pub then_second : (r s : Ordering) → ordering_then r s ≡ Equal → s ≡ Equal
then_second Less s e = cc e
then_second Equal s e = e
then_second Greater s e = cc e

pub then-equal : (r : Ordering) → ordering_then r Equal ≡ r
then-equal Less = refl
then-equal Equal = refl
then-equal Greater = refl

-- the cases of a comparison
pub cases : {G : Type 0} (r : Ordering) → (r ≡ Less → G) → (r ≡ Equal → G) → (r ≡ Greater → G) → G
cases Less a b c = a refl
cases Equal a b c = b refl
cases Greater a b c = c refl
