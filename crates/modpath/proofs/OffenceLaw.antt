-- The fault of a text is its leftmost offence.
use Rattle.std.proofs.Common.{◌≡◌, ◌⊎◌, ◌==◌, ◌<◌, ℕ, zero, suc, List, [], ◌∷◌, drop, Option, Some, None, true, refl}
use Rattle.std.proofs.Common.{sym, ap, ◌∙◌, inl, inr, arith, subst}
use Rattle.std.proofs.lemmas.Bool.{cases_Bool, eqb-true}
use Rattle.std.specs.Char.{is_ascii_lowercase, is_ascii_uppercase}
use Rattle.std.specs.Option.{unwrap_or}
use Rattle.modpath.specs.declared.escaping.EscapeFault.{EscapeFault}
use Rattle.modpath.specs.declared.escaping.EscapeFault.TheVariants as fault
use Rattle.modpath.specs.Escape.{IsLeftmostOffence, Offends, escape_fault, fault_here, or_else, starts_lower}
use Rattle.modpath.specs.EscapeLaws.{EscapeFaultIsLeftmost}

some-same : (f g : EscapeFault) → Some f ≡ Some g → f ≡ g
some-same f g h = ap (λ o. unwrap_or o f) h

starts-lower : (rest : List ℕ) → starts_lower rest ≡ true
    → (b : ℕ) × (after : List ℕ) × (rest ≡ b ∷ after) × (is_ascii_lowercase b ≡ true)
starts-lower [] h = cc h
starts-lower (b ∷ after) h = (b, after, refl, h)

lower-starts : (rest : List ℕ) → (b : ℕ) × (after : List ℕ) × (rest ≡ b ∷ after) × (is_ascii_lowercase b ≡ true)
    → starts_lower rest ≡ true
lower-starts rest u = ap starts_lower u.2 ∙ u.3

-- a fault found at the start of a text is an offence there
here-to : (text : List ℕ) (f : EscapeFault) → fault_here text ≡ Some f → Offends text f
here-to [] f h = cc h
here-to (b ∷ rest) f h = elim (cases_Bool (is_ascii_uppercase b)) [
  | inl upper ↦ subst (Offends (b ∷ rest)) (some-same fault.Upper f (rw upper at h)) (b, rest, refl, upper)
  | inr lower ↦ elim (cases_Bool (b == 33)) [
    | inr other ↦ cc (rw (lower, other) at h)
    | inl bang ↦ elim (cases_Bool (starts_lower rest)) [
      | inl letter ↦ cc (rw (lower, bang, letter) at h)
      | inr none ↦
          subst (Offends (b ∷ rest)) (some-same fault.Bang f (rw (lower, bang, none) at h))
          (rest, ap (λ x. x ∷ rest) (eqb-true b 33 bang), λ u. cc (lower-starts rest u, none))
    ]
  ]
]

-- an offence at the start of a text is the fault found there
here-from : (text : List ℕ) (f : EscapeFault) → Offends text f → fault_here text ≡ Some f
here-from text fault.Upper u = ap fault_here u.2 ∙ rw u.3 refl
here-from text fault.Bang u = ap fault_here u.1 ∙ no-letter u.0 u.2
  where
    no-letter : (rest : List ℕ) → ((b : ℕ) × (after : List ℕ) × (rest ≡ b ∷ after) × (is_ascii_lowercase b ≡ true) → ⊥)
        → fault_here (33 ∷ rest) ≡ Some fault.Bang
    no-letter rest none = elim (cases_Bool (starts_lower rest)) [
      | inl letter ↦ absurd (none (starts-lower rest letter))
      | inr other ↦ rw other refl
    ]
here-from text fault.Memory u = absurd u

fault-here-none : (text : List ℕ) → fault_here text ≡ None → (g : EscapeFault) → Offends text g → ⊥
fault-here-none text h g u = cc (sym h ∙ here-from text g u)

option-cases : (o : Option EscapeFault) → (o ≡ None) ⊎ ((g : EscapeFault) × (o ≡ Some g))
option-cases None = inl refl
option-cases (Some g) = inr (g, refl)

-- the fault of a text is its leftmost offence
leftmost-to : (text : List ℕ) (f : EscapeFault) → escape_fault text ≡ Some f → IsLeftmostOffence text f
leftmost-to [] f h = cc h
leftmost-to (b ∷ rest) f h = elim (option-cases (fault_here (b ∷ rest))) [
  | inr g ↦
      let same : g.0 ≡ f = some-same g.0 f (sym (ap (λ o. or_else o (escape_fault rest)) g.1) ∙ h) in
      record {
        at = 0;
        offence = here-to (b ∷ rest) f (g.1 ∙ ap (λ x. Some x) same);
        none_before = λ k e lt.
            absurd (omega arith);
      }
  | inl none ↦
      let later = leftmost-to rest f (sym (ap (λ o. or_else o (escape_fault rest)) none) ∙ h) in
      record { at = suc later.at; offence = later.offence; none_before = before b rest later.at none later.none_before }
]
  where
    before : (b : ℕ) (rest : List ℕ) (at : ℕ) → fault_here (b ∷ rest) ≡ None
        → ((k : ℕ) (g : EscapeFault) → k < at → Offends (drop k rest) g → ⊥)
        → (k : ℕ) (g : EscapeFault) → k < suc at → Offends (drop k (b ∷ rest)) g → ⊥
    before b rest at none later zero g lt u = fault-here-none (b ∷ rest) none g u
    before b rest at none later (suc k) g lt u = later k g (omega arith) u

no-offence : (f : EscapeFault) → Offends [] f → ⊥
no-offence fault.Upper u = cc u.2
no-offence fault.Bang u = cc u.1
no-offence fault.Memory u = u

-- an offence before which there is no other is the fault of the text
leftmost-from : (text : List ℕ) (f : EscapeFault) (at : ℕ) → Offends (drop at text) f
    → ((k : ℕ) (g : EscapeFault) → k < at → Offends (drop k text) g → ⊥)
    → escape_fault text ≡ Some f
leftmost-from [] f zero u none = absurd (no-offence f u)
leftmost-from [] f (suc at) u none = absurd (no-offence f u)
leftmost-from (b ∷ rest) f zero u none = ap (λ o. or_else o (escape_fault rest)) (here-from (b ∷ rest) f u)
leftmost-from (b ∷ rest) f (suc at) u none = elim (option-cases (fault_here (b ∷ rest))) [
  | inr g ↦ absurd (none 0 g.0 (omega arith) (here-to (b ∷ rest) g.0 g.1))
  | inl none_here ↦
      ap (λ o. or_else o (escape_fault rest)) none_here
      ∙ leftmost-from rest f at u (λ k g lt v. none (suc k) g (omega arith) v)
]

pub fault_is_leftmost : EscapeFaultIsLeftmost
fault_is_leftmost text f = (leftmost-to text f, λ u. leftmost-from text f u.at u.offence u.none_before)
