-- Targets, cut at a byte.
use Rattle.std.proofs.Common.{◌≡◌, ◌==◌, ◌+◌, ◌-◌, ◌<◌, ℕ, suc, List, [], ◌∷◌, ◌++◌, length, take, drop, bytes_eq}
use Rattle.std.proofs.Common.{codes, Option, Some, None, Bool, true}
use Rattle.std.proofs.Common.{false, nat_lt, cond, get_or, refl, sym, ap, ◌∙◌, subst, inl, inr, arith, append_assoc}
use Rattle.std.proofs.Common.{length-append}
use Rattle.std.proofs.lemmas.Bool.{cases_Bool, eq-eqb, eqb-true, lt-ltb, ltb-true, or_parts}
use Rattle.std.proofs.lemmas.Bool.Decides.{Decides-eqb}
use Rattle.std.proofs.lemmas.List.{take_at, drop_at, take-append-drop}
use Rattle.std.proofs.lemmas.List.Folds.{list_any-append}
use Rattle.std.proofs.lemmas.List.Sums.{passes_at_first, split_at_first}
use Rattle.std.specs.Cmp.Lexicographic.{pointwise_decides}
use Rattle.std.specs.List.{after_first, before_first, list_any, position_or_len}
use Rattle.std.specs.Option.{option_and_then, option_map}
use Rattle.wire.specs.ModuleVersion.{around, cut_of, without_end, without_slash, without_start}

-- ---- options

pub then-some : {A B : Type 0} (f : A → Option B) (o : Option A) (y : B) → option_and_then f o ≡ Some y
    → (x : A) × (o ≡ Some x) × (f x ≡ Some y)
then-some f None y h = cc h
then-some f (Some x) y h = (x, refl, h)

pub map-some : {A B : Type 0} (f : A → B) (o : Option A) (y : B) → option_map f o ≡ Some y
    → (x : A) × (o ≡ Some x) × (f x ≡ y)
map-some f None y h = cc h
map-some f (Some x) y h = let same : f x ≡ y = cc h in (x, refl, same)

-- a value under a test
pub if-some : {A : Type 0} (b : Bool) (x y : A) → cond b (Some x) None ≡ Some y → (b ≡ true) × (x ≡ y)
if-some true x y h = let same : x ≡ y = cc h in (refl, same)
if-some false x y h = cc h

-- ---- beginnings and ends

same-bytes : (xs : List ℕ) → bytes_eq xs xs ≡ true
same-bytes xs = (pointwise_decides Decides-eqb xs xs).1 refl

pub start-is : (start text rest : List ℕ) → without_start start text ≡ Some rest → text ≡ start ++ rest
start-is start text rest h =
    let found = if-some (bytes_eq (take (length start) text) start) (drop (length start) text) rest h in
    let same : take (length start) text ≡ start = (pointwise_decides Decides-eqb _ start).0 found.0 in
    sym (take-append-drop (length start) text) ∙ ap (λ (l : List ℕ). l ++ drop (length start) text) same
    ∙ ap (λ (l : List ℕ). start ++ l) found.1

end-length : (front ending : List ℕ) → length (front ++ ending) - length ending ≡ length front
end-length front ending = omega (arith, length-append front ending)

pub end-taken : (ending front : List ℕ) → without_end ending (front ++ ending) ≡ Some front
end-taken ending front =
    rw (
      end-length front ending,
      drop_at front ending (length front) refl,
      same-bytes ending,
      take_at front ending (length front) refl,
    ) refl

pub end-is : (ending text front : List ℕ) → without_end ending text ≡ Some front → text ≡ front ++ ending
end-is ending text front h =
    let n = length text - length ending in
    let found = if-some (bytes_eq (drop n text) ending) (take n text) front h in
    let same : drop n text ≡ ending = (pointwise_decides Decides-eqb _ ending).0 found.0 in
    sym (take-append-drop n text) ∙ ap (λ (l : List ℕ). take n text ++ l) same
    ∙ ap (λ (l : List ℕ). l ++ ending) found.1

-- ---- a text around a byte

none-before : (byte : ℕ) (front rest : List ℕ) → list_any (λ b. b == byte) front ≡ false
    → position_or_len (λ b. b == byte) (front ++ (byte ∷ rest)) ≡ length front
none-before byte [] rest h = rw (eq-eqb byte byte refl) refl
none-before byte (b ∷ front) rest h =
    let both = or_parts (b == byte) (list_any (λ x. x == byte) front) h in
    let ih = none-before byte front rest both.1 in
    rw (both.0, ih) (omega arith)

pub around-taken : (byte : ℕ) (front rest : List ℕ) → list_any (λ b. b == byte) front ≡ false
    → around byte (front ++ (byte ∷ rest)) ≡ Some (front, rest)
unfolding around
around-taken byte front rest h =
    let at = none-before byte front rest h in
    let inside : nat_lt (length front) (length (front ++ (byte ∷ rest))) ≡ true =
    lt-ltb _ _ (omega (arith, length-append front (byte ∷ rest))) in
    let behind : drop (length front + 1) (front ++ (byte ∷ rest)) ≡ rest =
    ap (drop (length front + 1)) (sym (append_assoc front (byte ∷ []) rest))
    ∙ drop_at (front ++ byte ∷ []) rest (length front + 1) (omega (arith, length-append front (byte ∷ []))) in
    rw (at, inside, take_at front (byte ∷ rest) (length front) refl, behind) refl

none-passes : (byte : ℕ) (text : List ℕ) → list_any (λ b. b == byte) (before_first (λ b. b == byte) text) ≡ false
none-passes byte [] = refl
none-passes byte (b ∷ text) = elim (cases_Bool (b == byte)) [
  | inl here ↦ rw here refl
  | inr other ↦ let on : 1 + position_or_len (λ x. x == byte) text ≡ suc (position_or_len (λ x. x == byte) text) =
      omega arith in rw (other, on, other) (none-passes byte text)
]

-- the texts before and after the first `byte` make the text with the byte between them, and the first has no such byte
pub around-is : (byte : ℕ) (text front rest : List ℕ) → around byte text ≡ Some (front, rest)
    → (text ≡ front ++ (byte ∷ rest)) × (list_any (λ b. b == byte) front ≡ false)
unfolding around
around-is byte text front rest h =
    let p : ℕ → Bool = λ b. b == byte in
    let found = if-some (nat_lt (position_or_len p text) (length text)) (before_first p text, after_first p text)
    (front, rest) h in
    let at = position_or_len p text in
    let inside : at < length text = ltb-true at (length text) found.0 in
    let whole = split_at_first p text 0 inside in
    let same : get_or text at 0 ≡ byte = eqb-true _ byte (passes_at_first p text 0 inside) in
    let fronts : before_first p text ≡ front = ap (λ (x : List ℕ × List ℕ). x.0) found.1 in
    let rests : after_first p text ≡ rest = ap (λ (x : List ℕ × List ℕ). x.1) found.1 in (
      whole ∙ (λ i. fronts i ++ (same i ∷ rests i)),
      subst (λ (l : List ℕ). list_any (λ b. b == byte) l ≡ false) fronts (none-passes byte text),
    )

-- ---- a text around `/@`

pub cut-is : (text path behind : List ℕ) → cut_of text ≡ Some (path, behind) → text ≡ path ++ (codes "/@" ++ behind)
unfolding cut_of
cut-is text path behind h =
    let outer = then-some without_slash (around 64 text) (path, behind) h in
    let cut = around-is 64 text (outer.0).0 (outer.0).1 outer.1 in
    let front = map-some (λ (front : List ℕ). (front, (outer.0).1)) (without_end (codes "/") (outer.0).0) (path, behind)
    outer.2 in
    let before : (outer.0).0 ≡ path ++ codes "/" = end-is (codes "/") (outer.0).0 front.0 front.1
    ∙ ap (λ (x : List ℕ × List ℕ). x.0 ++ codes "/") front.2 in
    let after : (outer.0).1 ≡ behind = ap (λ (x : List ℕ × List ℕ). x.1) front.2 in
    cut.0 ∙ (λ i. before i ++ (64 ∷ after i)) ∙ append_assoc path (codes "/") (64 ∷ behind)

pub cut-taken : (path behind : List ℕ) → list_any (λ b. b == 64) path ≡ false
    → cut_of (path ++ (codes "/@" ++ behind)) ≡ Some (path, behind)
unfolding cut_of
cut-taken path behind h =
    let apart : path ++ (codes "/@" ++ behind) ≡ (path ++ codes "/") ++ (64 ∷ behind) =
    sym (append_assoc path (codes "/") (64 ∷ behind)) in
    let none : list_any (λ b. b == 64) (path ++ codes "/") ≡ false =
    rw (list_any-append (λ b. b == 64) path (codes "/"), h) refl in
    rw (apart, around-taken 64 (path ++ codes "/") behind none, end-taken (codes "/") path) refl
