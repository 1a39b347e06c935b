-- What stands between the dots of a text that is cut at its last dot.
use Rattle.std.proofs.Common.{◌≡◌, ◌==◌, ◌+◌, ◌-◌, ◌<◌, ◌++◌, ℕ, suc, List, [], ◌∷◌, length, take, drop, get_or}
use Rattle.std.proofs.Common.{length-append}
use Rattle.std.proofs.Common.{length-drop, ◌&&◌, reverse, None, Bool, true, false, refl, sym, ap, ◌∙◌, inl, inr, arith}
use Rattle.std.proofs.Common.{add-one, drop-cons}
use Rattle.std.proofs.lemmas.Bool.{cases_Bool}
use Rattle.std.proofs.lemmas.List.{get_or-drop, reverse-append, take-append-drop}
use Rattle.std.specs.List.{slice_split}
use Rattle.semver.specs.OrderLaws.{parts-shape}
use Rattle.std.specs.Prelude.{if◌then◌else◌, option_map}
use Rattle.modver.specs.Time.{time_of_stamp}
use Rattle.modver.specs.Class.{is_zero, may_precede, stamp_of, stamp_of_identifier}
use Rattle.modver.specs.Parts.{between_dots, identifiers_of}
use Rattle.modver.specs.SemanticVersion.{SemanticVersion}

-- a text has at least one part
pub dots-shape : (text : List ℕ) → (first : List ℕ) × (others : List (List ℕ)) × (between_dots text ≡ first ∷ others)
dots-shape text = parts-shape text

-- two texts joined by a dot have the parts of the first and then those of the second
pub dots-append : (xs ys : List ℕ) → between_dots (xs ++ 46 ∷ ys) ≡ between_dots xs ++ between_dots ys
dots-append [] ys = refl
dots-append (b ∷ xs) ys = elim (cases_Bool (b == 46)) [
  | inl dot ↦ rw dot (ap (λ (l : List (List ℕ)). [] ∷ l) (dots-append xs ys))
  | inr other ↦
      let s = parts-shape xs in
      let shape : slice_split (λ x. x == 46) xs ≡ s.0 ∷ s.1 = s.2 in
      let ih = dots-append xs ys in
      rw (other, ih, shape) refl
]

-- a text without dots
pub no-dots : (xs : List ℕ) → ((k : ℕ) → k < length xs → (get_or xs k 0 == 46) ≡ false) → between_dots xs ≡ xs ∷ []
no-dots [] h = refl
no-dots (b ∷ xs) h =
    let head : (b == 46) ≡ false = h 0 (omega arith) in
    let ih = no-dots xs (λ k lt. h (suc k) (omega arith)) in
    rw (head, ih) refl

-- a text at a dot that no other follows
pub cut-at : (text : List ℕ) (at : ℕ) → at < length text → get_or text at 0 ≡ 46
    → ((k : ℕ) → at < k → k < length text → (get_or text k 0 == 46) ≡ false)
    → between_dots text ≡ between_dots (take at text) ++ drop (at + 1) text ∷ []
cut-at text at lt dot later =
    let rest = drop (at + 1) text in
    let here : drop at text ≡ 46 ∷ rest =
    rw add-one (drop-cons text at 0 lt ∙ ap (λ (b : ℕ). b ∷ drop (suc at) text) dot) in
    let whole : take at text ++ 46 ∷ rest ≡ text = ap (λ (t : List ℕ). take at text ++ t) (sym here)
    ∙ take-append-drop at text in
    let size : length rest ≡ length text - (at + 1) = length-drop (at + 1) text in
    let last : between_dots rest ≡ rest ∷ [] =
    no-dots rest (λ k h. rw (get_or-drop (at + 1) text k 0) (later (at + 1 + k) (omega arith) (omega arith))) in
    ap between_dots (sym whole) ∙ dots-append (take at text) rest
    ∙ ap (λ (l : List (List ℕ)). between_dots (take at text) ++ l) last

-- ---- the identifiers of a pre-release, from the last to the first

snoc-some : (zs : List (List ℕ)) (x : List ℕ) → (y : List ℕ) × (ys : List (List ℕ)) × (zs ++ x ∷ [] ≡ y ∷ ys)
snoc-some [] x = (x, [], refl)
snoc-some (z ∷ zs) x = (z, zs ++ x ∷ [], refl)

pub reverse-snoc : (zs : List (List ℕ)) (x : List ℕ) → reverse (zs ++ x ∷ []) ≡ x ∷ reverse zs
reverse-snoc zs x = reverse-append zs (x ∷ [])

pub reverse-some : (x : List ℕ) (xs : List (List ℕ)) → (y : List ℕ) × (ys : List (List ℕ)) × (reverse (x ∷ xs) ≡ y ∷ ys)
reverse-some x xs =
    let s = snoc-some (reverse xs) x in
    (s.0, s.1, reverse-append (x ∷ []) xs ∙ s.2)

-- the parts of a text, from the last to the first, are not none
dots-some : (text : List ℕ) → (y : List ℕ) × (ys : List (List ℕ)) × (reverse (between_dots text) ≡ y ∷ ys)
dots-some text =
    let s = parts-shape text in
    let r = reverse-some s.0 s.1 in
    let shape : slice_split (λ x. x == 46) text ≡ s.0 ∷ s.1 = s.2 in
    (r.0, r.1, ap (λ (l : List (List ℕ)). reverse l) shape ∙ r.2)

-- and where it is more
pub may-more : (minor patch : ℕ) (front rest before : List ℕ) → between_dots front ≡ between_dots rest ++ before ∷ []
    → may_precede minor patch (reverse (between_dots front)) ≡ is_zero before
may-more minor patch front rest before cut =
    let more = dots-some rest in
    let all : reverse (between_dots front) ≡ before ∷ more.0 ∷ more.1
    = ap (λ (l : List (List ℕ)). reverse l) cut ∙ reverse-snoc (between_dots rest) before
    ∙ ap (λ (l : List (List ℕ)). before ∷ l) more.2 in
    rw all refl

if-none : (b : Bool) → None ≡ (if b then stamp_of_identifier [] else None)
if-none true = refl
if-none false = refl

-- the stamp of a version with one identifier
pub stamp-one : (v : SemanticVersion) (pre : List ℕ) → identifiers_of pre ≡ v.identifiers → between_dots pre ≡ pre ∷ []
    → stamp_of v ≡ (if (v.minor == 0) && (v.patch == 0) then stamp_of_identifier pre else None)
unfolding stamp_of
stamp-one v [] ids one = rw (← ids) (if-none ((v.minor == 0) && (v.patch == 0)))
stamp-one v (b ∷ rest) ids one = rw (← ids, one) refl

-- and of one with more
pub stamp-more : (v : SemanticVersion) (pre front last : List ℕ) → identifiers_of pre ≡ v.identifiers
    → between_dots pre ≡ between_dots front ++ last ∷ []
    → stamp_of v ≡ (if may_precede v.minor v.patch (reverse (between_dots front)) then stamp_of_identifier last else
    None)
unfolding stamp_of
stamp-more v [] front last ids cut =
    let s = parts-shape front in
    let shape : slice_split (λ x. x == 46) front ≡ s.0 ∷ s.1 = s.2 in
    let sizes : 1 ≡ length (s.0 ∷ s.1) + 1 = ap length (cut ∙ ap (λ (l : List (List ℕ)). l ++ last ∷ []) shape)
    ∙ length-append (s.0 ∷ s.1) (last ∷ []) in
    absurd (omega arith)
stamp-more v (b ∷ rest) front last ids cut =
    rw (← ids, cut, reverse-snoc (between_dots front) last) refl

-- the times of these

pub time-one : (v : SemanticVersion) (pre : List ℕ) → identifiers_of pre ≡ v.identifiers → between_dots pre ≡ pre ∷ []
    → (m : Bool) → m ≡ ((v.minor == 0) && (v.patch == 0))
    → (if m then option_map time_of_stamp (stamp_of_identifier pre) else None) ≡ option_map time_of_stamp (stamp_of v)
time-one v pre ids one true m = sym (ap (option_map time_of_stamp) (rw (← m) at (stamp-one v pre ids one)))
time-one v pre ids one false m = sym (ap (option_map time_of_stamp) (rw (← m) at (stamp-one v pre ids one)))

pub time-more : (v : SemanticVersion) (pre front last : List ℕ) → identifiers_of pre ≡ v.identifiers
    → between_dots pre ≡ between_dots front ++ last ∷ []
    → (m : Bool) → m ≡ may_precede v.minor v.patch (reverse (between_dots front))
    → (if m then option_map time_of_stamp (stamp_of_identifier last) else None) ≡ option_map time_of_stamp (stamp_of v)
time-more v pre front last ids cut true m =
    sym (ap (option_map time_of_stamp) (rw (← m) at (stamp-more v pre front last ids cut)))
time-more v pre front last ids cut false m =
    sym (ap (option_map time_of_stamp) (rw (← m) at (stamp-more v pre front last ids cut)))

-- a version without identifiers has none
pub no-stamp : (v : SemanticVersion) → v.identifiers ≡ [] → stamp_of v ≡ None
unfolding stamp_of
no-stamp v e = rw e refl
