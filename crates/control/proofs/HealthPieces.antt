-- The pieces of a health's lines: what is left behind each, and what stood before that.
use Rattle.std.proofs.Common.{◌≡◌, ◌==◌, ◌<◌, ◌≤◌, ◌+◌, ◌^◌, ℕ, zero, suc, Bool, true, false, not, cond}
use Rattle.std.proofs.Common.{List, [], ◌∷◌, ◌++◌, length, take, drop, decimal, codes, append_assoc, take-append-drop}
use Rattle.std.proofs.Common.{Option, Some, None, refl, sym, ap, subst, ◌∙◌, arith, inl, inr, length-append}
use Rattle.std.specs.Prelude.{IfSome, bytes_eq, if◌then◌else◌, option_map, unwrap_or}
use Rattle.std.specs.Char.{is_ascii_digit}
use Rattle.std.specs.List.{list_all, position, position_or_len}
use Rattle.std.specs.Option.{option_and_then}
use Rattle.std.proofs.lemmas.Bool.{and_from, and_parts, cases_Bool, cases_lt, le-ltb, lt-ltb}
use Rattle.std.proofs.lemmas.List.{drop_at, take_at}
use Rattle.std.proofs.lemmas.List.Sums.{prefix_len-le-length}
use Rattle.std.proofs.lemmas.Option.{cond_some, none-some, same_Some, some_pair_parts}
use Rattle.modpath.specs.Path.{number_of}
use Rattle.modpath.proofs.NumberLaw.{decimal-digits, numbers_are_exact}
use Rattle.modver.specs.Time.{IsTime, is_time}
use Rattle.modver.proofs.Forms.{length-fits}
use Rattle.modver.proofs.Times.{time-exact, time-form}
use Rattle.interleave.specs.declared.between.CopyProgress.{CopyProgress}
use Rattle.world.proofs.Orders.{text_same, text_self}
use Rattle.control.specs.Health.{how_far_word, number_word, time_word}
use Rattle.control.specs.HealthText.{behind_how_far, behind_number, behind_time, digits_len, first_number, how_far_if}
use Rattle.control.specs.HealthText.{number, number_if, or_left, time, time_if, time_len, word}

-- ---- what is there if something came of it

pub then-some : {A B : Type 0} (f : A → Option B) (o : Option A) (y : B) → option_and_then f o ≡ Some y
    → (x : A) × (o ≡ Some x) × (f x ≡ Some y)
then-some f None y is = absurd (none-some y is)
then-some f (Some x) y is = (x, refl, is)

pub map-some : {A B : Type 0} (f : A → B) (o : Option A) (y : B) → option_map f o ≡ Some y
    → (x : A) × (o ≡ Some x) × (f x ≡ y)
map-some f None y is = absurd (none-some y is)
map-some f (Some x) y is = (x, refl, same_Some (f x) y is)

-- ---- a word

module _ (w rest : List ℕ) where
  pub word-at : word w (Some (w ++ rest)) ≡ Some rest
  unfolding word
  word-at =
      let text : List ℕ = w ++ rest in
      let left : List ℕ = drop (length w) text in
      ap (λ (t : List ℕ). cond (bytes_eq t w) (Some left) None) (take_at w rest (length w) refl)
      ∙ ap (λ b. cond b (Some left) None) (text_self w)
      ∙ ap (λ (r : List ℕ). Some r) (drop_at w rest (length w) refl)

  pub word-some : (left : Option (List ℕ)) → word w left ≡ Some rest → left ≡ Some (w ++ rest)
  unfolding word
  word-some None is = absurd (none-some rest is)
  word-some (Some text) is =
      let both = cond_some (bytes_eq (take (length w) text) w) (drop (length w) text) rest is in
      ap (λ (t : List ℕ). Some t)
      (sym (take-append-drop (length w) text)
      ∙ (λ i. text_same (take (length w) text) w both.0 i ++ both.1 i))

-- ---- a number

digits_len-front : (ds rest : List ℕ) → list_all is_ascii_digit ds ≡ true → digits_len rest ≡ 0
    → digits_len (ds ++ rest) ≡ length ds
digits_len-front [] rest all none = none
digits_len-front (d ∷ ds) rest all none =
    let halves = and_parts (is_ascii_digit d) (list_all is_ascii_digit ds) all in
    let yes = halves.0 in
    let more = digits_len-front ds rest halves.1 none in
    let here : digits_len (d ∷ (ds ++ rest)) ≡ digits_len (ds ++ rest) + 1 = rw yes (omega arith) in
    omega (arith, more, here)

pub digits_front : (text : List ℕ) → list_all is_ascii_digit (take (digits_len text) text) ≡ true
digits_front [] = refl
digits_front (b ∷ bs) = elim (cases_Bool (is_ascii_digit b)) [
  | inl passes ↦
      let here : digits_len (b ∷ bs) ≡ suc (digits_len bs) = rw passes (omega arith) in
      subst (λ n. list_all is_ascii_digit (take n (b ∷ bs)) ≡ true) (sym here)
      (and_from (is_ascii_digit b) (list_all is_ascii_digit (take (digits_len bs) bs)) passes (digits_front bs))
  | inr fails ↦
      let here : digits_len (b ∷ bs) ≡ 0 = rw fails refl in
      subst (λ n. list_all is_ascii_digit (take n (b ∷ bs)) ≡ true) (sym here) refl
]

-- where the first byte is that passes, or that there is none
pub found_or_len : (p : ℕ → Bool) (text : List ℕ) → unwrap_or (position p text) (length text) ≡ position_or_len p text
found_or_len p text = elim (cases_lt (position_or_len p text) (length text)) [
  | inl lt ↦ rw (lt-ltb (position_or_len p text) (length text) lt) refl
  | inr le ↦ (let most = prefix_len-le-length (λ b. not (p b)) text in
      rw (le-ltb (position_or_len p text) (length text) le) (omega (arith, le, most)))
]

module _ (n : ℕ) (rest : List ℕ) where
  pub first_number-at : n < 2 ^ 64 → digits_len rest ≡ 0 → first_number (decimal n ++ rest) ≡ Some (n, rest)
  unfolding first_number
  first_number-at fits none =
      let text : List ℕ = decimal n ++ rest in
      let size = length (decimal n) in
      let left : List ℕ = drop size text in
      let len : digits_len text ≡ size = digits_len-front (decimal n) rest (decimal-digits n fits) none in
      ap (λ k. option_map (λ m. (m, drop k text)) (number_of (take k text))) len
      ∙ ap (λ (ds : List ℕ). option_map (λ m. (m, left)) (number_of ds)) (take_at (decimal n) rest size refl)
      ∙ ap (λ (o : Option ℕ). option_map (λ m. (m, left)) o) ((numbers_are_exact (decimal n) n).1 (refl, fits))
      ∙ ap (λ (r : List ℕ). Some (n, r)) (drop_at (decimal n) rest size refl)

  pub first_number-some : (text : List ℕ) → first_number text ≡ Some (n, rest)
      → (n < 2 ^ 64) × (text ≡ decimal n ++ rest)
  unfolding first_number
  first_number-some text is =
      let size = digits_len text in
      let found = map-some (λ m. (m, drop size text)) (number_of (take size text)) (n, rest) is in
      let number_is : found.0 ≡ n = ap (λ (x : ℕ × List ℕ). x.0) found.2 in
      let rest_is : drop size text ≡ rest = ap (λ (x : ℕ × List ℕ). x.1) found.2 in
      let exact = (numbers_are_exact (take size text) found.0).0 found.1 in (
        subst (λ m. m < 2 ^ 64) number_is exact.1,
        sym (take-append-drop size text) ∙ (λ i. (exact.0 ∙ ap decimal number_is) i ++ rest_is i),
      )

-- what is left behind a number
behind-number-some : (text rest : List ℕ) → behind_number text ≡ Some rest
    → (n : ℕ) × (n < 2 ^ 64) × (text ≡ decimal n ++ rest)
behind-number-some text rest is =
    let read = map-some (λ (x : ℕ × List ℕ). x.1) (first_number text) rest is in
    let both = first_number-some read.0.0 read.0.1 text read.1 in
    (read.0.0, both.0, both.1 ∙ ap (λ (r : List ℕ). decimal read.0.0 ++ r) read.2)

module _ (name rest : List ℕ) where
  pub number-at : (n : ℕ) → n < 2 ^ 64 → digits_len rest ≡ 0
      → number name (Some (name ++ (decimal n ++ rest))) ≡ Some rest
  unfolding number
  number-at n fits none =
      ap (option_and_then behind_number) (word-at name (decimal n ++ rest))
      ∙ ap (option_map (λ (x : ℕ × List ℕ). x.1)) (first_number-at n rest fits none)

  pub number-some : (left : Option (List ℕ)) → number name left ≡ Some rest
      → (n : ℕ) × (n < 2 ^ 64) × (left ≡ Some (name ++ (decimal n ++ rest)))
  unfolding number
  number-some left is =
      let named = then-some behind_number (word name left) rest is in
      let read = behind-number-some named.0 rest named.2 in (
        read.0,
        read.1,
        word-some name named.0 left named.1 ∙ ap (λ (t : List ℕ). Some (name ++ t)) read.2,
      )

-- ---- a time

module _ (t rest : List ℕ) (is : IsTime t) where
  time_size : length t ≡ 20
  time_size = sym (length-fits (codes "dddd-dd-ddTdd:dd:ddZ") t (time-form t is))

  time_len-front : time_len (t ++ rest) ≡ length t
  time_len-front = let all = length-append t rest in let twenty = time_size in omega (arith, all, twenty)

  behind-time-at : behind_time (t ++ rest) ≡ Some rest
  unfolding behind_time
  behind-time-at =
      let text : List ℕ = t ++ rest in
      let left : List ℕ = drop (length t) text in
      ap (λ n. cond (is_time (take n text)) (Some (drop n text)) None) time_len-front
      ∙ ap (λ (x : List ℕ). cond (is_time x) (Some left) None) (take_at t rest (length t) refl)
      ∙ ap (λ b. cond b (Some left) None) ((time-exact t).1 is)
      ∙ ap (λ (r : List ℕ). Some r) (drop_at t rest (length t) refl)

  pub time-at : (name : List ℕ) → time name (Some (name ++ (t ++ rest))) ≡ Some rest
  unfolding time
  time-at name = ap (option_and_then behind_time) (word-at name (t ++ rest)) ∙ behind-time-at

behind-time-some : (text rest : List ℕ) → behind_time text ≡ Some rest
    → (t : List ℕ) × IsTime t × (text ≡ t ++ rest)
unfolding behind_time
behind-time-some text rest is =
    let size = time_len text in
    let both = cond_some (is_time (take size text)) (drop size text) rest is in (
      take size text,
      (time-exact (take size text)).0 both.0,
      sym (take-append-drop size text) ∙ ap (λ (r : List ℕ). take size text ++ r) both.1,
    )

pub time-some : (name rest : List ℕ) (left : Option (List ℕ)) → time name left ≡ Some rest
    → (t : List ℕ) × IsTime t × (left ≡ Some (name ++ (t ++ rest)))
unfolding time
time-some name rest left is =
    let named = then-some behind_time (word name left) rest is in
    let read = behind-time-some named.0 rest named.2 in
    (read.0, read.1, word-some name named.0 left named.1 ∙ ap (λ (t : List ℕ). Some (name ++ t)) read.2)

-- ---- words that may be missing

-- the text of a word that is there, with what follows
spread : (name value rest : List ℕ) → Some ((name ++ value) ++ rest) ≡ Some (name ++ (value ++ rest))
spread name value rest = ap (λ (t : List ℕ). Some t) (append_assoc name value rest)

module _ (name rest : List ℕ) where
  -- behind a word that is missing comes another one
  pub number_if-at : (o : Option ℕ) → IfSome o (λ n. n < 2 ^ 64) → digits_len rest ≡ 0 → word name (Some rest) ≡ None
      → number_if name (Some (number_word name o ++ rest)) ≡ Some rest
  unfolding number_if
  number_if-at None fits none apart = ap (or_left behind_number (Some rest)) apart
  number_if-at (Some n) fits none apart =
      ap (λ left. or_left behind_number left (word name left)) (spread name (decimal n) rest)
      ∙ ap (or_left behind_number (Some (name ++ (decimal n ++ rest)))) (word-at name (decimal n ++ rest))
      ∙ ap (option_map (λ (x : ℕ × List ℕ). x.1)) (first_number-at n rest fits none)

  pub number_if-some : (left : Option (List ℕ)) → number_if name left ≡ Some rest
      → (o : Option ℕ) × IfSome o (λ n. n < 2 ^ 64) × (left ≡ Some (number_word name o ++ rest))
  unfolding number_if
  number_if-some left is = at (word name left) refl is
    where
      at : (found : Option (List ℕ)) → word name left ≡ found → or_left behind_number left found ≡ Some rest
          → (o : Option ℕ) × IfSome o (λ n. n < 2 ^ 64) × (left ≡ Some (number_word name o ++ rest))
      at None there so = (None, tt, so)
      at (Some text) there so =
          let read = behind-number-some text rest so in (
            Some read.0,
            read.1,
            word-some name text left there ∙ ap (λ (t : List ℕ). Some (name ++ t)) read.2
                ∙ sym (spread name (decimal read.0) rest),
          )

  pub time_if-at : (o : Option (List ℕ)) → IfSome o IsTime → word name (Some rest) ≡ None
      → time_if name (Some (time_word name o ++ rest)) ≡ Some rest
  unfolding time_if
  time_if-at None is apart = ap (or_left behind_time (Some rest)) apart
  time_if-at (Some t) is apart =
      ap (λ left. or_left behind_time left (word name left)) (spread name t rest)
      ∙ ap (or_left behind_time (Some (name ++ (t ++ rest)))) (word-at name (t ++ rest))
      ∙ behind-time-at t rest is

  pub time_if-some : (left : Option (List ℕ)) → time_if name left ≡ Some rest
      → (o : Option (List ℕ)) × IfSome o IsTime × (left ≡ Some (time_word name o ++ rest))
  unfolding time_if
  time_if-some left is = at (word name left) refl is
    where
      at : (found : Option (List ℕ)) → word name left ≡ found → or_left behind_time left found ≡ Some rest
          → (o : Option (List ℕ)) × IfSome o IsTime × (left ≡ Some (time_word name o ++ rest))
      at None there so = (None, tt, so)
      at (Some text) there so =
          let read = behind-time-some text rest so in (
            Some read.0,
            read.1,
            word-some name text left there ∙ ap (λ (t : List ℕ). Some (name ++ t)) read.2
                ∙ sym (spread name read.0 rest),
          )

-- ---- how far a copy is

abbrev Fits : CopyProgress → Type 0
Fits far = (far.done < 2 ^ 64) × (far.all < 2 ^ 64)

abbrev both_text : CopyProgress → List ℕ
both_text far = decimal far.done ++ (codes "/" ++ decimal far.all)

both_spread : (far : CopyProgress) (rest : List ℕ)
    → both_text far ++ rest ≡ decimal far.done ++ (codes "/" ++ (decimal far.all ++ rest))
both_spread far rest = simp append_assoc

module _ (rest : List ℕ) where
  behind-how-far-at : (far : CopyProgress) → Fits far → digits_len rest ≡ 0
      → behind_how_far (both_text far ++ rest) ≡ Some rest
  behind-how-far-at far fits none =
      let slash : List ℕ = codes "/" ++ (decimal far.all ++ rest) in
      ap behind_how_far (both_spread far rest)
      ∙ ap (λ (o : Option (ℕ × List ℕ)). number (codes "/") (option_map (λ (x : ℕ × List ℕ). x.1) o))
      (first_number-at far.done slash fits.0 refl)
      ∙ number-at (codes "/") rest far.all fits.1 none

  behind-how-far-some : (text : List ℕ) → behind_how_far text ≡ Some rest
      → (far : CopyProgress) × Fits far × (text ≡ both_text far ++ rest)
  behind-how-far-some text is =
      let second = number-some (codes "/") rest (behind_number text) is in
      let first = behind-number-some text (codes "/" ++ (decimal second.0 ++ rest)) second.2 in
      let far : CopyProgress = record { done = first.0; all = second.0 } in
      (far, (first.1, second.1), first.2 ∙ sym (both_spread far rest))

module _ (name rest : List ℕ) where
  pub how_far_if-at : (o : Option CopyProgress) → IfSome o Fits → digits_len rest ≡ 0 → word name (Some rest) ≡ None
      → how_far_if name (Some (how_far_word name o ++ rest)) ≡ Some rest
  unfolding how_far_if
  how_far_if-at None fits none apart = ap (or_left behind_how_far (Some rest)) apart
  how_far_if-at (Some far) fits none apart =
      ap (λ left. or_left behind_how_far left (word name left)) (spread name (both_text far) rest)
      ∙ ap (or_left behind_how_far (Some (name ++ (both_text far ++ rest)))) (word-at name (both_text far ++ rest))
      ∙ behind-how-far-at rest far fits none

  pub how_far_if-some : (left : Option (List ℕ)) → how_far_if name left ≡ Some rest
      → (o : Option CopyProgress) × IfSome o Fits × (left ≡ Some (how_far_word name o ++ rest))
  unfolding how_far_if
  how_far_if-some left is = at (word name left) refl is
    where
      at : (found : Option (List ℕ)) → word name left ≡ found → or_left behind_how_far left found ≡ Some rest
          → (o : Option CopyProgress) × IfSome o Fits × (left ≡ Some (how_far_word name o ++ rest))
      at None there so = (None, tt, so)
      at (Some text) there so =
          let read = behind-how-far-some rest text so in (
            Some read.0,
            read.1,
            word-some name text left there ∙ ap (λ (t : List ℕ). Some (name ++ t)) read.2
                ∙ sym (spread name (both_text read.0) rest),
          )
