-- Times and stamps are the digits of their numbers.
use Rattle.std.proofs.Common.{◌≡◌, ◌==◌, ◌&&◌, ◌<◌, ◌+◌, ◌*◌, ◌/◌, ◌%◌, ◌^◌, ◌⊎◌, pow-suc, ℕ, zero, suc, List, [], ◌∷◌}
use Rattle.std.proofs.Common.{◌++◌, append_assoc}
use Rattle.std.proofs.Common.{append-nil, length, take, drop, Bool, true, false, refl, sym, ap, ◌∙◌, subst, inl, inr}
use Rattle.std.proofs.Common.{arith, lit<}
use Rattle.std.proofs.Math.Nat.{mod-lt}
use Rattle.std.proofs.lemmas.Bool.{cases_Bool, eqb-true, lt-ltb}
use Rattle.std.proofs.lemmas.Bool.Decides.{nat_tests}
use Rattle.std.proofs.lemmas.Int.Digits.{digits_value-lt, digits_value_push}
use Rattle.std.proofs.lemmas.List.{drop-drop, drop_all, length-drop, take-append-drop, take_all}
use Rattle.std.proofs.lemmas.List.Folds.{list_all-append}
use Rattle.std.proofs.lemmas.Nat.{div-mul-add}
use Rattle.std.specs.Char.{digit_value, is_ascii_digit}
use Rattle.std.specs.List.{list_all}
use Rattle.std.specs.Prelude.{codes, nat_le, nat_lt}
use Rattle.std.specs.Str.Parse.{digits_value, digits_value_after}
use Rattle.modver.specs.Time.{DateTime, Exists, HasDigits, IsStamp, IsTime, IsTimeFault, days_in_month, fits_byte}
use Rattle.modver.specs.Time.{fits_form, has_stamp_form}
use Rattle.modver.specs.Time.{has_time_form, is_date, is_moment, is_time_of_day, number_at, padded, stamp_text}
use Rattle.modver.specs.Time.{time_of_stamp, time_text}
use Rattle.modver.specs.TimeLaws.{EachTextIsATimeOrFaulty, IsTimeIsExact, TimeOfStampIsExact, TimeTextIsOneToOne}
use Rattle.modver.specs.declared.time.TimeFault.{TimeFault}
use Rattle.modver.specs.declared.time.TimeFault.TheVariants as fault
use Rattle.modver.proofs.Conditions.{and-both, and-first, and-second, le-nat_le, nat_le-true}
use Rattle.modver.proofs.Forms.{digits-fit, fit-digits, fits_form-append, fits_form-slice, length-fits}
use Rattle.modver.proofs.Numerals.{all-digits}

-- ---- a number and its digits

digit-code : (d : ℕ) → d < 10 → (is_ascii_digit (48 + d) ≡ true) × (digit_value (48 + d) ≡ d)
digit-code d h = (grind (arith, nat_tests), grind (arith, nat_tests))

pub padded-digits : (n k : ℕ) → list_all is_ascii_digit (padded n k) ≡ true
padded-digits zero k = refl
padded-digits (suc n) k =
    list_all-append is_ascii_digit (padded n (k / 10)) ((48 + k % 10) ∷ [])
    ∙ rw (padded-digits n (k / 10), (digit-code (k % 10) (mod-lt k (lit< tt))).0) refl

pub padded-value : (n k : ℕ) → k < 10 ^ n → digits_value 10 (padded n k) ≡ k
padded-value zero k h = omega arith
padded-value (suc n) k h =
    let power : 10 ^ suc n ≡ 10 ^ n * 10 = pow-suc 10 n in
    let ih = padded-value n (k / 10) (omega arith) in
    digits_value_push 10 (padded n (k / 10)) (48 + k % 10)
    ∙ rw (ih, (digit-code (k % 10) (mod-lt k (lit< tt))).1) (omega arith)

-- one digit more
push : (n m c : ℕ) → is_ascii_digit c ≡ true → padded (suc n) (m * 10 + digit_value c) ≡ padded n m ++ c ∷ []
push n m c h =
    let below : digit_value c < 10 = grind (arith, nat_tests) in
    let code : 48 + digit_value c ≡ c = grind (arith, nat_tests) in
    let quotient : (m * 10 + digit_value c) / 10 ≡ m = div-mul-add m 10 (digit_value c) below in
    let rest : 48 + (m * 10 + digit_value c) % 10 ≡ c = omega arith in
    rw (quotient, rest) refl

-- the digits behind a number
written-after : (n k m : ℕ) (ds : List ℕ) → k ≡ n + length ds → list_all is_ascii_digit ds ≡ true
    → padded k (digits_value_after 10 m ds) ≡ padded n m ++ ds
written-after n k m [] e h = let same : k ≡ n = omega arith in rw same (sym (append-nil (padded n m)))
written-after n k m (c ∷ ds) e h =
    written-after (suc n) k (m * 10 + digit_value c) ds (omega arith) (and-second _ _ h)
    ∙ ap (λ (front : List ℕ). front ++ ds) (push n m c (and-first _ _ h)) ∙ append_assoc (padded n m) (c ∷ []) ds

written : (n : ℕ) (ds : List ℕ) → length ds ≡ n → list_all is_ascii_digit ds ≡ true → padded n (digits_value 10 ds) ≡ ds
written n ds size h = written-after 0 n 0 ds (omega arith) h

-- ---- the pieces of a text that has a form

-- digits are those of their number
record IsNumber (text : List ℕ) (index n : ℕ) : Type 0 where
  pub same : take n (drop index text) ≡ padded n (number_at text index n)
  pub bound : number_at text index n < 10 ^ n

-- where a form has n digits at an index, a text of the form has there the n digits of the number at that index
number : (form text : List ℕ) (index n : ℕ) → fits_form form text ≡ true
    → list_all (λ f. f == 100) (take n (drop index form)) ≡ true → length (take n (drop index form)) ≡ n
    → IsNumber text index n
number form text index n fits letters size =
    let ds = take n (drop index text) in
    let piece = fits_form-slice form text index n fits in
    let digits = digits-fit (take n (drop index form)) ds letters piece in
    let long : length ds ≡ n = sym (length-fits (take n (drop index form)) ds piece) ∙ size in
    record {
      same = sym (written n ds long digits);
      bound = rw long at (digits_value-lt 10 ds (all-digits ds digits));
    }

single : (c : ℕ) (text : List ℕ) → fits_form (c ∷ []) text ≡ true → (c == 100) ≡ false → (c == 104) ≡ false
    → text ≡ c ∷ []
single c [] h p q = cc h
single c (b ∷ x ∷ rest) h p q = cc (and-second (fits_byte c b) _ h)
single c (b ∷ []) h p q =
    let same : (b == c) ≡ true = rw (p, q) at (and-first (fits_byte c b) _ h) in
    ap (λ (x : ℕ). x ∷ []) (eqb-true b c same)

-- and another byte is itself
byte : (form text : List ℕ) (index c : ℕ) → fits_form form text ≡ true → take 1 (drop index form) ≡ c ∷ []
    → (c == 100) ≡ false → (c == 104) ≡ false
    → take 1 (drop index text) ≡ c ∷ []
byte form text index c fits at p q =
    single c (take 1 (drop index text))
    (subst (λ (f : List ℕ). fits_form f (take 1 (drop index text))
    ≡ true) at (fits_form-slice form text index 1 fits)) p q

-- a piece of a text, and what follows
next : (text piece rest : List ℕ) (index n : ℕ) → take n (drop index text) ≡ piece → drop (index + n) text ≡ rest
    → drop index text ≡ piece ++ rest
next text piece rest index n p r =
    sym (take-append-drop n (drop index text)) ∙ ap (λ (t : List ℕ). t ++ drop n (drop index text)) p
    ∙ ap (λ (t : List ℕ). piece ++ t) (drop-drop n index text ∙ r)

-- ---- a text of the form of a time is that of its numbers

abbrev numbers : List ℕ → DateTime
numbers text = record {
  year = number_at text 0 4;
  month = number_at text 5 2;
  day = number_at text 8 2;
  hour = number_at text 11 2;
  minute = number_at text 14 2;
  second = number_at text 17 2;
}

abbrev time_form : List ℕ
time_form = codes "dddd-dd-ddTdd:dd:ddZ"

numbers-digits : (text : List ℕ) → has_time_form text ≡ true → HasDigits (numbers text)
numbers-digits text h = record {
  year = (number time_form text 0 4 h refl refl).bound;
  month = (number time_form text 5 2 h refl refl).bound;
  day = (number time_form text 8 2 h refl refl).bound;
  hour = (number time_form text 11 2 h refl refl).bound;
  minute = (number time_form text 14 2 h refl refl).bound;
  second = (number time_form text 17 2 h refl refl).bound;
}

-- a text of the form of a time is the text of the numbers in it
numbers-same : (text : List ℕ) → has_time_form text ≡ true → text ≡ time_text (numbers text)
numbers-same text h =
    let number-at : (index n : ℕ) → list_all (λ f. f == 100) (take n (drop index time_form)) ≡ true
    → length (take n (drop index time_form)) ≡ n
    → take n (drop index text) ≡ padded n (number_at text index n)
    = λ index n letters size. (number time_form text index n h letters size).same in
    let size : 20 ≡ length text = length-fits time_form text h in
    next text _ _ 0 4 (number-at 0 4 refl refl)
    (next text _ _ 4 1 (byte time_form text 4 45 h refl refl refl)
    (next text _ _ 5 2 (number-at 5 2 refl refl)
    (next text _ _ 7 1 (byte time_form text 7 45 h refl refl refl)
    (next text _ _ 8 2 (number-at 8 2 refl refl)
    (next text _ _ 10 1 (byte time_form text 10 84 h refl refl refl)
    (next text _ _ 11 2 (number-at 11 2 refl refl)
    (next text _ _ 13 1 (byte time_form text 13 58 h refl refl refl)
    (next text _ _ 14 2 (number-at 14 2 refl refl)
    (next text _ _ 16 1 (byte time_form text 16 58 h refl refl refl)
    (next text _ _ 17 2 (number-at 17 2 refl refl)
    (next text _ _ 19 1 (byte time_form text 19 90 h refl refl refl) (drop_all 20 text (omega arith)))))))))))))

-- ---- and the text of numbers has the form

four : (k : ℕ) → fits_form (codes "dddd") (padded 4 k) ≡ true
four k = fit-digits (codes "dddd") (padded 4 k) refl refl (padded-digits 4 k)

two : (k : ℕ) → fits_form (codes "dd") (padded 2 k) ≡ true
two k = fit-digits (codes "dd") (padded 2 k) refl refl (padded-digits 2 k)

-- the text of a date and a time of day has the form of a time
text-form : (at : DateTime) → has_time_form (time_text at) ≡ true
text-form at =
    let from_second = padded 2 at.second ++ codes "Z" in
    let from_minute = padded 2 at.minute ++ codes ":" ++ from_second in
    let from_hour = padded 2 at.hour ++ codes ":" ++ from_minute in
    let from_day = padded 2 at.day ++ codes "T" ++ from_hour in
    let from_month = padded 2 at.month ++ codes "-" ++ from_day in
    fits_form-append (codes "dddd") (codes "-dd-ddTdd:dd:ddZ") (padded 4 at.year) (codes "-" ++ from_month)
    (four at.year)
    (fits_form-append (codes "dd") (codes "-ddTdd:dd:ddZ") (padded 2 at.month) (codes "-" ++ from_day) (two at.month)
    (fits_form-append (codes "dd") (codes "Tdd:dd:ddZ") (padded 2 at.day) (codes "T" ++ from_hour) (two at.day)
    (fits_form-append (codes "dd") (codes ":dd:ddZ") (padded 2 at.hour) (codes ":" ++ from_minute) (two at.hour)
    (fits_form-append (codes "dd") (codes ":ddZ") (padded 2 at.minute) (codes ":" ++ from_second) (two at.minute)
    (fits_form-append (codes "dd") (codes "Z") (padded 2 at.second) (codes "Z") (two at.second) refl)))))

text-numbers : (at : DateTime) → HasDigits at → numbers (time_text at) ≡ at
text-numbers at digits = λ i. record {
  year = padded-value 4 at.year digits.year i;
  month = padded-value 2 at.month digits.month i;
  day = padded-value 2 at.day digits.day i;
  hour = padded-value 2 at.hour digits.hour i;
  minute = padded-value 2 at.minute digits.minute i;
  second = padded-value 2 at.second digits.second i;
}

-- ---- what exists

abbrev exists : DateTime → Bool
exists at = is_date at.year at.month at.day && is_time_of_day at.hour at.minute at.second

-- a date and a time of day that pass the computed test exist
exists-so : (at : DateTime) → exists at ≡ true → Exists at
exists-so at h =
    let halves = and-both (is_date at.year at.month at.day) _ h in
    let days = and-both _ (nat_le at.day (days_in_month at.year at.month)) halves.0 in
    let months = and-both _ (nat_le 1 at.day) days.0 in
    let hours = and-both _ (nat_lt at.second 60) halves.1 in
    record {
      month = (grind (arith, nat_tests), grind (arith, nat_tests));
      day = (nat_le-true 1 at.day months.1, nat_le-true at.day (days_in_month at.year at.month) days.1);
      hour = grind (arith, nat_tests);
      minute = grind (arith, nat_tests);
      second = grind (arith, nat_tests);
    }

-- a date and a time of day that exist pass the computed test
exists-passes : (at : DateTime) → Exists at → exists at ≡ true
exists-passes at e =
    rw (
      le-nat_le 1 at.month e.month.0,
      le-nat_le at.month 12 e.month.1,
      le-nat_le 1 at.day e.day.0,
      le-nat_le at.day (days_in_month at.year at.month) e.day.1,
      lt-ltb at.hour 24 e.hour,
      lt-ltb at.minute 60 e.minute,
      lt-ltb at.second 60 e.second,
    ) refl

-- ---- times

pub time-of_tests : (text : List ℕ) → has_time_form text ≡ true → is_moment text ≡ true → IsTime text
unfolding is_moment
time-of_tests text form moment =
    record {
      at = numbers text;
      digits = numbers-digits text form;
      exists = exists-so (numbers text) moment;
      same =
          numbers-same text form;
    }

text-moment : (at : DateTime) → HasDigits at → Exists at → is_moment (time_text at) ≡ true
unfolding is_moment
text-moment at digits e = exists-passes (numbers (time_text at)) (subst Exists (sym (text-numbers at digits)) e)

pub time-form : (text : List ℕ) → IsTime text → has_time_form text ≡ true
time-form text is = ap has_time_form is.same ∙ text-form is.at

pub time-moment : (text : List ℕ) → IsTime text → is_moment text ≡ true
time-moment text is = ap is_moment is.same ∙ text-moment is.at is.digits is.exists

pub time-exact : IsTimeIsExact
time-exact text = (
  λ h. let halves = and-both (has_time_form text) (is_moment text) h in time-of_tests text halves.0 halves.1,
  λ is. rw (time-form text is, time-moment text is) refl,
)

pub one-to-one : TimeTextIsOneToOne
one-to-one a b p q e = sym (text-numbers a p) ∙ ap numbers e ∙ text-numbers b q

-- ---- faults

pub form-fault : (text : List ℕ) → has_time_form text ≡ false → IsTimeFault text fault.Form
form-fault text h at digits same = cc (h, ap has_time_form same ∙ text-form at)

pub date-fault : (text : List ℕ) → has_time_form text ≡ true → is_moment text ≡ false → IsTimeFault text fault.Date
unfolding is_moment
date-fault text form none =
    (numbers text, numbers-digits text form, numbers-same text form, λ e. cc (none, exists-passes (numbers text) e))

no-fault : (text : List ℕ) (f : TimeFault) → IsTime text → ¬ (IsTimeFault text f)
no-fault text fault.Form is h = h is.at is.digits is.same
no-fault text fault.Date is h = h.3 (subst Exists (one-to-one is.at h.0 is.digits h.1 (sym is.same ∙ h.2)) is.exists)

one-fault : (text : List ℕ) (f g : TimeFault) → IsTimeFault text f → IsTimeFault text g → f ≡ g
one-fault text fault.Form fault.Form h k = refl
one-fault text fault.Form fault.Date h k = absurd (h k.0 k.1 k.2)
one-fault text fault.Date fault.Form h k = absurd (k h.0 h.1 h.2)
one-fault text fault.Date fault.Date h k = refl

some : (text : List ℕ) → IsTime text ⊎ ((f : TimeFault) × IsTimeFault text f)
some text = elim (cases_Bool (has_time_form text)) [
  | inl form ↦ elim (cases_Bool (is_moment text)) [
    | inl moment ↦ inl (time-of_tests text form moment)
    | inr none ↦ inr (fault.Date, date-fault text form none)
  ]
  | inr other ↦ inr (fault.Form, form-fault text other)
]

pub each-text : EachTextIsATimeOrFaulty
each-text text = record { some = some text; one_fault = one-fault text; not_both = no-fault text }

-- ---- stamps

abbrev stamp_form : List ℕ
stamp_form = codes "dddddddddddddd"

abbrev stamp_numbers : List ℕ → DateTime
stamp_numbers stamp = record {
  year = number_at stamp 0 4;
  month = number_at stamp 4 2;
  day = number_at stamp 6 2;
  hour = number_at stamp 8 2;
  minute = number_at stamp 10 2;
  second = number_at stamp 12 2;
}

stamp-numbers_digits : (stamp : List ℕ) → has_stamp_form stamp ≡ true → HasDigits (stamp_numbers stamp)
stamp-numbers_digits stamp h = record {
  year = (number stamp_form stamp 0 4 h refl refl).bound;
  month = (number stamp_form stamp 4 2 h refl refl).bound;
  day = (number stamp_form stamp 6 2 h refl refl).bound;
  hour = (number stamp_form stamp 8 2 h refl refl).bound;
  minute = (number stamp_form stamp 10 2 h refl refl).bound;
  second = (number stamp_form stamp 12 2 h refl refl).bound;
}

stamp-numbers_same : (stamp : List ℕ) → has_stamp_form stamp ≡ true → stamp ≡ stamp_text (stamp_numbers stamp)
stamp-numbers_same stamp h =
    let size : 14 ≡ length stamp = length-fits stamp_form stamp h in
    let last : drop 12 stamp ≡ padded 2 (number_at stamp 12 2) =
    sym (take_all 2 (drop 12 stamp) (omega (arith, length-drop 12 stamp)))
    ∙ (number stamp_form stamp 12 2 h refl refl).same in
    next stamp _ _ 0 4 (number stamp_form stamp 0 4 h refl refl).same
    (next stamp _ _ 4 2 (number stamp_form stamp 4 2 h refl refl).same
    (next stamp _ _ 6 2 (number stamp_form stamp 6 2 h refl refl).same
    (next stamp _ _ 8 2 (number stamp_form stamp 8 2 h refl refl).same
    (next stamp _ _ 10 2 (number stamp_form stamp 10 2 h refl refl).same last))))

pub stamp-of_digits : (stamp : List ℕ) → has_stamp_form stamp ≡ true → is_moment (time_of_stamp stamp) ≡ true
    → IsStamp stamp
unfolding is_moment
stamp-of_digits stamp form moment =
    let at = stamp_numbers stamp in
    let digits = stamp-numbers_digits stamp form in
    let same = stamp-numbers_same stamp form in
    let named : is_moment (time_text at) ≡ true = sym (ap (λ (s : List ℕ). is_moment (time_of_stamp s)) same)
    ∙ moment in
    record {
      at = at;
      digits = digits;
      exists =
          subst Exists (text-numbers at digits) (exists-so (numbers (time_text at)) named);
      same = same;
    }

-- the stamp of a date and a time of day has the form of a stamp
stamp-text_form : (at : DateTime) → has_stamp_form (stamp_text at) ≡ true
stamp-text_form at =
    let from_minute = padded 2 at.minute ++ padded 2 at.second in
    let from_hour = padded 2 at.hour ++ from_minute in
    let from_day = padded 2 at.day ++ from_hour in
    fits_form-append (codes "dddd") (codes "dddddddddd") (padded 4 at.year) (padded 2 at.month ++ from_day)
    (four at.year)
    (fits_form-append (codes "dd") (codes "dddddddd") (padded 2 at.month) from_day (two at.month)
    (fits_form-append (codes "dd") (codes "dddddd") (padded 2 at.day) from_hour (two at.day)
    (fits_form-append (codes "dd") (codes "dddd") (padded 2 at.hour) from_minute (two at.hour)
    (fits_form-append (codes "dd") (codes "dd") (padded 2 at.minute) (padded 2 at.second) (two at.minute)
    (two at.second)))))

pub stamp-passes : (stamp : List ℕ) → IsStamp stamp
    → (has_stamp_form stamp ≡ true) × (is_moment (time_of_stamp stamp) ≡ true)
stamp-passes stamp is = (
  ap has_stamp_form is.same ∙ stamp-text_form is.at,
  ap (λ (s : List ℕ). is_moment (time_of_stamp s)) is.same ∙ text-moment is.at is.digits is.exists,
)

pub stamp-exact : TimeOfStampIsExact
stamp-exact stamp time is = (
  λ e. record {
    at = is.at;
    digits = is.digits;
    exists = is.exists;
    stamp_is = is.same;
    time_is = sym e
        ∙ ap time_of_stamp is.same;
  },
  λ one. ap time_of_stamp one.stamp_is ∙ sym one.time_is,
)
