-- What changes do to what is shown, and where it is still the file's own.
use Rattle.std.proofs.Common.{◌≡◌, ℕ, ◌+◌, ◌-◌, ◌<◌, ◌≤◌, List, [], ◌∷◌, ◌++◌, length, take, drop, replicate}
use Rattle.std.proofs.Common.{slice_index, refl, sym, ap, inl, inr, ◌∙◌, arith, length-append, length-take, length-drop}
use Rattle.std.proofs.Common.{get_or, get_or-take, get_or-drop}
use Rattle.std.specs.Prelude.{max}
use Rattle.std.proofs.lemmas.Bool.{cases_lt}
use Rattle.std.proofs.lemmas.List.{ext_get_or, get_or_append_left, get_or-append_right, get_or-replicate, get_or_past}
use Rattle.std.proofs.lemmas.List.{take_more}
use Rattle.sqlite_disk.specs.Disk.{Holds}
use Rattle.sqlite_disk.specs.Events.{overlaid, padded}
use Rattle.sqlite_disk.proofs.EventLemmas.{Holds-overlaid, Torn-overlaid, Cut-padded, length-padded}
use Rattle.peek.specs.declared.Edit.{Edit}
use Rattle.peek.specs.Edits.{shown, after, Fronts, IsPart}

-- the newest change comes last
pub shown_more : (file : List ℕ) (edits : List Edit) (edit : Edit)
    → shown file (edits ++ edit ∷ []) ≡ after edit (shown file edits)
shown_more file [] edit = refl
shown_more file (first ∷ more) edit = shown_more (after first file) more edit

module _ (front next : ℕ) (file now : List ℕ) (it : Fronts front file now) (lower : next ≤ front) where
  pub fronts_put : (at : ℕ) (bytes : List ℕ) → next ≤ at → Fronts next file (overlaid now at bytes)
  fronts_put at bytes low =
      let torn = Torn-overlaid now at bytes in
      record {
        in_file = omega (arith, it.in_file);
        within = omega (arith, it.within, torn.no_shorter);
        each = λ i inside. torn.below i (omega (arith, it.within)) (omega arith) ∙ it.each i (omega arith);
      }

  pub fronts_cut : (len : ℕ) → next ≤ len → Fronts next file (padded now len)
  fronts_cut len low =
      let cut = Cut-padded now len in
      record {
        in_file = omega (arith, it.in_file);
        within = omega (arith, length-padded now len);
        each = λ i inside. cut.below i (omega (arith, it.within)) (omega arith) ∙ it.each i (omega arith);
      }

pub length_put : (now : List ℕ) (at : ℕ) (bytes : List ℕ)
    → length (overlaid now at bytes) ≡ max (length now) (at + length bytes)
length_put now at bytes =
    let torn = Torn-overlaid now at bytes in
    omega (arith, torn.no_shorter, torn.no_longer, (Holds-overlaid now at bytes).within)

-- what is read below the changes is shown
pub holds_front : (front at : ℕ) (file now bytes : List ℕ) → Fronts front file now → at + length bytes ≤ front
    → Holds file at bytes → Holds now at bytes
holds_front front at file now bytes it low holds =
    record {
      within = omega (arith, it.within);
      each = λ i inside. it.each (at + i) (omega arith)
          ∙ holds.each i inside;
    }

pub same_part : (front at n : ℕ) (file now : List ℕ) → Fronts front file now → at + n ≤ front
    → take n (drop at now) ≡ take n (drop at file)
same_part front at n file now it low =
    let long : length (take n (drop at now)) ≡ n =
    omega (arith, it.within, length-take n (drop at now), length-drop at now) in
    let alike : length (take n (drop at file)) ≡ n =
    omega (arith, it.in_file, length-take n (drop at file), length-drop at file) in
    ext_get_or 0 (take n (drop at now)) (take n (drop at file)) (long ∙ sym alike) (λ i within.
    let inside : i < n = omega (arith, long) in
    get_or-take n (drop at now) i 0 inside ∙ get_or-drop at now i 0
    ∙ it.each (at + i) (omega arith)
    ∙ sym (get_or-take n (drop at file) i 0 inside ∙ get_or-drop at file i 0))

-- a file of another length is the same below it, and has zeros behind its own end
padded_at : (file : List ℕ) (len i : ℕ) → i < len → slice_index (padded file len) i ≡ slice_index file i
unfolding padded
padded_at file len i low =
    get_or-take len _ i 0 low
    ∙ elim (cases_lt i (length file)) [
      | inl within ↦ get_or_append_left file _ 0 i within
      | inr behind ↦ get_or-append_right file (replicate (len - length file) 0) (length file) i 0 refl behind
          ∙ get_or-replicate (len - length file) (i - length file) 0 0 (omega arith) ∙ sym (get_or_past file i 0 behind)
    ]

module _ (file : List ℕ) (at : ℕ) (bytes : List ℕ) where
  front : length (padded file at ++ bytes) ≡ at + length bytes
  front = omega (arith, length-append (padded file at) bytes, length-padded file at)

  overlaid_below : (i : ℕ) → i < at → slice_index (overlaid file at bytes) i ≡ slice_index file i
  unfolding overlaid
  overlaid_below i low =
      get_or_append_left (padded file at ++ bytes) _ 0 i (omega (arith, front))
      ∙ get_or_append_left (padded file at) bytes 0 i (omega (arith, length-padded file at)) ∙ padded_at file at i low

  overlaid_above : (i : ℕ) → at + length bytes ≤ i → slice_index (overlaid file at bytes) i ≡ slice_index file i
  unfolding overlaid
  overlaid_above i high =
      let end = at + length bytes in
      let back : end + (i - end) ≡ i = omega arith in
      get_or-append_right (padded file at ++ bytes) _ end i 0 front high ∙ get_or-drop end file (i - end) 0
      ∙ ap (slice_index file) back

  -- a part of the file after a write of bytes
  pub put_part : (from : ℕ) (old new : List ℕ) → length new ≡ length old → IsPart file from old
      → ((i : ℕ) → i < length old → at ≤ from + i → from + i < at + length bytes
      → slice_index new i ≡ slice_index bytes (from + i - at))
      → ((i : ℕ) → i < length old → from + i < at → slice_index new i ≡ slice_index old i)
      → ((i : ℕ) → i < length old → at + length bytes ≤ from + i → slice_index new i ≡ slice_index old i)
      → IsPart (overlaid file at bytes) from new
  put_part from old new same was written below above i inside =
      let here : i < length old = omega arith in
      elim (cases_lt (from + i) at) [
        | inl low ↦ below i here low ∙ was i here ∙ sym (overlaid_below (from + i) low)
        | inr more ↦ elim (cases_lt (from + i) (at + length bytes)) [
          | inl within ↦ written i here more within
              ∙ sym ((Holds-overlaid file at bytes).each (from + i - at) (omega arith))
              ∙ ap (slice_index (overlaid file at bytes)) (omega arith)
          | inr high ↦ above i here high ∙ was i here ∙ sym (overlaid_above (from + i) high)
        ]
      ]

-- a part of the file after a change of its length
pub cut_part : (file : List ℕ) (len from : ℕ) (old new : List ℕ) → length new ≡ length old → IsPart file from old
    → ((i : ℕ) → i < length old → from + i < len → slice_index new i ≡ slice_index old i)
    → ((i : ℕ) → i < length old → len ≤ from + i → slice_index new i ≡ 0)
    → IsPart (padded file len) from new
cut_part file len from old new same was below past i inside =
    let here : i < length old = omega arith in
    elim (cases_lt (from + i) len) [
      | inl low ↦ below i here low ∙ was i here ∙ sym (padded_at file len (from + i) low)
      | inr high ↦ past i here high
          ∙ sym (get_or_past (padded file len) (from + i) 0 (omega (arith, length-padded file len)))
    ]

-- one change more
pub shown_next : (file : List ℕ) (edits : List Edit) (i : ℕ) (edit d : Edit) → i < length edits
    → edit ≡ get_or edits i d
    → shown file (take (i + 1) edits) ≡ after edit (shown file (take i edits))
shown_next file edits i edit d low is =
    ap (shown file) (take_more edits i d low ∙ ap (λ it. take i edits ++ it ∷ []) (sym is))
    ∙ shown_more file (take i edits) edit
