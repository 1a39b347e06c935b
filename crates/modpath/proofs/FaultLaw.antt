-- The checks find the first rule that a text breaks.
use Rattle.std.proofs.Common.{◌≡◌, ◌↔◌, ◌⊎◌, ◌&&◌, ◌<◌, ◌≤◌, ◌++◌, List, ℕ, [], ◌∷◌, length, Ok, Err, Bool, true, false}
use Rattle.std.proofs.Common.{not, refl, sym, ap, ◌∙◌, inl, inr, arith, subst}
use Rattle.std.proofs.lemmas.Bool.{le-ltb, leb-false, lt-leb, lt-ltb, ltb-false, not-false, not-true}
use Rattle.std.proofs.lemmas.List.Elements.{All-cons, All-head, All-nil, All-tail}
use Rattle.std.specs.List.{All}
use Rattle.modpath.specs.declared.major.Suffix.{Suffix}
use Rattle.modpath.specs.declared.path.PathFault.{PathFault}
use Rattle.modpath.specs.declared.path.PathFault.TheVariants as fault
use Rattle.modpath.specs.ModulePath.{BreaksElement, BreaksLeftmost, BreaksLoose, BreaksPath, HasDotEnd, HasElementBytes}
use Rattle.modpath.specs.ModulePath.{HasPathElements, HasPathLength, HasSuffix, IsElement, IsFirstElement, IsReserved}
use Rattle.modpath.specs.Path.{Check, ◌>>◌, check_each, check_of, element_check, elements, elements_check, fault_unless}
use Rattle.modpath.specs.Path.{first_element, has_dot_end}
use Rattle.modpath.specs.Path.{is_element_text, is_first_element, is_reserved, has_tilde_number, length_check, passed}
use Rattle.modpath.specs.Path.{stem, suffix_check}
use Rattle.modpath.specs.PathLaws.{FaultsAreExact, LooseFaultsAreExact}
use Rattle.modpath.proofs.CheckEach.{both-passed}
use Rattle.modpath.proofs.ElementLaw.{dot_ends_are_exact, element_bytes_are_exact, first_elements_are_exact}
use Rattle.modpath.proofs.PathLaw.{and_then, asked, element_passes, elements_pass, fails, holds, length_passes, no_test}
use Rattle.modpath.proofs.PathLaw.{suffix_passes, tested}
use Rattle.modpath.proofs.ReservedLaw.{reserved_names_are_exact}
use Rattle.modpath.proofs.TildeLaw.{tilde_numbers_are_exact}

-- ---- checks one after another

-- the first of two checks fails, or it passes and the second fails
fault-cases : (r s : Check) (f : PathFault) → (r >> s) ≡ Err f → (r ≡ Err f) ⊎ (r ≡ passed) × (s ≡ Err f)
fault-cases (Ok u) s f h = inr (refl, h)
fault-cases (Err g) s f h = inl h

fault-first : (r s : Check) (f : PathFault) → r ≡ Err f → (r >> s) ≡ Err f
fault-first r s f h = ap (λ x. x >> s) h

fault-second : (r s : Check) (f : PathFault) → r ≡ passed → s ≡ Err f → (r >> s) ≡ Err f
fault-second r s f p h = ap (λ x. x >> s) p ∙ h

unmet : (b : Bool) (g f : PathFault) → fault_unless b g ≡ Err f → (b ≡ false) × (g ≡ f)
unmet true g f h = cc h
unmet false g f h = (refl, cc h)

faulty : (b : Bool) (f : PathFault) → b ≡ false → fault_unless b f ≡ Err f
faulty b f e = rw e refl

-- ---- tests that pass and fail

refutes : (b : Bool) (P : Type 0) → (b ≡ true) ↔ P → b ≡ false → ¬ P
refutes b P e h p = cc (e.1 p, h)

fails-not : (b : Bool) → b ≡ true → not b ≡ false
fails-not b h = rw h refl

-- ---- elements

-- the checks of an element, one more at a time
abbrev bytes_check : List ℕ → Check
bytes_check e = fault_unless (is_element_text e) fault.Element

abbrev dots_check : List ℕ → Check
dots_check e = bytes_check e >> fault_unless (not (has_dot_end e)) fault.DotEnd

abbrev names_check : List ℕ → Check
names_check e = dots_check e >> fault_unless (not (is_reserved (stem e))) fault.Reserved

-- the fault that the check of an element finds is the first rule that the element breaks
element-to : (e : List ℕ) (f : PathFault) → element_check e ≡ Err f → BreaksElement e f
element-to e f h = elim (fault-cases (names_check e) (fault_unless (not (has_tilde_number (stem e))) fault.Tilde) f h) [
  | inr tilde ↦
      let a = both-passed _ _ tilde.0 in let b = both-passed _ _ a.0 in let u = unmet _ fault.Tilde f tilde.1 in
      subst (BreaksElement e) u.1 (
        (element_bytes_are_exact e).0 (tested _ _ b.0),
        refutes _ _ (dot_ends_are_exact e) (not-true _ (tested _ _ b.1)),
        refutes _ _ (reserved_names_are_exact (stem e)) (not-true _ (tested _ _ a.1)),
        (tilde_numbers_are_exact (stem e)).0 (not-false _ u.0),
      )
  | inl h₁ ↦ elim (fault-cases (dots_check e) (fault_unless (not (is_reserved (stem e))) fault.Reserved) f h₁) [
    | inr reserved ↦
        let b = both-passed _ _ reserved.0 in let u = unmet _ fault.Reserved f reserved.1 in
        subst (BreaksElement e) u.1 (
          (element_bytes_are_exact e).0 (tested _ _ b.0),
          refutes _ _ (dot_ends_are_exact e) (not-true _ (tested _ _ b.1)),
          (reserved_names_are_exact (stem e)).0 (not-false _ u.0),
        )
    | inl h₂ ↦ elim (fault-cases (bytes_check e) (fault_unless (not (has_dot_end e)) fault.DotEnd) f h₂) [
      | inr dot ↦
          let u = unmet _ fault.DotEnd f dot.1 in
          subst (BreaksElement e) u.1
          ((element_bytes_are_exact e).0 (tested _ _ dot.0), (dot_ends_are_exact e).0 (not-false _ u.0))
      | inl bytes ↦
          let u = unmet _ fault.Element f bytes in
          subst (BreaksElement e) u.1 (refutes _ _ (element_bytes_are_exact e) u.0)
    ]
  ]
]

bytes-pass : (e : List ℕ) → HasElementBytes e → bytes_check e ≡ passed
bytes-pass e u = holds _ fault.Element ((element_bytes_are_exact e).1 u)

dots-pass : (e : List ℕ) → HasElementBytes e → (¬ HasDotEnd e) → dots_check e ≡ passed
dots-pass e u v = and_then _ _ (bytes-pass e u) (holds _ fault.DotEnd (no_test _ _ (dot_ends_are_exact e) v))

names-pass : (e : List ℕ) → HasElementBytes e → (¬ HasDotEnd e) → (¬ IsReserved (stem e)) → names_check e ≡ passed
names-pass e u v w = and_then _ _ (dots-pass e u v)
    (holds _ fault.Reserved (no_test _ _ (reserved_names_are_exact (stem e)) w))

-- the check of an element finds the first rule that the element breaks
element-from : (e : List ℕ) (f : PathFault) → BreaksElement e f → element_check e ≡ Err f
element-from e fault.Element u =
    fault-first _ _ fault.Element (fault-first _ _ fault.Element (fault-first _ _ fault.Element
    (faulty _ fault.Element (fails _ _ (element_bytes_are_exact e) u))))
element-from e fault.DotEnd u =
    fault-first _ _ fault.DotEnd (fault-first _ _ fault.DotEnd
    (fault-second _ _ fault.DotEnd (bytes-pass e u.0)
    (faulty _ fault.DotEnd (fails-not _ ((dot_ends_are_exact e).1 u.1)))))
element-from e fault.Reserved u =
    fault-first _ _ fault.Reserved
    (fault-second _ _ fault.Reserved (dots-pass e u.0 u.1)
    (faulty _ fault.Reserved (fails-not _ ((reserved_names_are_exact (stem e)).1 u.2))))
element-from e fault.Tilde u =
    fault-second _ _ fault.Tilde (names-pass e u.0 u.1 u.2)
    (faulty _ fault.Tilde (fails-not _ ((tilde_numbers_are_exact (stem e)).1 u.3)))
element-from e fault.Empty u = absurd u
element-from e fault.TooLong u = absurd u
element-from e fault.First u = absurd u
element-from e fault.Suffix u = absurd u

-- the fault that the check of elements finds is the first rule that the leftmost bad element breaks
leftmost-to : (es : List (List ℕ)) (f : PathFault) → elements_check es ≡ Err f → BreaksLeftmost es f
unfolding check_each
leftmost-to [] f h = cc h
leftmost-to (e ∷ rest) f h = elim (fault-cases (element_check e) (elements_check rest) f h) [
  | inl here ↦ record {
    front = [];
    element = e;
    back = rest;
    split = refl;
    before = All-nil IsElement;
    breaks =
        element-to e f here;
  }
  | inr later ↦
      let l = leftmost-to rest f later.1 in
      record {
        front = e ∷ l.front;
        element = l.element;
        back = l.back;
        split = ap (λ (es : List (List ℕ)). e ∷ es) l.split;
        before = All-cons IsElement e l.front ((element_passes e).0 later.0) l.before;
        breaks = l.breaks;
      }
]

leftmost-from : (front : List (List ℕ)) (e : List ℕ) (back : List (List ℕ)) (f : PathFault) → All IsElement front
    → BreaksElement e f
    → elements_check (front ++ e ∷ back) ≡ Err f
unfolding check_each
leftmost-from [] e back f all u = fault-first (element_check e) (elements_check back) f (element-from e f u)
leftmost-from (x ∷ front) e back f all u =
    fault-second (element_check x) (elements_check (front ++ e ∷ back)) f
    ((element_passes x).1 (All-head IsElement x front all))
    (leftmost-from front e back f (All-tail IsElement x front all) u)

-- which faults an element has
leftmost-loose : (text : List ℕ) (f : PathFault) → HasPathLength text → BreaksLeftmost (elements text) f
    → BreaksLoose text f
leftmost-loose text fault.Element n u = (n, u)
leftmost-loose text fault.DotEnd n u = (n, u)
leftmost-loose text fault.Reserved n u = (n, u)
leftmost-loose text fault.Tilde n u = (n, u)
leftmost-loose text fault.Empty n u = absurd u.breaks
leftmost-loose text fault.TooLong n u = absurd u.breaks
leftmost-loose text fault.First n u = absurd u.breaks
leftmost-loose text fault.Suffix n u = absurd u.breaks

leftmost-path : (text : List ℕ) (f : PathFault) → HasPathLength text → BreaksLeftmost (elements text) f
    → BreaksPath text f
leftmost-path text fault.Element n u = (n, u)
leftmost-path text fault.DotEnd n u = (n, u)
leftmost-path text fault.Reserved n u = (n, u)
leftmost-path text fault.Tilde n u = (n, u)
leftmost-path text fault.Empty n u = absurd u.breaks
leftmost-path text fault.TooLong n u = absurd u.breaks
leftmost-path text fault.First n u = absurd u.breaks
leftmost-path text fault.Suffix n u = absurd u.breaks

-- ---- lengths

length-to : (text : List ℕ) (f : PathFault) → length_check text ≡ Err f
    → (f ≡ fault.Empty) × (length text ≡ 0) ⊎ (f ≡ fault.TooLong) × (255 < length text)
length-to text f h = elim (fault-cases _ _ f h) [
  | inl empty ↦ let u = unmet _ fault.Empty f empty in let none : length text ≤ 0 = ltb-false 0 (length text) u.0 in
      inl (sym u.1, omega arith)
  | inr long ↦ let u = unmet _ fault.TooLong f long.1 in inr (sym u.1, leb-false (length text) 255 u.0)
]

empty-from : (text : List ℕ) → length text ≡ 0 → length_check text ≡ Err fault.Empty
empty-from text h = fault-first _ _ fault.Empty (faulty _ fault.Empty (le-ltb 0 (length text) (omega arith)))

-- the check of the length refuses more than 255 bytes with `TooLong`
long-from : (text : List ℕ) → 255 < length text → length_check text ≡ Err fault.TooLong
long-from text h =
    fault-second _ _ fault.TooLong (holds _ fault.Empty (lt-ltb 0 (length text) (omega arith)))
    (faulty _ fault.TooLong (lt-leb (length text) 255 h))

-- ---- texts

-- what the check of a text found, by its test
data Found (strict : Bool) (text : List ℕ) (f : PathFault) : Type 0 where
  at_length : length_check text ≡ Err f → Found strict text f
  at_element : HasPathLength text → elements_check (elements text) ≡ Err f → Found strict text f
  at_first : HasPathElements text → (strict && not (is_first_element (first_element (elements text)))) ≡ true
      → f ≡ fault.First
      → Found strict text f
  at_suffix : HasPathElements text → (strict && not (is_first_element (first_element (elements text)))) ≡ false
      → (¬ ((s : Suffix) × HasSuffix text s)) → f ≡ fault.Suffix → Found strict text f

-- the rule of the first element, where it is asked
abbrev first_check : Bool → List ℕ → Check
first_check strict text =
    fault_unless (not (strict && not (is_first_element (first_element (elements text))))) fault.First

-- a fault of the check is one of the four cases of `Found`
found : (strict : Bool) (text : List ℕ) (f : PathFault) → check_of strict text ≡ Err f → Found strict text f
unfolding check_of
found strict text f h = elim (fault-cases
    (length_check text >> elements_check (elements text) >> first_check strict text) (suffix_check (elements text)) f
    h) [
      | inr major ↦
          let a = both-passed _ _ major.0 in let b = both-passed _ _ a.0 in let u = unmet _ fault.Suffix f major.1 in
          at_suffix ((length_passes text).0 b.0, (elements_pass (elements text)).0 b.1) (not-true _ (tested _ _ a.1))
          (refutes _ _ (suffix_passes text) u.0) (sym u.1)
      | inl h₁ ↦ elim (fault-cases (length_check text >> elements_check (elements text)) (first_check strict text) f
          h₁) [
            | inr host ↦
                let b = both-passed _ _ host.0 in let u = unmet _ fault.First f host.1 in
                at_first ((length_passes text).0 b.0, (elements_pass (elements text)).0 b.1) (not-false _ u.0) (sym u.1)
            | inl h₂ ↦ elim (fault-cases (length_check text) (elements_check (elements text)) f h₂) [
              | inr es ↦ at_element ((length_passes text).0 es.0) es.1
              | inl len ↦ at_length len
            ]
          ]
    ]

loose-found : (text : List ℕ) (f : PathFault) → Found false text f → BreaksLoose text f
loose-found text f (at_length h) = elim (length-to text f h) [
  | inl e ↦ subst (BreaksLoose text) (sym e.0) e.1
  | inr e ↦ subst (BreaksLoose text) (sym e.0) e.1
]
loose-found text f (at_element n h) = leftmost-loose text f n (leftmost-to (elements text) f h)
loose-found text f (at_first es t e) = cc t
loose-found text f (at_suffix es t none e) = subst (BreaksLoose text) (sym e) (es, none)

-- a fault that the strict check found is the first rule of module paths that the text breaks
path-found : (text : List ℕ) (f : PathFault) → Found true text f → BreaksPath text f
path-found text f (at_length h) = elim (length-to text f h) [
  | inl e ↦ subst (BreaksPath text) (sym e.0) e.1
  | inr e ↦ subst (BreaksPath text) (sym e.0) e.1
]
path-found text f (at_element n h) = leftmost-path text f n (leftmost-to (elements text) f h)
path-found text f (at_first es t e) =
    subst (BreaksPath text) (sym e)
    (es, refutes _ _ (first_elements_are_exact (first_element (elements text))) (not-true _ t))
path-found text f (at_suffix es t none e) =
    subst (BreaksPath text) (sym e)
    (es, (first_elements_are_exact (first_element (elements text))).0 (not-false _ t), none)

length-fault : (strict : Bool) (text : List ℕ) (f : PathFault) → length_check text ≡ Err f
    → check_of strict text ≡ Err f
unfolding check_of
length-fault strict text f h = fault-first _ _ f (fault-first _ _ f (fault-first _ _ f h))

element-fault : (strict : Bool) (text : List ℕ) (f : PathFault) → HasPathLength text → BreaksLeftmost (elements text) f
    → check_of strict text ≡ Err f
unfolding check_of
element-fault strict text f n u =
    fault-first _ _ f (fault-first _ _ f (fault-second _ _ f ((length_passes text).1 n)
    (ap elements_check u.split ∙ leftmost-from u.front u.element u.back f u.before u.breaks)))

first-fault : (text : List ℕ) → HasPathElements text → (¬ IsFirstElement (first_element (elements text)))
    → check_of true text ≡ Err fault.First
unfolding check_of
first-fault text es none =
    fault-first _ _ fault.First (fault-second _ _ fault.First
    (and_then _ _ ((length_passes text).1 es.0) ((elements_pass (elements text)).1 es.1))
    (faulty _ fault.First (fails-not _ (no_test _ _ (first_elements_are_exact (first_element (elements text))) none))))

suffix-fault : (strict : Bool) (text : List ℕ) → HasPathElements text
    → not (strict && not (is_first_element (first_element (elements text)))) ≡ true
    → (¬ ((s : Suffix) × HasSuffix text s))
    → check_of strict text ≡ Err fault.Suffix
unfolding check_of
suffix-fault strict text es first none =
    fault-second _ _ fault.Suffix
    (and_then _ _ (and_then _ _ ((length_passes text).1 es.0) ((elements_pass (elements text)).1 es.1))
    (holds _ fault.First first))
    (faulty _ fault.Suffix (fails _ _ (suffix_passes text) none))

loose-from : (text : List ℕ) (f : PathFault) → BreaksLoose text f → check_of false text ≡ Err f
loose-from text fault.Empty u = length-fault false text fault.Empty (empty-from text u)
loose-from text fault.TooLong u = length-fault false text fault.TooLong (long-from text u)
loose-from text fault.Element u = element-fault false text fault.Element u.0 u.1
loose-from text fault.DotEnd u = element-fault false text fault.DotEnd u.0 u.1
loose-from text fault.Reserved u = element-fault false text fault.Reserved u.0 u.1
loose-from text fault.Tilde u = element-fault false text fault.Tilde u.0 u.1
loose-from text fault.First u = absurd u
loose-from text fault.Suffix u = suffix-fault false text u.0 refl u.1

-- the strict check finds the first rule of module paths that a text breaks
path-from : (text : List ℕ) (f : PathFault) → BreaksPath text f → check_of true text ≡ Err f
path-from text fault.Empty u = length-fault true text fault.Empty (empty-from text u)
path-from text fault.TooLong u = length-fault true text fault.TooLong (long-from text u)
path-from text fault.Element u = element-fault true text fault.Element u.0 u.1
path-from text fault.DotEnd u = element-fault true text fault.DotEnd u.0 u.1
path-from text fault.Reserved u = element-fault true text fault.Reserved u.0 u.1
path-from text fault.Tilde u = element-fault true text fault.Tilde u.0 u.1
path-from text fault.First u = first-fault text u.0 u.1
path-from text fault.Suffix u =
    suffix-fault true text u.0 (asked _ ((first_elements_are_exact (first_element (elements text))).1 u.1)) u.2

pub faults_are_exact : FaultsAreExact
faults_are_exact text f = (λ h. path-found text f (found true text f h), path-from text f)

pub loose_faults_are_exact : LooseFaultsAreExact
loose_faults_are_exact text f = (λ h. loose-found text f (found false text f h), loose-from text f)
