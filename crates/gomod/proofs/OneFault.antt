-- A line has one fault at most, and none where it reads.
use Rattle.std.proofs.Common.{◌≡◌, ℕ, true, List, [], ◌∷◌, refl, ap, sym, ◌∙◌, subst, Option, Some, None, Err, ◌⊎◌, inl}
use Rattle.std.proofs.Common.{inr, ⊎_elim}
use Rattle.std.specs.List.{AllByRecursion}
use Rattle.std.proofs.lemmas.Bool.{both_ways}
use Rattle.gomod.specs.declared.keyword.Keyword.{Keyword}
use Rattle.gomod.specs.declared.keyword.Keyword.TheVariants.{Module, Go, Toolchain, Require, Exclude, Replace, Retract}
use Rattle.gomod.specs.declared.keyword.Keyword.TheVariants.{Tool, Godebug, Ignore}
use Rattle.gomod.specs.declared.fault.GoModFault.{GoModFault}
use Rattle.gomod.specs.declared.fault.GoModFault.TheVariants as faults
use Rattle.modlex.specs.Symbols.{Symbol}
use Rattle.gomod.specs.Keywords.{Keywords}
use Rattle.gomod.specs.Reading.{line_says}
use Rattle.gomod.specs.Entries.{Demand, IsMet, IsRight, HasShape, FailsFirst, fault_of}
use Rattle.gomod.specs.Grammar.{Row, keyword_symbol, left, right, Directive, OpenBlock, IsKnown, is_single}
use Rattle.gomod.specs.Faults.{IsUnknown, IsRepeated, Asks, IsAllowed, IsRowFault}
use Rattle.gomod.proofs.Steps.{ok_or_err, err_same}
use Rattle.gomod.proofs.Demands.{check, check-all, check-first}
use Rattle.gomod.proofs.Shapes.{demands-from_shape}
use Rattle.gomod.proofs.Moves.{Move, blank, single, begins, inside, closes, IsFresh}
use Rattle.gomod.proofs.EntryRight.{shape_same, shape_no_opening, shape_no_closing}
use Rattle.gomod.proofs.Contexts.{context_at, stands, IsAlone}
use Rattle.gomod.proofs.LineLaw.{IsPlain, says_move}
use Rattle.gomod.proofs.RowFaults.{keyword_name, keyword_same, says_fault}

-- ---- at most one

asks_same : (known : Keywords) (o : Option OpenBlock) (ts : List Symbol) (ds es : List Demand) → Asks known o ts ds
    → Asks known o ts es → ds ≡ es
asks_same known None [] ds es h g = absurd h
asks_same known None (t ∷ ts) ds es h g =
    let same = keyword_same known t g.0 h.0 g.1 (keyword_name known t h.0 h.1) in
    shape_same h.0 ts ds es h.2 (subst (λ k. HasShape k ts es) same g.2)
asks_same known (Some b) ts ds es h g = shape_same b.keyword ts ds es h.1 g.1

first_same : (line : ℕ) (ds es : List Demand) (d e : Demand) → ds ≡ es → FailsFirst ds d → FailsFirst es e
    → fault_of line d ≡ fault_of line e
first_same line ds es d e same h g =
    err_same {A = Unit {0}} _ _ (sym (check-first line ds d h) ∙ ap (check line) same ∙ check-first line es e g)

abbrev Last : Keywords → Option OpenBlock → ℕ → List Symbol → GoModFault → Type 0
Last known o line ts f =
    ((¬ IsAllowed known o ts) × (f ≡ faults.Grammar line))
    ⊎ ((demands : List Demand) × Asks known o ts demands
    × ((d : Demand) × FailsFirst demands d × (f ≡ fault_of line d)))

last_same : (known : Keywords) (o : Option OpenBlock) (line : ℕ) (ts : List Symbol) (f g : GoModFault)
    → Last known o line ts f → Last known o line ts g → f ≡ g
last_same known o line ts f g h k =
    ⊎_elim
    (λ denied. ⊎_elim (λ other. denied.1 ∙ sym other.1) (λ words. absurd (denied.0 (inr (inr (words.0, words.1))))) k)
    (λ words. ⊎_elim
    (λ denied. absurd (denied.0 (inr (inr (words.0, words.1)))))
    (λ other. words.2.2 ∙ first_same line words.0 other.0 words.2.0 other.2.0
    (asks_same known o ts words.0 other.0 words.1 other.1) words.2.1 other.2.1 ∙ sym other.2.2)
    k)
    h

abbrev Later : Keywords → List Directive → Option OpenBlock → ℕ → List Symbol → GoModFault → Type 0
Later known ds o line ts f =
    (IsRepeated known ds o ts × (f ≡ faults.Twice line))
    ⊎ ((¬ IsRepeated known ds o ts) × Last known o line ts f)

later_same : (known : Keywords) (ds : List Directive) (o : Option OpenBlock) (line : ℕ) (ts : List Symbol)
    (f g : GoModFault) → Later known ds o line ts f → Later known ds o line ts g → f ≡ g
later_same known ds o line ts f g h k =
    ⊎_elim
    (λ twice. ⊎_elim (λ other. twice.1 ∙ sym other.1) (λ other. absurd (other.0 twice.0)) k)
    (λ once. ⊎_elim (λ other. absurd (once.0 other.0)) (λ other. last_same known o line ts f g once.1 other.1) k)
    h

pub fault_same : (known : Keywords) (ds : List Directive) (o : Option OpenBlock) (line : ℕ) (ts : List Symbol)
    (f g : GoModFault)
    → IsRowFault known ds o line ts f → IsRowFault known ds o line ts g → f ≡ g
fault_same known ds o line ts f g h k =
    ⊎_elim
    (λ unknown. ⊎_elim (λ other. unknown.1 ∙ sym other.1) (λ other. absurd (other.0 unknown.0)) k)
    (λ known_. ⊎_elim (λ other. absurd (known_.0 other.0)) (λ other. later_same known ds o line ts f g known_.1 other.1)
    k)
    h

-- ---- none where the line reads

met_first : (ds : List Demand) (d : Demand) → AllByRecursion IsMet ds → ¬ FailsFirst ds d
met_first ds d met first = let a = check-all 0 ds met in let b = check-first 0 ds d first in cc

-- a line that is not unknown, not repeated and allowed, and asks only what is met
no_fault : (known : Keywords) (ds : List Directive) (o : Option OpenBlock) (line : ℕ) (ts : List Symbol)
    (f : GoModFault) → ¬ IsUnknown known o ts → ¬ IsRepeated known ds o ts
    → IsAllowed known o ts → ((demands : List Demand) → Asks known o ts demands → AllByRecursion IsMet demands)
    → ¬ IsRowFault known ds o line ts f
no_fault known ds o line ts f no_unknown no_twice allowed met h =
    ⊎_elim
    (λ unknown. no_unknown unknown.0)
    (λ a. ⊎_elim
    (λ twice. no_twice twice.0)
    (λ b. ⊎_elim
    (λ denied. denied.0 allowed)
    (λ words. met_first words.0 words.2.0 (met words.0 words.1) words.2.1)
    b.1)
    a.1)
    h

-- no directive has an entry without tokens
empty_shape : (k : Keyword) (ds : List Demand) → ¬ HasShape k [] ds
empty_shape Module ds h = let e = demands-from_shape Module [] ds h in cc
empty_shape Go ds h = let e = demands-from_shape Go [] ds h in cc
empty_shape Toolchain ds h = let e = demands-from_shape Toolchain [] ds h in cc
empty_shape Require ds h = let e = demands-from_shape Require [] ds h in cc
empty_shape Exclude ds h = let e = demands-from_shape Exclude [] ds h in cc
empty_shape Replace ds h = let e = demands-from_shape Replace [] ds h in cc
empty_shape Retract ds h = let e = demands-from_shape Retract [] ds h in cc
empty_shape Tool ds h = let e = demands-from_shape Tool [] ds h in cc
empty_shape Godebug ds h = let e = demands-from_shape Godebug [] ds h in cc
empty_shape Ignore ds h = let e = demands-from_shape Ignore [] ds h in cc

right_met : (k : Keyword) (ts : List Symbol) → IsRight k ts → (ds : List Demand) → HasShape k ts ds
    → AllByRecursion IsMet ds
right_met k ts h ds shape = subst (AllByRecursion IsMet) (shape_same k ts h.0 ds h.1 shape) h.2

no_fresh : (known : Keywords) (ds : List Directive) (k : Keyword) (ts : List Symbol) → IsKnown known k → IsFresh ds k
    → ¬ IsRepeated known ds None (keyword_symbol k ∷ ts)
no_fresh known ds k ts known_k fresh r =
    let same = keyword_same known (keyword_symbol k) r.0 k r.1 known_k in
    both_ways (stands k ds) (fresh (subst (λ j. is_single j ≡ true) same r.2))
    (subst (λ j. stands j ds ≡ true) same r.3)

-- a line that is a move by the grammar has no fault
pub move_no_fault : {known : Keywords} {ds es : List Directive} {o p : Option OpenBlock} {r : Row} (f : GoModFault)
    → Move known ds o r es p → ¬ IsRowFault known ds o r.line r.symbols f
move_no_fault {known = known} f (blank ds None line) =
    no_fault known ds None line [] f (λ u. u) (λ r. r) (inl refl) (λ demands a. absurd a)
move_no_fault {known = known} f (blank ds (Some b) line) =
    no_fault known ds (Some b) line [] f (λ u. u) (λ r. r) (inl refl)
    (λ demands a. absurd (empty_shape b.keyword demands a.1))
move_no_fault {known = known} f (single ds line k ts known_k fresh is_right) =
    no_fault known ds None line (keyword_symbol k ∷ ts) f
    (λ u. (let none = u.1 in cc))
    (no_fresh known ds k ts known_k fresh)
    (inr (inr (is_right.0, (k, (refl, known_k), is_right.1))))
    (λ demands a. right_met k ts is_right demands
    (subst (λ j. HasShape j ts demands) (keyword_same known (keyword_symbol k) a.0 k a.1 known_k) a.2))
move_no_fault {known = known} f (begins ds line k known_k fresh h) =
    no_fault known ds None line (keyword_symbol k ∷ left ∷ []) f
    (λ u. (let none = u.1 in cc))
    (no_fresh known ds k (left ∷ []) known_k fresh)
    (inr (inl (k, keyword_symbol k, left, refl, (refl, known_k), h, refl)))
    (λ demands a. (let bad = shape_no_opening a.0 (left ∷ []) demands a.2 in cc))
move_no_fault {known = known} f (inside ds b line t ts room is_right) =
    no_fault known ds (Some b) line (t ∷ ts) f (λ u. u) (λ r. r)
    (inr (inr (is_right.0, (room, is_right.1))))
    (λ demands a. right_met b.keyword (t ∷ ts) is_right demands a.1)
move_no_fault {known = known} f (closes ds b line filled) =
    no_fault known ds (Some b) line (right ∷ []) f (λ u. u) (λ r. r)
    (inr (inl (right, refl, refl, filled)))
    (λ demands a. (let bad = shape_no_closing b.keyword (right ∷ []) demands a.1 in cc))

-- the fault of a line is computed
pub fault_says : (known : Keywords) (line : ℕ) (ds : List Directive) (o : Option OpenBlock) (ts : List Symbol)
    (f : GoModFault)
    → IsAlone ds o → AllByRecursion IsPlain ts → IsRowFault known ds o line ts f
    → line_says known line (context_at ds o) ts ≡ Err f
fault_says known line ds o ts f alone plain h =
    ⊎_elim
    (λ x. absurd (move_no_fault f (says_move known line ds o ts x.0 alone plain x.1).move h))
    (λ e. e.1 ∙ ap (λ g. Err g) (fault_same known ds o line ts e.0 f (says_fault known line ds o ts e.0 alone e.1) h))
    (ok_or_err (line_says known line (context_at ds o) ts))
