-- What an entry asks of its words, computed.
use Rattle.std.proofs.Common.{◌≡◌, ℕ, Bool, true, false, not, cond, List, [], ◌∷◌, ◌++◌, refl, ap, ◌∙◌, Option, Some}
use Rattle.std.proofs.Common.{None, Result, Ok, Err, ⊎_elim}
use Rattle.std.specs.Option.{is_some}
use Rattle.std.specs.List.{AllByRecursion}
use Rattle.std.proofs.lemmas.Bool.{not-true, both_ways, false_from_ne_true, not_from_false}
use Rattle.gomod.specs.declared.fault.GoModFault.{GoModFault}
use Rattle.gomod.specs.declared.fault.GoModFault.TheVariants as faults
use Rattle.gomod.specs.Paths.{Version, is_path, is_loose_path, version_of, fits_path, is_below, IsBelow}
use Rattle.gomod.specs.GoVersion.{is_go_version, is_file_path}
use Rattle.gomod.specs.Entries.{Demand, module_path, loose_path, file_path, go_version, version, fitting_version}
use Rattle.gomod.specs.Entries.{interval, IsMet, fault_of, FailsFirst}
use Rattle.gomod.proofs.Orders.{is_below-true, is_below-from}
use Rattle.modlex.proofs.TokenSound.{chosen}

-- the test of a demand
abbrev pub fits_some : List ℕ → Option Version → Bool
fits_some path None = false
fits_some path (Some v) = fits_path path v

abbrev pub not_above : Option Version → Option Version → Bool
not_above None o = false
not_above (Some u) None = false
not_above (Some u) (Some v) = not (is_below v u)

abbrev pub meets : Demand → Bool
meets (module_path text) = is_path text
meets (loose_path text) = is_loose_path text
meets (file_path text) = is_file_path text
meets (go_version text) = is_go_version text
meets (version text) = is_some (version_of text)
meets (fitting_version path text) = fits_some path (version_of text)
meets (interval low high) = not_above (version_of low) (version_of high)

some_of : (o : Option Version) → is_some o ≡ true → (v : Version) × (o ≡ Some v)
some_of None h = cc
some_of (Some v) h = (v, refl)

fits_of : (path : List ℕ) (o : Option Version) → fits_some path o ≡ true
    → (v : Version) × (o ≡ Some v) × (fits_path path v ≡ true)
fits_of path None h = cc
fits_of path (Some v) h = (v, refl, h)

above_of : (o p : Option Version) → not_above o p ≡ true
    → (u : Version) × (v : Version) × (o ≡ Some u) × (p ≡ Some v) × (¬ IsBelow v u)
above_of None p h = cc
above_of (Some u) None h = cc
above_of (Some u) (Some v) h = (u, v, refl, refl, λ below. both_ways _ (not-true _ h) (is_below-from v u below))

pub meets-true : (d : Demand) → meets d ≡ true → IsMet d
meets-true (module_path text) h = h
meets-true (loose_path text) h = h
meets-true (file_path text) h = h
meets-true (go_version text) h = h
meets-true (version text) h = some_of (version_of text) h
meets-true (fitting_version path text) h = fits_of path (version_of text) h
meets-true (interval low high) h = above_of (version_of low) (version_of high) h

-- a demand that is met passes its computed test
pub meets-from : (d : Demand) → IsMet d → meets d ≡ true
meets-from (module_path text) h = h
meets-from (loose_path text) h = h
meets-from (file_path text) h = h
meets-from (go_version text) h = h
meets-from (version text) h = ap is_some h.1
meets-from (fitting_version path text) h = ap (fits_some path) h.1 ∙ h.2
meets-from (interval low high) h =
    ap (λ o. not_above o (version_of high)) h.2 ∙ ap (not_above (Some h.0)) h.3
    ∙ not_from_false _ (false_from_ne_true _ (λ e. h.4 (is_below-true h.1 h.0 e)))

-- the fault of the first demand that is not met
abbrev pub check : ℕ → List Demand → Result (Unit {0}) GoModFault
check line [] = Ok tt
check line (d ∷ ds) = cond (meets d) (check line ds) (Err (fault_of line d))

pub check-met : (line : ℕ) (ds : List Demand) → check line ds ≡ Ok tt → AllByRecursion IsMet ds
check-met line [] h = tt
check-met line (d ∷ ds) h =
    ⊎_elim (λ p. (meets-true d p.0, check-met line ds p.1)) (λ p. (let bad = p.1 in cc)) (chosen (meets d) _ _ _ h)

pub check-all : (line : ℕ) (ds : List Demand) → AllByRecursion IsMet ds → check line ds ≡ Ok tt
check-all line [] h = refl
check-all line (d ∷ ds) h = let here = meets-from d h.0 in rw here (check-all line ds h.1)

fails_behind : (d : Demand) (ds : List Demand) (e : Demand) → IsMet d → FailsFirst ds e → FailsFirst (d ∷ ds) e
fails_behind d ds e met f = record {
  before = d ∷ f.before;
  others = f.others;
  split = ap (λ l. d ∷ l) f.split;
  met = (met, f.met);
  unmet = f.unmet;
}

-- a fault that checking demands finds is that of the first demand that is not met
pub check-fails : (line : ℕ) (ds : List Demand) (f : GoModFault) → check line ds ≡ Err f
    → (d : Demand) × FailsFirst ds d × (f ≡ fault_of line d)
check-fails line [] f h = cc
check-fails line (d ∷ ds) f h =
    ⊎_elim
    (λ p. (let more = check-fails line ds f p.1 in
    (more.0, fails_behind d ds more.0 (meets-true d p.0) more.1, more.2)))
    (λ p. (
      d,
      record { before = []; others = ds; split = refl; met = tt; unmet = λ met. both_ways _ p.0 (meets-from d met) },
      (let same = p.1 in cc),
    ))
    (chosen (meets d) _ _ _ h)

check_at : (line : ℕ) (before : List Demand) (d : Demand) (others : List Demand) → AllByRecursion IsMet before
    → ¬ IsMet d → check line (before ++ d ∷ others) ≡ Err (fault_of line d)
check_at line [] d others met unmet = let bad = false_from_ne_true (meets d) (λ e. unmet (meets-true d e)) in
    rw bad refl
check_at line (c ∷ before) d others met unmet = let here = meets-from c met.0 in
    rw here (check_at line before d others met.1 unmet)

pub check-first : (line : ℕ) (ds : List Demand) (d : Demand) → FailsFirst ds d → check line ds ≡ Err (fault_of line d)
check-first line ds d f = ap (check line) f.split ∙ check_at line f.before d f.others f.met f.unmet

-- what a shape asks, or the fault of an entry without one
abbrev pub outcome : ℕ → Option (List Demand) → Result (Unit {0}) GoModFault
outcome line None = Err (faults.Grammar line)
outcome line (Some ds) = check line ds
