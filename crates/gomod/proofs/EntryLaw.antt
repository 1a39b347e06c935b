-- The computed reading of an entry succeeds or fails as the demands of its shape say.
use Rattle.std.proofs.Common.{◌≡◌, ℕ, Bool, true, false, not, cond, List, [], ◌∷◌, ◌++◌, refl, ap, sym, ◌∙◌, Option}
use Rattle.std.proofs.Common.{Some, None, Result, Ok, Err}
use Rattle.std.specs.Option.{is_some}
use Rattle.gomod.specs.declared.keyword.Keyword.{Keyword}
use Rattle.gomod.specs.declared.keyword.Keyword.TheVariants.{Module, Go, Toolchain, Require, Exclude, Replace, Retract}
use Rattle.gomod.specs.declared.keyword.Keyword.TheVariants.{Tool, Godebug, Ignore}
use Rattle.gomod.specs.declared.fault.GoModFault.{GoModFault}
use Rattle.gomod.specs.declared.fault.GoModFault.TheVariants as faults
use Rattle.gomod.specs.declared.entries.Retraction.{Retraction}
use Rattle.gomod.specs.Paths.{Version, is_path, is_loose_path, version_of, fits_path, is_below}
use Rattle.gomod.specs.GoVersion.{is_go_version, is_file_path}
use Rattle.modlex.specs.Symbols.{Symbol}
use Rattle.modlex.specs.Words.{value_of}
use Rattle.gomod.specs.Reading.{◌>>=◌, version_found, path_word, version_word, fitting_word, pair, old_path}
use Rattle.gomod.specs.Reading.{old_version, new_file, new_version, module_entry}
use Rattle.gomod.specs.Reading.{go_entry, word_entry, pair_entry, replace_entry, replace_three, replace_four}
use Rattle.gomod.specs.Reading.{replace_five, interval, retract_entry, entry}
use Rattle.gomod.specs.Entries.{Demand, fault_of, old_demands, old_version_demands, new_file_demands}
use Rattle.gomod.specs.Entries.{new_version_demands}
use Rattle.gomod.specs.Entries as asks
use Rattle.gomod.proofs.Demands.{meets, fits_some, not_above, check, outcome}
use Rattle.gomod.proofs.Shapes.{when, any_demands, demands_of}

-- whether a step fails, and how
abbrev pub success : {A : Type 0} → Result A GoModFault → Result (Unit {0}) GoModFault
success (Ok x) = Ok tt
success (Err e) = Err e

-- one check and then another
abbrev and_then : Result (Unit {0}) GoModFault → Result (Unit {0}) GoModFault → Result (Unit {0}) GoModFault
and_then (Ok u) next = next
and_then (Err e) next = Err e

pub success-chain : {A B : Type 0} (r : Result A GoModFault) (f : A → Result B GoModFault)
    (next : Result (Unit {0}) GoModFault)
    → ((x : A) → success (f x) ≡ next) → success (r >>= f) ≡ and_then (success r) next
success-chain (Ok x) f next h = h x
success-chain (Err e) f next h = refl

and_then-cond : (b : Bool) (r s t : Result (Unit {0}) GoModFault) (e : GoModFault) → r ≡ and_then s t
    → cond b r (Err e) ≡ and_then (cond b s (Err e)) t
and_then-cond true r s t e h = h
and_then-cond false r s t e h = refl

check-append : (line : ℕ) (ds es : List Demand) → check line (ds ++ es) ≡ and_then (check line ds) (check line es)
check-append line [] es = refl
check-append line (d ∷ ds) es = and_then-cond (meets d) _ _ _ (fault_of line d) (check-append line ds es)

-- a value made of a step's changes nothing
success-keeps : {A B : Type 0} (r : Result A GoModFault) (f : A → B) → success (r >>= (λ x. Ok (f x))) ≡ success r
success-keeps (Ok x) f = refl
success-keeps (Err e) f = refl

-- an entry that is looked at only where it has a shape
outcome_when : {A : Type 0} (line : ℕ) (b : Bool) (r : Result A GoModFault) (ds : List Demand)
    → success r ≡ check line ds → success (cond b r (Err (faults.Grammar line))) ≡ outcome line (when b ds)
outcome_when line true r ds h = h
outcome_when line false r ds h = refl

-- ---- words

success-cond : {A : Type 0} (b : Bool) (x : A) (e : GoModFault)
    → success (cond b (Ok x) (Err e)) ≡ cond b (Ok tt) (Err e)
success-cond true x e = refl
success-cond false x e = refl

version_any : (line : ℕ) (o : Option Version)
    → success (version_found line o) ≡ cond (is_some o) (Ok tt) (Err (faults.Version line))
version_any line None = refl
version_any line (Some v) = refl

version_success : (line : ℕ) (w : Symbol) → success (version_word line w) ≡ check line (asks.version (value_of w) ∷ [])
version_success line w = version_any line (version_of (value_of w))

old_path_success : (line : ℕ) (p : Symbol) → success (old_path line p) ≡ check line (old_demands p)
unfolding old_path
old_path_success line p = success-keeps (path_word line is_loose_path p) (λ x. tt)
    ∙ success-cond (is_loose_path (value_of p)) _ _

-- a path and a version that fits it
pair_any : (line : ℕ) (path : List ℕ) (b : Bool) (o : Option Version)
    → success (cond b (Ok path) (Err (faults.Path line))
    >>= (λ p. version_found line o >>= (λ v. cond (fits_path p v) (Ok v) (Err (faults.Version line)))))
    ≡ cond b (cond (fits_some path o) (Ok tt) (Err (faults.Version line))) (Err (faults.Path line))
pair_any line path false o = refl
pair_any line path true None = refl
pair_any line path true (Some v) = success-cond (fits_path path v) _ _

pair_success : (line : ℕ) (passes : List ℕ → Bool) (p v : Symbol)
    → success (path_word line passes p >>= (λ path. fitting_word line path v))
    ≡ cond (passes (value_of p)) (check line (asks.fitting_version (value_of p) (value_of v) ∷ []))
    (Err (faults.Path line))
unfolding fitting_word
pair_success line passes p v = pair_any line (value_of p) (passes (value_of p)) (version_of (value_of v))

-- a value made of the second of two steps' changes nothing
success-second : {A B C : Type 0} (r : Result A GoModFault) (f : A → Result B GoModFault) (g : A → B → C)
    → success (r >>= (λ x. f x >>= (λ y. Ok (g x y)))) ≡ success (r >>= f)
success-second (Ok x) f g = success-keeps (f x) (g x)
success-second (Err e) f g = refl

pair-demands : (line : ℕ) (p v : Symbol) → success (pair line p v) ≡ check line (old_version_demands p v)
unfolding pair
pair-demands line p v =
    success-second (path_word line is_loose_path p) (λ path. fitting_word line path v)
    (λ path version. record { path = path; version = version })
    ∙ pair_success line is_loose_path p v

old_version_success : (line : ℕ) (p v : Symbol) → success (old_version line p v) ≡ check line (old_version_demands p v)
unfolding old_version
old_version_success line p v = success-keeps (pair line p v) (λ r. tt) ∙ pair-demands line p v

new_version_success : (line : ℕ) (p v : Symbol) → success (new_version line p v) ≡ check line (new_version_demands p v)
unfolding new_version
new_version_success line p v =
    success-second (path_word line is_path p) (λ path. fitting_word line path v) (λ path version. tt)
    ∙ pair_success line is_path p v

new_file_success : (line : ℕ) (f : Symbol) → success (new_file line f) ≡ check line (new_file_demands f)
unfolding new_file
new_file_success line f = success-cond (is_file_path (value_of f)) _ _

turned : {A : Type 0} (b : Bool) (x : A) (e : GoModFault)
    → success (cond b (Err e) (Ok x)) ≡ cond (not b) (Ok tt) (Err e)
turned true x e = refl
turned false x e = refl

interval_any : (line : ℕ) (o p : Option Version) → success {A = Retraction} (version_found line o
    >>= (λ low. version_found line p >>=
    (λ high. cond (is_below high low) (Err (faults.Interval line))
    (Ok (record { line = line; versions = record { low = low; high = high } })))))
    ≡ cond (is_some o) (cond (is_some p) (cond (not_above o p) (Ok tt) (Err (faults.Interval line)))
    (Err (faults.Version line))) (Err (faults.Version line))
interval_any line None p = refl
interval_any line (Some x) None = refl
interval_any line (Some x) (Some y) = turned (is_below y x) _ _

interval_success : (line : ℕ) (v w : Symbol)
    → success (interval line v w)
    ≡ check line (asks.version (value_of v) ∷ asks.version (value_of w) ∷ asks.interval (value_of v) (value_of w) ∷ [])
unfolding interval
interval_success line v w = interval_any line (version_of (value_of v)) (version_of (value_of w))

-- ---- entries

-- two steps that check the demands of two lists, one after the other, check the demands of both
two_steps : (line : ℕ) (r s : Result (Unit {0}) GoModFault) (ds es : List Demand) → success r ≡ check line ds
    → success s ≡ check line es → success (r >>= (λ o. s)) ≡ check line (ds ++ es)
two_steps line r s ds es hr hs = success-chain r (λ o. s) (check line es) (λ o. hs)
    ∙ ap (λ x. and_then x (check line es)) hr ∙ sym (check-append line ds es)

replace_four_by : (line : ℕ) (b c : Bool) (r s : Result (Unit {0}) GoModFault) (ds es : List Demand)
    → success r ≡ check line ds
    → success s ≡ check line es
    → success (cond b r (cond c s (Err (faults.Grammar line)))) ≡ outcome line (cond b (Some ds) (when c es))
replace_four_by line true c r s ds es hr hs = hr
replace_four_by line false c r s ds es hr hs = outcome_when line c s es hs

-- an entry of replace succeeds or fails as the demands of its shape say
replace_success : (line : ℕ) (ts : List Symbol) → success (replace_entry line ts) ≡ outcome line (demands_of Replace ts)
unfolding replace_entry replace_three replace_four replace_five
replace_success line (p ∷ a ∷ f ∷ []) =
    outcome_when line _ _ _ (two_steps line (old_path line p) (new_file line f) (old_demands p) (new_file_demands f)
    (old_path_success line p) (new_file_success line f))
replace_success line (p ∷ a ∷ q ∷ w ∷ []) =
    replace_four_by line _ _ _ _ _ _
    (two_steps line (old_path line p) (new_version line q w) (old_demands p) (new_version_demands q w)
    (old_path_success line p) (new_version_success line q w))
    (two_steps line (old_version line p a) (new_file line w) (old_version_demands p a) (new_file_demands w)
    (old_version_success line p a) (new_file_success line w))
replace_success line (p ∷ v ∷ a ∷ q ∷ w ∷ []) =
    outcome_when line _ _ _
    (two_steps line (old_version line p v) (new_version line q w) (old_version_demands p v) (new_version_demands q w)
    (old_version_success line p v) (new_version_success line q w))
replace_success line _ = refl

pair_entry_success : (line : ℕ) (ts : List Symbol) → success (pair_entry line ts) ≡ outcome line (demands_of Require ts)
unfolding pair_entry
pair_entry_success line (p ∷ v ∷ []) = outcome_when line _ _ _ (pair-demands line p v)
pair_entry_success line _ = refl

exclude_same : (ts : List Symbol) → demands_of Require ts ≡ demands_of Exclude ts
exclude_same (p ∷ v ∷ []) = refl
exclude_same _ = refl

module_success : (line : ℕ) (ts : List Symbol) → success (module_entry line ts) ≡ outcome line (demands_of Module ts)
unfolding module_entry
module_success line (w ∷ []) = outcome_when line _ _ _ (success-cond (is_path (value_of w)) _ _)
module_success line _ = refl

go_success : (line : ℕ) (ts : List Symbol) → success (go_entry line ts) ≡ outcome line (demands_of Go ts)
unfolding go_entry
go_success line (w ∷ []) = outcome_when line _ _ _ (success-cond (is_go_version (value_of w)) _ _)
go_success line _ = refl

word_success : (line : ℕ) (ts : List Symbol) → success (word_entry line ts) ≡ outcome line (any_demands ts)
unfolding word_entry
word_success line (w ∷ []) = outcome_when line _ _ _ refl
word_success line _ = refl

retract_success : (line : ℕ) (ts : List Symbol) → success (retract_entry line ts) ≡ outcome line (demands_of Retract ts)
unfolding retract_entry
retract_success line (v ∷ []) = outcome_when line _ _ _ (success-keeps (version_word line v) _ ∙ version_success line v)
retract_success line (l ∷ v ∷ c ∷ w ∷ r ∷ []) =
    outcome_when line _ _ _ (interval_success line v w)
retract_success line _ = refl

-- an entry is computed to be what its shape asks
pub entry_success : (line : ℕ) (k : Keyword) (ts : List Symbol)
    → success (entry line k ts) ≡ outcome line (demands_of k ts)
unfolding entry
entry_success line Module ts = success-keeps (module_entry line ts) _ ∙ module_success line ts
entry_success line Go ts = success-keeps (go_entry line ts) _ ∙ go_success line ts
entry_success line Toolchain ts = success-keeps (word_entry line ts) _ ∙ word_success line ts
entry_success line Require ts = success-keeps (pair_entry line ts) _ ∙ pair_entry_success line ts
entry_success line Exclude ts = success-keeps (pair_entry line ts) _ ∙ pair_entry_success line ts
    ∙ ap (outcome line) (exclude_same ts)
entry_success line Replace ts = success-keeps (replace_entry line ts) _ ∙ replace_success line ts
entry_success line Retract ts = success-keeps (retract_entry line ts) _ ∙ retract_success line ts
entry_success line Tool ts = success-keeps (word_entry line ts) _ ∙ word_success line ts
entry_success line Godebug ts = success-keeps (word_entry line ts) _ ∙ word_success line ts
entry_success line Ignore ts = success-keeps (word_entry line ts) _ ∙ word_success line ts
