-- The computed meaning of an entry is the meaning of its words.
use Rattle.std.proofs.Common.{◌≡◌, ℕ, Bool, true, ◌&&◌, cond, List, [], ◌∷◌, refl, ap, sym, ◌∙◌, subst, Option, Some}
use Rattle.std.proofs.Common.{None, Ok, Err, inl, inr, ⊎_elim}
use Rattle.gomod.specs.declared.keyword.Keyword.{Keyword}
use Rattle.gomod.specs.declared.keyword.Keyword.TheVariants.{Module, Go, Toolchain, Require, Exclude, Replace, Retract}
use Rattle.gomod.specs.declared.keyword.Keyword.TheVariants.{Tool, Godebug, Ignore}
use Rattle.gomod.specs.declared.fault.GoModFault.TheVariants as faults
use Rattle.gomod.specs.declared.entries.Requirement.{Requirement}
use Rattle.gomod.specs.declared.entries.Retraction.{Retraction}
use Rattle.gomod.specs.Paths.{Version, is_path, is_loose_path, version_of, fits_path, is_below}
use Rattle.modlex.specs.Symbols.{Symbol, is_word}
use Rattle.modlex.specs.Words.{value_of}
use Rattle.gomod.specs.Reading.{interval_of, Contents, nothing, ◌>>=◌, version_found, path_word, version_word}
use Rattle.gomod.specs.Reading.{fitting_word, pair, module_entry}
use Rattle.gomod.specs.Reading.{go_entry, word_entry, pair_entry, replace_entry, interval, retract_entry}
use Rattle.gomod.specs.Reading.{are_interval_kinds, entry}
use Rattle.gomod.specs.GoVersion.{is_go_version}
use Rattle.gomod.specs.Entries.{IsModuleEntry, IsGoEntry, IsPair, IsRetractEntry}
use Rattle.gomod.specs.Grammar.{Row, row, Item, item, entries_under}
use Rattle.gomod.specs.Reads.{Pointwise}
use Rattle.modlex.proofs.TokenSound.{chosen}
use Rattle.gomod.proofs.Steps.{guarded, bound, ok_same}

-- a retraction is that of an entry and has its line
abbrev pub IsRetractEntryAt : Row → Retraction → Type 0
IsRetractEntryAt e r = (r.line ≡ e.line) × IsRetractEntry e.symbols (interval_of r)

abbrev pub path_list : Option (List ℕ) → List (List ℕ)
path_list None = []
path_list (Some path) = path ∷ []

-- these contents are the meaning of the entries
pub record AreMeant (is : List Item) (p : Contents) : Type 0 where
  pub paths : Pointwise (λ e x. IsModuleEntry e.symbols x) (entries_under Module is) (path_list p.module_path)
  pub go : Pointwise (λ e v. IsGoEntry e.symbols v) (entries_under Go is) p.go
  pub required : Pointwise (λ e r. IsPair e.symbols r) (entries_under Require is) p.required
  pub retractions : Pointwise IsRetractEntryAt (entries_under Retract is) p.retractions

path_is : (line : ℕ) (passes : List ℕ → Bool) (w : Symbol) (path : List ℕ) → path_word line passes w ≡ Ok path
    → value_of w ≡ path
path_is line passes w path h =
    ⊎_elim (λ x. ok_same _ _ x.1) (λ x. (let e = x.1 in cc)) (chosen (passes (value_of w)) _ _ _ h)

found_is : (line : ℕ) (o : Option Version) (v : Version) → version_found line o ≡ Ok v → o ≡ Some v
found_is line None v h = cc
found_is line (Some x) v h = ap (λ y. Some y) (ok_same x v h)

fitting_is : (line : ℕ) (path : List ℕ) (w : Symbol) (v : Version) → fitting_word line path w ≡ Ok v
    → version_of (value_of w) ≡ Some v
unfolding fitting_word
fitting_is line path w v h =
    let b = bound (version_word line w) (λ x. cond (fits_path path x) (Ok x) (Err (faults.Version line))) v h in
    ⊎_elim
    (λ x. found_is line (version_of (value_of w)) b.0 b.1 ∙ ap (λ y. Some y) (ok_same b.0 v x.1))
    (λ x. (let e = x.1 in cc))
    (chosen (fits_path path b.0) _ _ _ b.2)

module_means : (line : ℕ) (ts : List Symbol) (path : List ℕ) → module_entry line ts ≡ Ok path → IsModuleEntry ts path
unfolding module_entry
module_means line (w ∷ []) path h =
    ⊎_elim (λ x. (w, refl, path_is line is_path w path x.1)) (λ x. (let e = x.1 in cc)) (chosen (is_word w) _ _ _ h)
module_means line _ path h = cc

go_means : (line : ℕ) (ts : List Symbol) (version : List ℕ) → go_entry line ts ≡ Ok version → IsGoEntry ts version
unfolding go_entry
go_means line (w ∷ []) version h =
    ⊎_elim
    (λ x. ⊎_elim
    (λ y. let same = ok_same _ _ y.1 in (w, refl, same, subst (λ v. is_go_version v ≡ true) same y.0))
    (λ y. (let e = y.1 in cc))
    (chosen (is_go_version (value_of w)) _ _ _ x.1))
    (λ x. (let e = x.1 in cc))
    (chosen (is_word w) _ _ _ h)
go_means line _ version h = cc

pair_means : (line : ℕ) (p v : Symbol) (r : Requirement) → pair line p v ≡ Ok r → IsPair (p ∷ v ∷ []) r
unfolding pair
pair_means line p v r h =
    let a = bound (path_word line is_loose_path p)
    (λ path. fitting_word line path v >>= (λ version. Ok (record { path = path; version = version }))) r h in
    let b = bound (fitting_word line a.0 v) (λ version. Ok (record { path = a.0; version = version })) r a.2 in
    let same = ok_same _ _ b.2 in (
      p,
      v,
      refl,
      path_is line is_loose_path p a.0 a.1 ∙ ap (λ q. q.path) same,
      fitting_is line a.0 v b.0 b.1
          ∙ ap (λ q. Some q.version) same,
    )

pair_entry_means : (line : ℕ) (ts : List Symbol) (r : Requirement) → pair_entry line ts ≡ Ok r → IsPair ts r
unfolding pair_entry
pair_entry_means line (p ∷ v ∷ []) r h =
    pair_means line p v r (guarded (is_word p && is_word v) (pair line p v) (faults.Grammar line) r h).1
pair_entry_means line _ r h = cc

-- the retraction read from a bracket, two words, a comma and a bracket is the interval that the line names
interval_means : (line : ℕ) (l v c w r : Symbol) (i : Retraction) → interval line v w ≡ Ok i
    → IsRetractEntryAt (row line (l ∷ v ∷ c ∷ w ∷ r ∷ [])) i
unfolding interval
interval_means line l v c w r i h =
    let a = bound (version_word line v)
    (λ low. version_word line w >>=
    (λ high. cond (is_below high low) (Err (faults.Interval line))
    (Ok (record { line = line; versions = record { low = low; high = high } })))) i h in
    let b = bound (version_word line w)
    (λ high. cond (is_below high a.0) (Err (faults.Interval line))
    (Ok (record { line = line; versions = record { low = a.0; high = high } }))) i a.2 in
    ⊎_elim
    (λ x. (let e = x.1 in cc))
    (λ x.
    let same = ok_same _ _ x.1 in (
      ap (λ q. q.line) (sym same),
      inr (
        l,
        v,
        c,
        w,
        r,
        refl,
        found_is line _ a.0 a.1 ∙ ap (λ q. Some q.versions.low) same,
        found_is line _ b.0 b.1
            ∙ ap (λ q. Some q.versions.high) same,
      ),
    ))
    (chosen (is_below b.0 a.0) _ _ _ b.2)

-- the retraction read from an entry of retract is the interval that the line names
retract_means : (line : ℕ) (ts : List Symbol) (i : Retraction) → retract_entry line ts ≡ Ok i
    → IsRetractEntryAt (row line ts) i
unfolding retract_entry
retract_means line (v ∷ []) i h =
    ⊎_elim
    (λ x.
    let b = bound (version_word line v)
    (λ version. Ok (record { line = line; versions = record { low = version; high = version } })) i x.1 in
    let same = ok_same _ _ b.2 in
    let found = found_is line _ b.0 b.1 in (
      ap (λ q. q.line) (sym same),
      inl (v, refl, found ∙ ap (λ q. Some q.versions.low) same, found ∙ ap (λ q. Some q.versions.high) same),
    ))
    (λ x. (let e = x.1 in cc))
    (chosen (is_word v) _ _ _ h)
retract_means line (l ∷ v ∷ c ∷ w ∷ r ∷ []) i h =
    interval_means line l v c w r i
    (guarded (are_interval_kinds l.kind v.kind c.kind w.kind r.kind) (interval line v w) (faults.Grammar line) i
    h).1
retract_means line _ i h = cc

-- these contents are the meaning of an entry, which leaves a file bare
abbrev Entry : ℕ → Keyword → List Symbol → Contents → Type 0
Entry line k ts q = AreMeant (item k (row line ts) ∷ []) q × (q.bare ≡ true)

-- the contents computed of an entry are its meaning
pub entry_means : (line : ℕ) (k : Keyword) (ts : List Symbol) (q : Contents) → entry line k ts ≡ Ok q
    → Entry line k ts q
unfolding entry
entry_means line Module ts q h =
    let b = bound (module_entry line ts)
    (λ p. Ok (record { module_path = Some p; go = []; required = []; retractions = []; bare = true })) q h in
    subst (Entry line Module ts) (ok_same _ q b.2)
    (record { paths = (module_means line ts b.0 b.1, tt); go = tt; required = tt; retractions = tt }, refl)
entry_means line Go ts q h =
    let b = bound (go_entry line ts)
    (λ v. Ok (record { module_path = None; go = v ∷ []; required = []; retractions = []; bare = true })) q h in
    subst (Entry line Go ts) (ok_same _ q b.2)
    (record { paths = tt; go = (go_means line ts b.0 b.1, tt); required = tt; retractions = tt }, refl)
entry_means line Toolchain ts q h =
    let b = bound (word_entry line ts) (λ o. Ok nothing) q h in
    subst (Entry line Toolchain ts) (ok_same _ q b.2)
    (record { paths = tt; go = tt; required = tt; retractions = tt }, refl)
entry_means line Require ts q h =
    let b = bound (pair_entry line ts)
    (λ r. Ok (record { module_path = None; go = []; required = r ∷ []; retractions = []; bare = true })) q h in
    subst (Entry line Require ts) (ok_same _ q b.2)
    (record { paths = tt; go = tt; required = (pair_entry_means line ts b.0 b.1, tt); retractions = tt }, refl)
entry_means line Exclude ts q h =
    let b = bound (pair_entry line ts) (λ r. Ok nothing) q h in
    subst (Entry line Exclude ts) (ok_same _ q b.2)
    (record { paths = tt; go = tt; required = tt; retractions = tt }, refl)
entry_means line Replace ts q h =
    let b = bound (replace_entry line ts) (λ o. Ok nothing) q h in
    subst (Entry line Replace ts) (ok_same _ q b.2)
    (record { paths = tt; go = tt; required = tt; retractions = tt }, refl)
entry_means line Retract ts q h =
    let b = bound (retract_entry line ts)
    (λ r. Ok (record { module_path = None; go = []; required = []; retractions = r ∷ []; bare = true })) q h in
    subst (Entry line Retract ts) (ok_same _ q b.2)
    (record { paths = tt; go = tt; required = tt; retractions = (retract_means line ts b.0 b.1, tt) }, refl)
entry_means line Tool ts q h =
    let b = bound (word_entry line ts) (λ o. Ok nothing) q h in
    subst (Entry line Tool ts) (ok_same _ q b.2) (record { paths = tt; go = tt; required = tt; retractions = tt }, refl)
entry_means line Godebug ts q h =
    let b = bound (word_entry line ts) (λ o. Ok nothing) q h in
    subst (Entry line Godebug ts) (ok_same _ q b.2)
    (record { paths = tt; go = tt; required = tt; retractions = tt }, refl)
entry_means line Ignore ts q h =
    let b = bound (word_entry line ts) (λ o. Ok nothing) q h in
    subst (Entry line Ignore ts) (ok_same _ q b.2)
    (record { paths = tt; go = tt; required = tt; retractions = tt }, refl)
