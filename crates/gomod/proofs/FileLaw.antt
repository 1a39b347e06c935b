-- What is computed of a file is what it says by the grammar, and its fault is its first.
use Rattle.std.proofs.Common.{◌≡◌, ℕ, ◌+◌, ◌<◌, Bool, true, false, ◌&&◌, List, [], ◌∷◌, ◌++◌, map, filter, length, refl}
use Rattle.std.proofs.Common.{ap, sym, ◌∙◌, subst, arith, append-nil, Option, Some, None, Ok, Err, inl, inr, ⊎_elim}
use Rattle.std.proofs.Common.{◌↔◌, IsUtf8}
use Rattle.std.specs.Str.{is_utf8}
use Rattle.std.specs.List.{flat_map, list_all, AllByRecursion}
use Rattle.std.proofs.lemmas.Bool.{cases_Bool, and_parts, and_from, both_ways, false_from_ne_true}
use Rattle.std.proofs.lemmas.Str.{IsUtf8-from_is_utf8, is_utf8-from_IsUtf8}
use Rattle.gomod.specs.declared.keyword.Keyword.{Keyword}
use Rattle.gomod.specs.declared.keyword.Keyword.TheVariants.{Module, Go, Require, Retract}
use Rattle.gomod.specs.declared.fault.GoModFault.{GoModFault}
use Rattle.gomod.specs.declared.fault.GoModFault.TheVariants as faults
use Rattle.gomod.specs.declared.entries.Requirement.{Requirement}
use Rattle.gomod.specs.declared.entries.Retraction.{Retraction}
use Rattle.gomod.specs.Paths.{Version, fits_path}
use Rattle.modlex.specs.Lines.{lines}
use Rattle.modlex.specs.Symbols.{Symbol}
use Rattle.gomod.specs.Keywords.{Keywords, is_module}
use Rattle.modlex.specs.Words.{value_of}
use Rattle.gomod.specs.Module.{GoModule, Interval}
use Rattle.gomod.specs.Entries.{IsModuleEntry, IsGoEntry, IsPair, IsRetractEntry, NamesVersion}
use Rattle.gomod.specs.Grammar.{Row, Directive, OpenBlock, Item, items_of, keyword_of, keywords_in, items, is_keyword}
use Rattle.gomod.specs.Grammar.{entries_under, AreWritten}
use Rattle.gomod.specs.Reads.{Pointwise, FitsPath, Reads, rows_of_tokens}
use Rattle.gomod.specs.Faults.{HasFirstFault, IsFirstUnfit, IsLastFault, Faulty}
use Rattle.gomod.specs.FileLaws.{ReadsOrIsFaulty}
use Rattle.gomod.specs.Reading.{interval_of, Context, Contents, nothing, at_start, ◌⊕◌, ◌>>=◌, bytes_say, lines_say}
use Rattle.gomod.specs.Reading.{fits_retraction, first_unfit, fitting_module, module_of, file_says, text_says, reading}
use Rattle.modlex.proofs.TokenSound.{chosen}
use Rattle.gomod.proofs.Bools.{or_none}
use Rattle.gomod.proofs.Steps.{bound, fails, ok_same, err_same, ok_err, ok_or_err}
use Rattle.gomod.proofs.Contexts.{context_at, stands, module_same, written-alone}
use Rattle.gomod.proofs.EntryMeaning.{IsRetractEntryAt, AreMeant, path_list}
use Rattle.gomod.proofs.LineTokens.{fault_bytes}
use Rattle.gomod.proofs.Appends.{joined, lines_say-append}
use Rattle.gomod.proofs.Pass.{join_start}
use Rattle.gomod.proofs.Above.{Above, above_start, above_lines, above_fault, Next, computed, none_entries}

-- ---- an entry has one meaning

tail_same : (a b : Symbol) (xs ys : List Symbol) → a ∷ xs ≡ b ∷ ys → (a ≡ b) × (xs ≡ ys)
tail_same a b xs ys h = (cc, cc)

path_same : (ts : List Symbol) (p q : List ℕ) → IsModuleEntry ts p → IsModuleEntry ts q → p ≡ q
path_same ts p q h k =
    let same = tail_same h.0 k.0 [] [] (sym h.1 ∙ k.1) in
    sym h.2 ∙ ap value_of same.0 ∙ k.2

go_same : (ts : List Symbol) (u v : List ℕ) → IsGoEntry ts u → IsGoEntry ts v → u ≡ v
go_same ts u v h k =
    let same = tail_same h.0 k.0 [] [] (sym h.1 ∙ k.1) in
    sym h.2 ∙ ap value_of same.0 ∙ k.2

version_same : (text : List ℕ) (u v : Version) → NamesVersion text u → NamesVersion text v → u ≡ v
version_same text u v h k = let e = sym h ∙ k in cc

pair_same : (ts : List Symbol) (r s : Requirement) → IsPair ts r → IsPair ts s → r ≡ s
pair_same ts r s h k =
    let first = tail_same h.0 k.0 (h.1 ∷ []) (k.1 ∷ []) (sym h.2 ∙ k.2) in
    let second = tail_same h.1 k.1 [] [] first.1 in
    let path = sym h.3 ∙ ap value_of first.0 ∙ k.3 in
    let version = version_same (value_of h.1) r.version s.version h.4
    (subst (λ w. NamesVersion (value_of w) s.version) (sym second.0) k.4) in
    λ i. record { path = path i; version = version i }

-- an interval by its two words
abbrev Ends : List ℕ → List ℕ → Interval → Type 0
Ends low high i = NamesVersion low i.low × NamesVersion high i.high

ends_same : (low high : List ℕ) (i j : Interval) → Ends low high i → Ends low high j → i ≡ j
ends_same low high i j h k =
    let a = version_same low i.low j.low h.0 k.0 in
    let b = version_same high i.high j.high h.1 k.1 in
    λ x. record { low = a x; high = b x }

retract_one : (v : Symbol) (i : Interval) → IsRetractEntry (v ∷ []) i → Ends (value_of v) (value_of v) i
retract_one v i h =
    ⊎_elim
    (λ x.
    let same = tail_same v x.0 [] [] x.1 in (
      subst (λ w. NamesVersion (value_of w) i.low) (sym same.0) x.2,
      subst (λ w. NamesVersion (value_of w) i.high) (sym same.0) x.3,
    ))
    (λ x. (let bad = x.5 in cc))
    h

-- an interval named by five tokens ends at the versions of the second and the fourth
retract_two : (l v c w r : Symbol) (i : Interval) → IsRetractEntry (l ∷ v ∷ c ∷ w ∷ r ∷ []) i
    → Ends (value_of v) (value_of w) i
retract_two l v c w r i h =
    ⊎_elim
    (λ x. (let bad = x.1 in cc))
    (λ x.
    let first = tail_same l x.0 (v ∷ c ∷ w ∷ r ∷ []) (x.1 ∷ x.2 ∷ x.3 ∷ x.4 ∷ []) x.5 in
    let second = tail_same v x.1 (c ∷ w ∷ r ∷ []) (x.2 ∷ x.3 ∷ x.4 ∷ []) first.1 in
    let third = tail_same c x.2 (w ∷ r ∷ []) (x.3 ∷ x.4 ∷ []) second.1 in
    let fourth = tail_same w x.3 (r ∷ []) (x.4 ∷ []) third.1 in (
      subst (λ u. NamesVersion (value_of u) i.low) (sym second.0) x.6,
      subst (λ u. NamesVersion (value_of u) i.high) (sym fourth.0) x.7,
    ))
    h

retract_same : (ts : List Symbol) (i j : Interval) → IsRetractEntry ts i → IsRetractEntry ts j → i ≡ j
retract_same ts i j h k =
    ⊎_elim
    (λ x. ends_same (value_of x.0) (value_of x.0) i j (x.2, x.3)
    (retract_one x.0 j (subst (λ us. IsRetractEntry us j) x.1 k)))
    (λ x. ends_same (value_of x.1) (value_of x.3) i j (x.6, x.7)
    (retract_two x.0 x.1 x.2 x.3 x.4 j (subst (λ us. IsRetractEntry us j) x.5 k)))
    h

pointwise_same : {A B : Type 0} (R : A → B → Type 0) → ((a : A) (x y : B) → R a x → R a y → x ≡ y)
    → (es : List A) (xs ys : List B) → Pointwise R es xs → Pointwise R es ys → xs ≡ ys
pointwise_same R only [] [] [] h k = refl
pointwise_same R only [] [] (y ∷ ys) h k = absurd k
pointwise_same R only [] (x ∷ xs) ys h k = absurd h
pointwise_same R only (a ∷ es) [] ys h k = absurd h
pointwise_same R only (a ∷ es) (x ∷ xs) [] h k = absurd k
pointwise_same R only (a ∷ es) (x ∷ xs) (y ∷ ys) h k =
    let here = only a x y h.0 k.0 in let more = pointwise_same R only es xs ys h.1 k.1 in
    λ i. here i ∷ more i

-- without their lines
pub only_intervals : (es : List Row) (rs : List Retraction) → Pointwise IsRetractEntryAt es rs
    → Pointwise (λ e i. IsRetractEntry e.symbols i) es (map interval_of rs)
only_intervals [] [] h = tt
only_intervals [] (r ∷ rs) h = absurd h
only_intervals (e ∷ es) [] h = absurd h
only_intervals (e ∷ es) (r ∷ rs) h = (h.0.1, only_intervals es rs h.1)

-- ---- retractions that fit

fits_all : (path : List ℕ) (rs : List Retraction) → first_unfit path rs ≡ None
    → AllByRecursion (FitsPath path) (map interval_of rs)
fits_all path [] h = tt
fits_all path (r ∷ rs) h =
    ⊎_elim
    (λ x. (and_parts (fits_path path r.versions.low) (fits_path path r.versions.high) x.0, fits_all path rs x.1))
    (λ x. (let bad = x.1 in cc))
    (chosen (fits_retraction path r) _ _ _ h)

all_fit : (path : List ℕ) (rs : List Retraction) → AllByRecursion (FitsPath path) (map interval_of rs)
    → first_unfit path rs ≡ None
all_fit path [] h = refl
all_fit path (r ∷ rs) h = let here =
    and_from (fits_path path r.versions.low) (fits_path path r.versions.high) h.0.0 h.0.1 in
    rw here (all_fit path rs h.1)

-- the first unfit retraction of a list stays the first if a fitting retraction is put before it
unfit_behind : (path : List ℕ) (e : Row) (i : Interval) (es : List Row) (line : ℕ) → IsRetractEntry e.symbols i
    → FitsPath path i → IsFirstUnfit path es line → IsFirstUnfit path (e ∷ es) line
unfit_behind path e i es line interval fits u = record {
  before = e ∷ u.before;
  unfit = u.unfit;
  others = u.others;
  split = ap (λ l. e ∷ l) u.split;
  fitting = ((i, interval, fits), u.fitting);
  interval = u.interval;
  is = u.is;
  misfit = u.misfit;
  position = u.position;
}

-- the line found by the search of an unfit retraction is that of the first unfit retraction
unfit_from : (path : List ℕ) (es : List Row) (rs : List Retraction) (line : ℕ) → Pointwise IsRetractEntryAt es rs
    → first_unfit path rs ≡ Some line → IsFirstUnfit path es line
unfit_from path [] [] line h k = cc
unfit_from path [] (r ∷ rs) line h k = absurd h
unfit_from path (e ∷ es) [] line h k = absurd h
unfit_from path (e ∷ es) (r ∷ rs) line h k =
    ⊎_elim
    (λ x. unfit_behind path e (interval_of r) es line h.0.1
    (and_parts (fits_path path r.versions.low) (fits_path path r.versions.high) x.0)
    (unfit_from path es rs line h.1 x.1))
    (λ x. record {
      before = [];
      unfit = e;
      others = es;
      split = refl;
      fitting = tt;
      interval = interval_of r;
      is = h.0.1;
      misfit = λ fits. both_ways (fits_retraction path r) x.0
          (and_from (fits_path path r.versions.low) (fits_path path r.versions.high) fits.0 fits.1);
      position = (let same : r.line ≡ line = (let e = x.1 in cc) in sym same ∙ h.0.0);
    })
    (chosen (fits_retraction path r) _ _ _ k)

-- the search of an unfit retraction finds the line of the first one
unfit_at : (path : List ℕ) (before : List Row) (u : Row) (others : List Row) (rs : List Retraction)
    (interval : Interval) → Pointwise IsRetractEntryAt (before ++ u ∷ others) rs
    → AllByRecursion (λ e. (i : Interval) × IsRetractEntry e.symbols i × FitsPath path i) before
    → IsRetractEntry u.symbols interval → ¬ FitsPath path interval → first_unfit path rs ≡ Some u.line
unfit_at path [] u others [] interval h fit is misfit = absurd h
unfit_at path [] u others (r ∷ rs) interval h fit is misfit =
    let same = retract_same u.symbols (interval_of r) interval h.0.1 is in
    let unfit : fits_retraction path r ≡ false =
    false_from_ne_true (fits_retraction path r)
    (λ e. misfit (subst (FitsPath path) same
    (and_parts (fits_path path r.versions.low) (fits_path path r.versions.high) e))) in
    rw unfit (ap (λ n. Some n) h.0.0)
unfit_at path (b ∷ before) u others [] interval h fit is misfit = absurd h
unfit_at path (b ∷ before) u others (r ∷ rs) interval h fit is misfit =
    let same = retract_same b.symbols fit.0.0 (interval_of r) fit.0.1 h.0.1 in
    let fits = subst (FitsPath path) same fit.0.2 in
    let here : fits_retraction path r ≡ true =
    and_from (fits_path path r.versions.low) (fits_path path r.versions.high) fits.0 fits.1 in
    rw here (unfit_at path before u others rs interval h.1 fit.1 is misfit)

unfit_is : (path : List ℕ) (es : List Row) (rs : List Retraction) (line : ℕ) → Pointwise IsRetractEntryAt es rs
    → IsFirstUnfit path es line → first_unfit path rs ≡ Some line
unfit_is path es rs line h u =
    unfit_at path u.before u.unfit u.others rs u.interval (subst (λ l. Pointwise IsRetractEntryAt l rs) u.split h)
    u.fitting u.is u.misfit ∙ ap (λ n. Some n) (sym u.position)

-- ---- bare files

all_modules : (ks : List Keyword) → list_all is_module ks ≡ true → filter (is_keyword Module) ks ≡ ks
all_modules [] h = refl
all_modules (k ∷ ks) h =
    let both = and_parts (is_module k) (list_all is_module ks) h in
    let here : is_keyword Module k ≡ true = module_same k ∙ both.0 in
    rw here (ap (λ l. k ∷ l) (all_modules ks both.1))

keywords_length : (ds : List Directive) → length (map keyword_of ds ++ []) ≡ length ds
keywords_length [] = refl
keywords_length (d ∷ ds) = let more = keywords_length ds in omega (arith, more)

stands_some : (ds : List Directive) → stands Module ds ≡ true → 0 < length ds
stands_some [] h = cc
stands_some (d ∷ ds) h = omega arith

one_module : (ds : List Directive) → stands Module ds ≡ true → length ds ≡ 1
    → list_all is_module (map keyword_of ds ++ []) ≡ true
one_module [] h len = absurd (omega (arith, len))
one_module (d ∷ []) h len =
    ap (λ b. b && true) (sym (module_same (keyword_of d)) ∙ sym (or_none (is_keyword Module (keyword_of d))) ∙ h)
one_module (d ∷ e ∷ ds) h len = absurd (omega (arith, len))

bare_file : (known : Keywords) (rows : List Row) (ds : List Directive) → AreWritten known rows ds None
    → stands Module ds ≡ true → (list_all is_module (keywords_in ds None) ≡ true) ↔ (length ds ≡ 1)
bare_file known rows ds w there = (
  λ all. (let few = w.single Module refl in
      omega (arith, few, ap length (all_modules (keywords_in ds None) all), keywords_length ds, stands_some ds there)),
  λ one. one_module ds there one,
)

module_stands : (ds : List Directive) (path : List ℕ)
    → Pointwise (λ e p. IsModuleEntry e.symbols p) (entries_under Module (items ds None)) (path ∷ [])
    → stands Module ds ≡ true
module_stands ds path h =
    ⊎_elim
    (λ yes. yes)
    (λ no. (
    let none : entries_under Module (items ds None) ≡ [] = ap (entries_under Module) (append-nil (flat_map items_of ds))
    ∙ none_entries Module ds no in
    absurd (subst (λ l. Pointwise (λ e p. IsModuleEntry e.symbols p) l (path ∷ [])) none h)
    ))
    (cases_Bool (stands Module ds))

-- ---- the end of a file

path_some : (o : Option (List ℕ)) (path : List ℕ) → path_list o ≡ path ∷ [] → o ≡ Some path
path_some None path h = cc
path_some (Some p) path h = let same : p ≡ path = cc in ap (λ x. Some x) same

empty_pointwise : {A B : Type 0} (R : A → B → Type 0) (es : List A) → Pointwise R es [] → es ≡ []
empty_pointwise R [] h = refl
empty_pointwise R (e ∷ es) h = absurd h

no_path : (o : Option (List ℕ)) (es : List Row) → es ≡ []
    → Pointwise (λ e p. IsModuleEntry e.symbols p) es (path_list o) → o ≡ None
no_path None es none h = refl
no_path (Some p) es none h = absurd (subst (λ l. Pointwise (λ e q. IsModuleEntry e.symbols q) l (p ∷ [])) none h)

-- a file whose lines, path and retractions pass is read by the grammar as what was computed
reads_fitting : (known : Keywords) (bytes : List ℕ) (ds : List Directive) (p : Contents) (path : List ℕ) (m : GoModule)
    (u : Option ℕ) → IsUtf8 bytes
    → Above known (lines bytes) ds None p → p.module_path ≡ Some path → first_unfit path p.retractions ≡ u
    → fitting_module path p u ≡ Ok m → Reads known bytes m
reads_fitting known bytes ds p path m (Some line) utf8 a is unfit h = cc
reads_fitting known bytes ds p path m None utf8 a is unfit h =
    let paths = subst (λ o. Pointwise (λ e x. IsModuleEntry e.symbols x) (entries_under Module (items ds None))
    (path_list o)) is a.meant.paths in
    let bare = bare_file known (rows_of_tokens a.read.tokens) ds a.read.grammar (module_stands ds path paths) in
    subst (Reads known bytes) (ok_same _ m h)
    (record {
      utf8 = utf8;
      tokens = a.read.tokens;
      lexemes = a.read.lexemes;
      directives = ds;
      grammar = a.read.grammar;
      path = paths;
      go = a.meant.go;
      required = a.meant.required;
      retractions = only_intervals (entries_under Retract (items ds None)) p.retractions a.meant.retractions;
      fitting = fits_all path p.retractions unfit;
      bare = (λ b. bare.0 (sym a.bare ∙ b), λ one. a.bare ∙ bare.1 one);
    })

reads_by : (known : Keywords) (bytes : List ℕ) (ds : List Directive) (p : Contents) (m : GoModule) (o : Option (List ℕ))
    → IsUtf8 bytes → Above known (lines bytes) ds None p → p.module_path ≡ o → module_of p o ≡ Ok m
    → Reads known bytes m
reads_by known bytes ds p m None utf8 a is h = cc
reads_by known bytes ds p m (Some path) utf8 a is h =
    reads_fitting known bytes ds p path m (first_unfit path p.retractions) utf8 a is refl h

reads_file : (known : Keywords) (bytes : List ℕ) (ds : List Directive) (o : Option OpenBlock) (p : Contents)
    (m : GoModule) (last : ℕ)
    → IsUtf8 bytes → Above known (lines bytes) ds o p → file_says last (context_at ds o, p) ≡ Ok m → Reads known bytes m
unfolding file_says
reads_file known bytes ds None p m last utf8 a h = reads_by known bytes ds p m p.module_path utf8 a refl h
reads_file known bytes ds (Some b) p m last utf8 a h = cc

-- the file with these bytes, by what is computed of all its lines
next_of : (known : Keywords) (ls : List (List ℕ)) (x : Context × Contents) → lines_say known 1 at_start ls ≡ Ok x
    → Next known ls x.0 x.1
next_of known ls x h =
    let n = above_lines known ls [] [] None nothing x (above_start known) h in
    subst (Next known ls x.0) (join_start x.1) n

-- the computed meaning of a file is its meaning by the grammar
pub reads-from_reading : (known : Keywords) (bytes : List ℕ) (m : GoModule) → reading known bytes ≡ Ok m
    → Reads known bytes m
unfolding reading text_says
reads-from_reading known bytes m h =
    ⊎_elim
    (λ text.
    let b = bound (lines_say known 1 at_start (lines bytes)) (file_says (length (lines bytes))) m text.1 in
    let n = next_of known (lines bytes) b.0 b.1 in
    reads_file known bytes n.directives n.opened b.0.1 m (length (lines bytes)) (IsUtf8-from_is_utf8 bytes text.0)
    n.above
    (ap (λ c. file_says (length (lines bytes)) (c, b.0.1)) (sym n.context) ∙ b.2))
    (λ bad. (let e = bad.1 in cc))
    (chosen (is_utf8 bytes) _ _ _ h)

same_truth : (P : Type 0) (a b : Bool) → ((a ≡ true) ↔ P) → ((b ≡ true) ↔ P) → a ≡ b
same_truth P true true h k = refl
same_truth P true false h k = let e = k.1 (h.0 refl) in cc
same_truth P false true h k = let e = h.1 (k.0 refl) in cc
same_truth P false false h k = refl

text_of : (known : Keywords) (bytes : List ℕ) → IsUtf8 bytes → reading known bytes ≡ text_says known bytes
unfolding reading
text_of known bytes utf8 = let test = is_utf8-from_IsUtf8 bytes utf8 in rw test refl

said_file : (known : Keywords) (bytes : List ℕ) (c : Context) (p : Contents)
    → lines_say known 1 at_start (lines bytes) ≡ Ok (c, p)
    → text_says known bytes ≡ file_says (length (lines bytes)) (c, p)
unfolding text_says
said_file known bytes c p h = ap (λ r. r >>= file_says (length (lines bytes))) h

closed_file : (last : ℕ) (ds : List Directive) (p : Contents)
    → file_says last (context_at ds None, p) ≡ module_of p p.module_path
unfolding file_says
closed_file last ds p = refl

open_file : (last : ℕ) (ds : List Directive) (b : OpenBlock) (p : Contents)
    → file_says last (context_at ds (Some b), p) ≡ Err (faults.Grammar last)
unfolding file_says
open_file last ds b p = refl

-- the meaning of a file by the grammar is its computed meaning
pub reading-from_reads : (known : Keywords) (bytes : List ℕ) (m : GoModule) → Reads known bytes m
    → reading known bytes ≡ Ok m
reading-from_reads known bytes m r =
    let c = computed known (lines bytes) r.directives None
    (record { tokens = r.tokens; lexemes = r.lexemes; grammar = r.grammar }) in
    let is : List Item = items r.directives None in
    let paths = pointwise_same (λ (e : Row) (x : List ℕ). IsModuleEntry e.symbols x)
    (λ e x y h k. path_same e.symbols x y h k) (entries_under Module is) (path_list c.contents.module_path)
    (m.path ∷ []) c.above.meant.paths r.path in
    let go = pointwise_same (λ (e : Row) (x : List ℕ). IsGoEntry e.symbols x)
    (λ e x y h k. go_same e.symbols x y h k) (entries_under Go is) c.contents.go m.go c.above.meant.go r.go in
    let required = pointwise_same (λ (e : Row) (x : Requirement). IsPair e.symbols x)
    (λ e x y h k. pair_same e.symbols x y h k) (entries_under Require is) c.contents.required m.required
    c.above.meant.required r.required in
    let intervals = pointwise_same (λ (e : Row) (x : Interval). IsRetractEntry e.symbols x)
    (λ e x y h k. retract_same e.symbols x y h k) (entries_under Retract is)
    (map interval_of c.contents.retractions) m.retractions
    (only_intervals (entries_under Retract is) c.contents.retractions c.above.meant.retractions) r.retractions in
    let path = path_some c.contents.module_path m.path paths in
    let fits = all_fit m.path c.contents.retractions
    (subst (AllByRecursion (FitsPath m.path)) (sym intervals) r.fitting) in
    let bare = bare_file known (rows_of_tokens c.above.read.tokens) r.directives c.above.read.grammar
    (module_stands r.directives m.path r.path) in
    let truth = same_truth (length r.directives ≡ 1) c.contents.bare m.bare
    (λ b. bare.0 (sym c.above.bare ∙ b), λ one. c.above.bare ∙ bare.1 one) r.bare in
    text_of known bytes r.utf8
    ∙ said_file known bytes (context_at r.directives None) c.contents c.said
    ∙ closed_file (length (lines bytes)) r.directives c.contents
    ∙ ap (module_of c.contents) path
    ∙ ap (fitting_module m.path c.contents) fits
    ∙ ap (λ x. Ok x) (λ i. record {
      path = m.path;
      go = go i;
      required = required i;
      retractions = intervals i;
      bare = truth i;
    })

-- ---- faults

last_fitting : (ds : List Directive) (p : Contents) (last : ℕ) (path : List ℕ) (f : GoModFault) (u : Option ℕ)
    → AreMeant (items ds None) p
    → p.module_path ≡ Some path → first_unfit path p.retractions ≡ u → fitting_module path p u ≡ Err f
    → IsLastFault ds None last f
last_fitting ds p last path f None meant is unfit h = cc
last_fitting ds p last path f (Some line) meant is unfit h =
    let paths = subst (λ o. Pointwise (λ e x. IsModuleEntry e.symbols x) (entries_under Module (items ds None))
    (path_list o)) is meant.paths in
    inr (
      path,
      paths,
      (
        line,
        unfit_from path (entries_under Retract (items ds None)) p.retractions line meant.retractions unfit,
        cc,
      ),
    )

last_by : (ds : List Directive) (p : Contents) (last : ℕ) (f : GoModFault) (o : Option (List ℕ))
    → AreMeant (items ds None) p → p.module_path ≡ o → module_of p o ≡ Err f → IsLastFault ds None last f
last_by ds p last f None meant is h =
    inl (
      empty_pointwise (λ e x. IsModuleEntry e.symbols x) (entries_under Module (items ds None))
          (subst (λ o. Pointwise (λ e x. IsModuleEntry e.symbols x) (entries_under Module (items ds None))
          (path_list o)) is meant.paths),
      cc,
    )
last_by ds p last f (Some path) meant is h =
    last_fitting ds p last path f (first_unfit path p.retractions) meant is refl h

last_fault : (ds : List Directive) (o : Option OpenBlock) (p : Contents) (last : ℕ) (f : GoModFault)
    → AreMeant (items ds o) p → file_says last (context_at ds o, p) ≡ Err f → IsLastFault ds o last f
last_fault ds None p last f meant h = last_by ds p last f p.module_path meant refl (sym (closed_file last ds p) ∙ h)
last_fault ds (Some b) p last f meant h = let e = sym (open_file last ds b p) ∙ h in cc

-- the computed fault of a file is its first fault
pub faulty-from_reading : (known : Keywords) (bytes : List ℕ) (f : GoModFault) → reading known bytes ≡ Err f
    → Faulty known bytes f
unfolding reading text_says
faulty-from_reading known bytes f h =
    ⊎_elim
    (λ text. inr (
      IsUtf8-from_is_utf8 bytes text.0,
      ⊎_elim
          (λ e. inl (above_fault known (lines bytes) [] [] None nothing f (above_start known) e))
          (λ x.
          let n = next_of known (lines bytes) x.0 x.1 in
          inr (record {
            directives = n.directives;
            opened = n.opened;
            above = n.above.read;
            fault = last_fault n.directives n.opened x.0.1 (length (lines bytes)) f n.above.meant
                (ap (λ c. file_says (length (lines bytes)) (c, x.0.1)) (sym n.context) ∙ x.2);
          }))
          (fails (lines_say known 1 at_start (lines bytes)) (file_says (length (lines bytes))) f text.1),
    ))
    (λ bad. inl (λ utf8. both_ways (is_utf8 bytes) bad.0 (is_utf8-from_IsUtf8 bytes utf8), (let same = bad.1 in cc)))
    (chosen (is_utf8 bytes) _ _ _ h)

-- if the first fault of lines is that of a line, reading the lines finds it
first_said : (known : Keywords) (ls : List (List ℕ)) (f : GoModFault) → HasFirstFault known ls f
    → lines_say known 1 at_start ls ≡ Err f
first_said known ls f h =
    let c = computed known h.before h.directives h.opened h.above in
    let number : 1 + length h.before ≡ length h.before + 1 = omega arith in
    let here : bytes_say known (1 + length h.before) (context_at h.directives h.opened) h.faulty ≡ Err f =
    ap (λ n. bytes_say known n (context_at h.directives h.opened) h.faulty) number
    ∙ fault_bytes known (length h.before + 1) h.directives h.opened h.faulty f
    (written-alone known (rows_of_tokens h.above.tokens) h.directives h.opened h.above.grammar) h.fault in
    let rest : lines_say known (1 + length h.before) (context_at h.directives h.opened) (h.faulty ∷ h.others) ≡ Err f =
    ap (λ r. r >>= (λ x. lines_say known (1 + length h.before + 1) x.0 h.others >>= (λ y. Ok (y.0, x.1 ⊕ y.1)))) here in
    ap (lines_say known 1 at_start) h.split ∙ lines_say-append known 1 at_start h.before (h.faulty ∷ h.others)
    ∙ ap (λ r. joined r (λ d. lines_say known (1 + length h.before) d (h.faulty ∷ h.others))) c.said
    ∙ ap (λ r. r >>= (λ y. Ok (y.0, c.contents ⊕ y.1))) rest

-- if all lines can be read, the fault after the last line is the fault found there
last_said : (known : Keywords) (ls : List (List ℕ)) (ds : List Directive) (o : Option OpenBlock) (p : Contents)
    (last : ℕ) (f : GoModFault)
    → Above known ls ds o p → IsLastFault ds o last f → file_says last (context_at ds o, p) ≡ Err f
last_said known ls ds (Some b) p last f a h = open_file last ds b p ∙ ap (λ e. Err e) (sym h)
last_said known ls ds None p last f a h =
    closed_file last ds p
    ∙ ⊎_elim
    (λ none. ap (module_of p) (no_path p.module_path (entries_under Module (items ds None)) none.0 a.meant.paths)
    ∙ ap (λ e. Err e) (sym none.1))
    (λ x.
    let paths = pointwise_same (λ (e : Row) (q : List ℕ). IsModuleEntry e.symbols q)
    (λ e q r u v. path_same e.symbols q r u v) (entries_under Module (items ds None)) (path_list p.module_path)
    (x.0 ∷ []) a.meant.paths x.1 in
    ap (module_of p) (path_some p.module_path x.0 paths)
    ∙ ap (fitting_module x.0 p)
    (unfit_is x.0 (entries_under Retract (items ds None)) p.retractions x.2.0 a.meant.retractions x.2.1)
    ∙ ap (λ e. Err e) (sym x.2.2))
    h

no_text : (known : Keywords) (bytes : List ℕ) → ¬ IsUtf8 bytes → reading known bytes ≡ Err faults.Utf8
unfolding reading
no_text known bytes bad = let test = false_from_ne_true (is_utf8 bytes) (λ e. bad (IsUtf8-from_is_utf8 bytes e)) in
    rw test refl

first_text : (known : Keywords) (bytes : List ℕ) (f : GoModFault) → lines_say known 1 at_start (lines bytes) ≡ Err f
    → text_says known bytes ≡ Err f
unfolding text_says
first_text known bytes f h = ap (λ r. r >>= file_says (length (lines bytes))) h

-- the first fault of a file is its computed fault
pub reading-from_faulty : (known : Keywords) (bytes : List ℕ) (f : GoModFault) → Faulty known bytes f
    → reading known bytes ≡ Err f
reading-from_faulty known bytes f h =
    ⊎_elim
    (λ bad. no_text known bytes bad.0 ∙ ap (λ e. Err e) (sym bad.1))
    (λ text. text_of known bytes text.0 ∙ ⊎_elim
    (λ first. first_text known bytes f (first_said known (lines bytes) f first))
    (λ last.
    let c = computed known (lines bytes) last.directives last.opened last.above in
    said_file known bytes (context_at last.directives last.opened) c.contents c.said
    ∙ last_said known (lines bytes) last.directives last.opened c.contents (length (lines bytes)) f c.above last.fault)
    text.1)
    h

-- a file has exactly one meaning or exactly one fault, and not both
pub reads_or_is_faulty : (known : Keywords) (bytes : List ℕ) → ReadsOrIsFaulty known bytes
reads_or_is_faulty known bytes = record {
  either = ⊎_elim
      (λ x. inl (x.0, reads-from_reading known bytes x.0 x.1))
      (λ e. inr (e.0, faulty-from_reading known bytes e.0 e.1))
      (ok_or_err (reading known bytes));
  not_both = λ m f reads faulty.
      ok_err {P = ⊥} (reading known bytes) m f (reading-from_reads known bytes m reads)
      (reading-from_faulty known bytes f faulty);
  one_meaning = λ m n h k. ok_same m n (sym (reading-from_reads known bytes m h) ∙ reading-from_reads known bytes n k);
  one_fault = λ f g h k. err_same {A = GoModule} f g
      (sym (reading-from_faulty known bytes f h) ∙ reading-from_faulty known bytes g k);
}
