-- What stands above a line, by its directives.
use Rattle.std.proofs.Common.{◌≡◌, ℕ, ◌<◌, ◌≤◌, Bool, true, false, not, ◌&&◌, ◌||◌, cond, List, [], ◌∷◌, ◌++◌, map}
use Rattle.std.proofs.Common.{filter, length, refl, ap, sym, ◌∙◌, arith, append-nil, Option, Some, None}
use Rattle.std.specs.List.{list_any}
use Rattle.std.proofs.lemmas.Bool.{and_parts}
use Rattle.std.proofs.lemmas.List.Folds.{list_any-append}
use Rattle.gomod.specs.declared.keyword.Keyword.{Keyword}
use Rattle.gomod.specs.declared.keyword.Keyword.TheVariants.{Module, Go, Toolchain, Require, Exclude, Replace, Retract}
use Rattle.gomod.specs.declared.keyword.Keyword.TheVariants.{Tool, Godebug, Ignore}
use Rattle.gomod.specs.Keywords.{Keywords, is_module, has_block}
use Rattle.gomod.specs.Reading.{Context, is_repeated, once_only_with, with_entry}
use Rattle.gomod.specs.Grammar.{Row, Directive, OpenBlock, keyword_of, is_keyword, is_single, AreWritten}
use Rattle.gomod.specs.Faults.{HasRoom, IsFilled}
use Rattle.gomod.proofs.Bools.{or_none, and_none, and_one}
use Rattle.gomod.proofs.Lists.{map-join, filter-join, none-any, length-join}
use Rattle.gomod.proofs.Moves.{IsFresh, closed, with_row}
use Rattle.gomod.proofs.Written.{same_keyword}

-- whether a directive of the keyword stands above
abbrev pub stands : Keyword → List Directive → Bool
stands k ds = list_any (is_keyword k) (map keyword_of ds)

abbrev pub has_entry : List Row → Bool
has_entry [] = false
has_entry (r ∷ rs) = true

-- the keywords of the directives without blocks
abbrev pub has_no_block : Keyword → Bool
has_no_block k = not (has_block k)

abbrev pub once_only_in : List Directive → List Keyword
once_only_in ds = filter has_no_block (map keyword_of ds)

-- the context behind directives and an open block
abbrev pub context_at : List Directive → Option OpenBlock → Context
context_at ds None = record { block = None; has_module = stands Module ds; once_only = once_only_in ds }
context_at ds (Some b) =
    record {
      block = Some b.keyword;
      has_module = stands Module ds || (is_module b.keyword && has_entry b.entries);
      once_only = once_only_in ds;
    }

-- a keyword is `Module` by both tests or by neither
pub module_same : (k : Keyword) → is_keyword Module k ≡ is_module k
module_same Module = refl
module_same Go = refl
module_same Toolchain = refl
module_same Require = refl
module_same Exclude = refl
module_same Replace = refl
module_same Retract = refl
module_same Tool = refl
module_same Godebug = refl
module_same Ignore = refl

-- a keyword that stands among those without blocks stands, and has no block
any_step : (b c w x : Bool) → (b ≡ true → w ≡ c) → cond c (b || (w && x)) (w && x) ≡ (w && (b || x))
any_step true true w x h = let is = h refl in rw is refl
any_step true false w x h = let is = h refl in rw is refl
any_step false true w x h = refl
any_step false false w x h = refl

any_cond : (k j : Keyword) (js : List Keyword) (c : Bool)
    → list_any (is_keyword k) (cond c (j ∷ js) js)
    ≡ cond c (is_keyword k j || list_any (is_keyword k) js) (list_any (is_keyword k) js)
any_cond k j js true = refl
any_cond k j js false = refl

any_without : (k : Keyword) (ks : List Keyword)
    → list_any (is_keyword k) (filter has_no_block ks) ≡ (has_no_block k && list_any (is_keyword k) ks)
any_without k [] = sym (and_none (has_no_block k))
any_without k (j ∷ js) =
    any_cond k j (filter has_no_block js) (has_no_block j)
    ∙ ap (λ x. cond (has_no_block j) (is_keyword k j || x) x) (any_without k js)
    ∙ any_step (is_keyword k j) (has_no_block j) (has_no_block k) (list_any (is_keyword k) js)
    (λ same. ap has_no_block (same_keyword k j same))

-- a keyword is repeated if a file may have it once and it stands above
pub repeated_is : (ds : List Directive) (k : Keyword)
    → is_repeated (context_at ds None) k ≡ (is_single k && stands k ds)
repeated_is ds Module = refl
repeated_is ds Go = any_without Go (map keyword_of ds)
repeated_is ds Toolchain = any_without Toolchain (map keyword_of ds)
repeated_is ds Require = any_without Require (map keyword_of ds)
repeated_is ds Exclude = any_without Exclude (map keyword_of ds)
repeated_is ds Replace = any_without Replace (map keyword_of ds)
repeated_is ds Retract = any_without Retract (map keyword_of ds)
repeated_is ds Tool = any_without Tool (map keyword_of ds)
repeated_is ds Godebug = any_without Godebug (map keyword_of ds)
repeated_is ds Ignore = any_without Ignore (map keyword_of ds)

-- a keyword that a file may have once and that does not stand above
pub fresh-not_repeated : (ds : List Directive) (k : Keyword) → IsFresh ds k → is_repeated (context_at ds None) k ≡ false
fresh-not_repeated ds k h = repeated_is ds k ∙ not_both (is_single k) (stands k ds) h
  where
    not_both : (a b : Bool) → (a ≡ true → b ≡ false) → (a && b) ≡ false
    not_both true b e = e refl
    not_both false b e = refl

pub not_repeated-fresh : (ds : List Directive) (k : Keyword) → is_repeated (context_at ds None) k ≡ false → IsFresh ds k
not_repeated-fresh ds k h only = sym (ap (λ b. b && stands k ds) only) ∙ sym (repeated_is ds k) ∙ h

pub repeated-stands : (ds : List Directive) (k : Keyword) → is_repeated (context_at ds None) k ≡ true
    → (is_single k ≡ true) × (stands k ds ≡ true)
repeated-stands ds k h = and_parts (is_single k) (stands k ds) (sym (repeated_is ds k) ∙ h)

pub stands-more : (j : Keyword) (ds : List Directive) (d : Directive)
    → stands j (ds ++ d ∷ []) ≡ (stands j ds || is_keyword j (keyword_of d))
stands-more j ds d =
    ap (list_any (is_keyword j)) (map-join keyword_of ds (d ∷ []))
    ∙ list_any-append (is_keyword j) (map keyword_of ds) (keyword_of d ∷ [])
    ∙ ap (λ b. stands j ds || b) (or_none (is_keyword j (keyword_of d)))

with_by : (b : Bool) (ks : List Keyword) (k : Keyword) → ks ++ cond (not b) (k ∷ []) [] ≡ cond b ks (ks ++ k ∷ [])
with_by true ks k = append-nil ks
with_by false ks k = refl

once_only-more : (ds : List Directive) (d : Directive)
    → once_only_in (ds ++ d ∷ []) ≡ once_only_with (once_only_in ds) (keyword_of d)
once_only-more ds d =
    ap (filter has_no_block) (map-join keyword_of ds (d ∷ []))
    ∙ filter-join has_no_block (map keyword_of ds) (keyword_of d ∷ [])
    ∙ with_by (has_block (keyword_of d)) (once_only_in ds) (keyword_of d)

once_only_same : (ks : List Keyword) (k : Keyword) → has_block k ≡ true → once_only_with ks k ≡ ks
once_only_same ks k h = ap (λ b. cond b ks (ks ++ k ∷ [])) h

-- a directive on one line
pub context-single : (ds : List Directive) (k : Keyword) (d : Directive) → keyword_of d ≡ k
    → with_entry (context_at ds None) k ≡ context_at (ds ++ d ∷ []) None
context-single ds k d is = λ i. record {
  block = None;
  has_module = (ap (λ b. stands Module ds || b) (sym (module_same k) ∙ ap (is_keyword Module) (sym is))
      ∙ sym (stands-more Module ds d)) i;
  once_only = (ap (once_only_with (once_only_in ds)) (sym is) ∙ sym (once_only-more ds d)) i;
}

-- a block begins
pub context-begins : (ds : List Directive) (k : Keyword) (line : ℕ)
    → ◌≡◌ {A = Context} (record { block = Some k; has_module = stands Module ds; once_only = once_only_in ds })
    (context_at ds (Some (record { keyword = k; first = line; entries = [] })))
context-begins ds k line = λ i. record {
  block = Some k;
  has_module = (sym (or_none (stands Module ds)) ∙ ap (λ b. stands Module ds || b) (sym (and_none (is_module k)))) i;
  once_only = once_only_in ds;
}

some_entry : (rs : List Row) (r : Row) → has_entry (rs ++ r ∷ []) ≡ true
some_entry [] r = refl
some_entry (x ∷ rs) r = refl

absorbs : (s m x : Bool) → ((s || (m && x)) || m) ≡ (s || m)
absorbs true m x = refl
absorbs false true true = refl
absorbs false true false = refl
absorbs false false x = refl

-- an entry of a block
pub context-inside : (ds : List Directive) (b : OpenBlock) (r : Row) → has_block b.keyword ≡ true
    → with_entry (context_at ds (Some b)) b.keyword ≡ context_at ds (Some (with_row b r))
context-inside ds b r h = λ i. record {
  block = Some b.keyword;
  has_module = (absorbs (stands Module ds) (is_module b.keyword) (has_entry b.entries)
      ∙ ap (λ x. stands Module ds || x)
      (sym (and_one (is_module b.keyword)) ∙ ap (λ x. is_module b.keyword && x) (sym (some_entry b.entries r)))) i;
  once_only = once_only_same (once_only_in ds) b.keyword h i;
}

filled_entry : (m : Bool) (rs : List Row) → (m ≡ true → 0 < length rs) → (m && has_entry rs) ≡ m
filled_entry true [] h = absurd (let e = h refl in omega (arith, e))
filled_entry true (r ∷ rs) h = refl
filled_entry false rs h = refl

-- a block ends
pub context-closes : (ds : List Directive) (b : OpenBlock) (line : ℕ) → has_block b.keyword ≡ true → IsFilled b
    → ◌≡◌ {A = Context} (record {
      block = None;
      has_module = (context_at ds (Some b)).has_module;
      once_only =
          once_only_in ds;
    }) (context_at (ds ++ closed b line ∷ []) None)
context-closes ds b line h filled = λ i. record {
  block = None;
  has_module = (ap (λ x. stands Module ds || x)
      (filled_entry (is_module b.keyword) b.entries filled ∙ sym (module_same b.keyword))
      ∙ sym (stands-more Module ds (closed b line))) i;
  once_only = (sym (once_only_same (once_only_in ds) b.keyword h) ∙ sym (once_only-more ds (closed b line))) i;
}

-- where a block of module is open, no other module stands above
abbrev pub IsAlone : List Directive → Option OpenBlock → Type 0
IsAlone ds None = Unit {0}
IsAlone ds (Some b) = (has_block b.keyword ≡ true) × (is_module b.keyword ≡ true → stands Module ds ≡ false)

alone_by : (ds : List Directive) (b : OpenBlock)
    → length (filter (is_keyword Module) (map keyword_of ds ++ b.keyword ∷ [])) ≤ 1 → is_module b.keyword ≡ true
    → stands Module ds ≡ false
alone_by ds b few is =
    let same : is_keyword Module b.keyword ≡ true = module_same b.keyword ∙ is in
    let one_more : length (filter (is_keyword Module) (b.keyword ∷ [])) ≡ 1 = rw same refl in
    let join = filter-join (is_keyword Module) (map keyword_of ds) (b.keyword ∷ []) in
    none-any (is_keyword Module) (map keyword_of ds)
    (omega (
      arith,
      few,
      ap length join,
      length-join (filter (is_keyword Module) (map keyword_of ds)) (filter (is_keyword Module) (b.keyword ∷ [])),
      one_more,
    ))

pub written-alone : (known : Keywords) (rows : List Row) (ds : List Directive) (o : Option OpenBlock)
    → AreWritten known rows ds o → IsAlone ds o
written-alone known rows ds None w = tt
written-alone known rows ds (Some b) w = (w.open_block.0, alone_by ds b (w.single Module refl))

-- what the context of an open block of module says of its entries
no_entry : (rs : List Row) → has_entry rs ≡ false → rs ≡ []
no_entry [] h = refl
no_entry (r ∷ rs) h = cc

any_entry : (rs : List Row) → has_entry rs ≡ true → 0 < length rs
any_entry [] h = cc
any_entry (r ∷ rs) h = omega arith

entry_any : (rs : List Row) → 0 < length rs → has_entry rs ≡ true
entry_any [] h = absurd (omega (arith, h))
entry_any (r ∷ rs) h = refl

module_entry_is : (ds : List Directive) (b : OpenBlock) → IsAlone ds (Some b) → is_module b.keyword ≡ true
    → (context_at ds (Some b)).has_module ≡ has_entry b.entries
module_entry_is ds b alone is = let none = alone.1 is in rw (none, is) refl

pub room-context : (ds : List Directive) (b : OpenBlock) → IsAlone ds (Some b) → HasRoom b
    → (is_module b.keyword && (context_at ds (Some b)).has_module) ≡ false
room-context ds b alone room = by_module (is_module b.keyword) refl
  where
    by_module : (m : Bool) → is_module b.keyword ≡ m → (m && (context_at ds (Some b)).has_module) ≡ false
    by_module true is = module_entry_is ds b alone is ∙ ap has_entry (room is)
    by_module false is = refl

pub context-room : (ds : List Directive) (b : OpenBlock) → IsAlone ds (Some b)
    → (is_module b.keyword && (context_at ds (Some b)).has_module) ≡ false → HasRoom b
context-room ds b alone h is =
    no_entry b.entries (sym (module_entry_is ds b alone is)
    ∙ ap (λ m. m && (context_at ds (Some b)).has_module) (sym is) ∙ h)

pub filled-context : (ds : List Directive) (b : OpenBlock) → IsAlone ds (Some b) → IsFilled b
    → (is_module b.keyword && not (context_at ds (Some b)).has_module) ≡ false
filled-context ds b alone filled = by_module (is_module b.keyword) refl
  where
    by_module : (m : Bool) → is_module b.keyword ≡ m → (m && not (context_at ds (Some b)).has_module) ≡ false
    by_module true is = ap not (module_entry_is ds b alone is ∙ entry_any b.entries (filled is))
    by_module false is = refl

pub context-filled : (ds : List Directive) (b : OpenBlock) → IsAlone ds (Some b)
    → (is_module b.keyword && not (context_at ds (Some b)).has_module) ≡ false → IsFilled b
context-filled ds b alone h is =
    any_entry b.entries (sym (module_entry_is ds b alone is)
    ∙ not_not (context_at ds (Some b)).has_module
    (ap (λ m. m && not (context_at ds (Some b)).has_module) (sym is) ∙ h))
  where
    not_not : (x : Bool) → not x ≡ false → x ≡ true
    not_not true e = refl
    not_not false e = cc
