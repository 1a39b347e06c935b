-- What a go.mod names and requires needs no escape in JSON.
use Rattle.std.proofs.Common.{◌≡◌, ◌&&◌, ℕ, true, false, cond, List, [], ◌∷◌, Some, None, Ok, Err, Result}
use Rattle.std.proofs.Common.{refl, sym, subst, ⊎_elim, ◌∙◌}
use Rattle.std.specs.Prelude.{codes}
use Rattle.std.specs.List.{AllByRecursion}
use Rattle.gomod.specs.declared.entries.Requirement.{Requirement}
use Rattle.gomod.specs.declared.fault.GoModFault.{GoModFault}
use Rattle.gomod.specs.Entries.{Demand, IsGoEntry, IsMet, IsPair, IsRight, old_version_demands}
use Rattle.gomod.specs.Grammar.{Item, Row, entries_under, is_keyword, items}
use Rattle.gomod.specs.Keywords.{Keywords, keyword_named, profile_in_force}
use Rattle.gomod.specs.Module.{GoModule, first_of, go_version}
use Rattle.gomod.specs.Paths.{is_loose_path, version_of}
use Rattle.gomod.specs.Reading.{reading}
use Rattle.gomod.specs.Reads.{Pointwise, Reads}
use Rattle.gomod.proofs.FileLaw.{reads-from_reading}
use Rattle.gomod.proofs.Shapes.{demands_of, demands-from_shape}
use Rattle.gomod.proofs.Written.{same_keyword}
use Rattle.modlex.specs.Symbols.{Symbol, is_word}
use Rattle.modlex.specs.Words.{value_of}
use Rattle.modlex.proofs.TokenSound.{chosen}
use Rattle.modpath.specs.Path.{IsLoosePath}
use Rattle.modpath.proofs.PathLaw.{loose_path_test_is_exact}
use Rattle.modver.specs.SemanticVersion.{SemanticVersion, IsVersion, version_text}
use Rattle.modver.proofs.Readings.{version-of}
use Rattle.world.specs.GoMods.{as_reading, reading_by}
use Rattle.world.specs.declared.reading.Reading.TheVariants.{Module}
use Rattle.catalog.specs.Json.{AreUnescaped}
use Rattle.catalog.proofs.Unescaped.{MaybeUnescaped, go_version_unescaped, loose_path_unescaped, version_unescaped}

-- the path and the version of a requirement need no escape
pub record IsPlain (r : Requirement) : Type 0 where
  pub path : AreUnescaped r.path
  pub version : AreUnescaped (version_text r.version)

-- nor does anything that a go.mod names or requires
pub record IsPlainModule (m : GoModule) : Type 0 where
  pub go : MaybeUnescaped (go_version m)
  pub required : AllByRecursion IsPlain m.required

loose : (text : List ℕ) → is_loose_path text ≡ true → IsLoosePath text
unfolding is_loose_path
loose text h = (loose_path_test_is_exact text).0 h

named : (text : List ℕ) (v : SemanticVersion) → version_of text ≡ Some v → IsVersion v
unfolding version_of
named text v h = ((version-of text v).0 h).valid

-- the path of a requirement meets its demand
met_path : (p v : Symbol) (ds : List Demand)
    → cond (is_word p && is_word v) (Some (old_version_demands p v)) None ≡ Some ds → AllByRecursion IsMet ds
    → is_loose_path (value_of p) ≡ true
met_path p v ds h met =
    ⊎_elim
    (λ x. let same : old_version_demands p v ≡ ds = (let e = x.1 in cc) in
    (subst (AllByRecursion IsMet) (sym same) met).0)
    (λ x. (let e = x.1 in cc))
    (chosen (is_word p && is_word v) (Some (old_version_demands p v)) None (Some ds) h)

-- of a keyword whose entries are a path and a version that it may have
module _ (k : _) (asks : (p v : Symbol)
    → demands_of k (p ∷ v ∷ []) ≡ cond (is_word p && is_word v) (Some (old_version_demands p v)) None) where
  pair_plain : (ts : List Symbol) (r : Requirement) → IsRight k ts → IsPair ts r → IsPlain r
  pair_plain ts r right pair =
      let p = pair.0 in
      let v = pair.1 in
      let shape = subst (λ l. demands_of k l ≡ Some right.0) pair.2 (demands-from_shape k ts right.0 right.1) in
      let path = met_path p v right.0 (sym (asks p v) ∙ shape) right.2 in
      record {
        path = subst AreUnescaped pair.3 (loose_path_unescaped (value_of p) (loose (value_of p) path));
        version = version_unescaped r.version (named (value_of v) r.version pair.4);
      }

  -- the entries under the keyword are right
  right_under : (is : List Item) → AllByRecursion (λ i. IsRight i.keyword i.entry.symbols) is
      → AllByRecursion (λ e. IsRight k e.symbols) (entries_under k is)
  right_under [] h = tt
  right_under (i ∷ is) h =
      elim (is_keyword k i.keyword) as (λ b. is_keyword k i.keyword ≡ b
      → AllByRecursion (λ e. IsRight k e.symbols) (cond b (i.entry ∷ entries_under k is) (entries_under k is))) [
        | true ↦ λ same. (
          subst (λ j. IsRight j i.entry.symbols) (sym (same_keyword k i.keyword same)) h.0,
          right_under is h.1,
        )
        | false ↦ λ other. right_under is h.1
      ] refl

  pairs_plain : (es : List Row) (rs : List Requirement) → AllByRecursion (λ e. IsRight k e.symbols) es
      → Pointwise (λ e r. IsPair e.symbols r) es rs → AllByRecursion IsPlain rs
  pairs_plain [] [] right h = tt
  pairs_plain [] (r ∷ rs) right h = absurd h
  pairs_plain (e ∷ es) [] right h = absurd h
  pairs_plain (e ∷ es) (r ∷ rs) right h = (pair_plain e.symbols r right.0 h.0, pairs_plain es rs right.1 h.1)

  -- the spelling says which keyword, since `gomod` keeps their names to itself
  required_plain : keyword_named profile_in_force (codes "require") ≡ Some k → (is : List Item) (rs : List Requirement)
      → AllByRecursion (λ i. IsRight i.keyword i.entry.symbols) is
      → Pointwise (λ e r. IsPair e.symbols r) (entries_under k is) rs → AllByRecursion IsPlain rs
  required_plain spelled is rs right h = pairs_plain (entries_under k is) rs (right_under is right) h

go_plain : (es : List Row) (ts : List (List ℕ)) → Pointwise (λ e t. IsGoEntry e.symbols t) es ts
    → MaybeUnescaped (first_of ts)
go_plain [] [] h = tt
go_plain [] (t ∷ ts) h = absurd h
go_plain (e ∷ es) [] h = absurd h
go_plain (e ∷ es) (t ∷ ts) h = go_version_unescaped t h.0.3

module_plain : (known : Keywords) (bytes : List ℕ) (m : GoModule) → Reads known bytes m → IsPlainModule m
unfolding keyword_named
module_plain known bytes m reads =
    let is = items reads.directives None in
    record {
      go = go_plain _ m.go reads.go;
      required = required_plain _ (λ p v. refl) refl is m.required reads.grammar.entries reads.required;
    }

reading_is : (r : Result GoModule GoModFault) (m : GoModule) → as_reading r ≡ Module m → r ≡ Ok m
reading_is (Ok n) m h = cc
reading_is (Err f) m h = cc

-- a go.mod that reads
pub read_plain : (known : Keywords) (bytes : List ℕ) (m : GoModule) → reading_by known bytes ≡ Module m
    → IsPlainModule m
read_plain known bytes m h =
    module_plain known bytes m (reads-from_reading known bytes m (reading_is (reading known bytes) m h))
