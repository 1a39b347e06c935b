-- What is read with some keywords is read the same with more.
use Rattle.std.proofs.Common.{ℕ, List, [], ◌∷◌, refl}
use Rattle.std.specs.List.{AllByRecursion}
use Rattle.gomod.specs.declared.keyword.Keyword.{Keyword}
use Rattle.gomod.specs.declared.keyword.Keyword.TheVariants.{Module, Go, Require, Exclude, Replace, Retract}
use Rattle.gomod.specs.Keywords.{Keywords, keyword_named, profile_1, profile_2}
use Rattle.gomod.specs.Module.{GoModule}
use Rattle.gomod.specs.Grammar.{IsKnown}
use Rattle.gomod.specs.Reads.{Reads}
use Rattle.gomod.specs.FileLaws.{IsWithin}

all_known : (known more : Keywords) (ks : List Keyword) → IsWithin known more → AllByRecursion (IsKnown known) ks
    → AllByRecursion (IsKnown more) ks
all_known known more [] within h = tt
all_known known more (k ∷ ks) within h = (within k h.0, all_known known more ks within h.1)

-- a file that can be read in a profile has the same meaning in a profile with more keywords
pub reads_more : (known more : Keywords) (bytes : List ℕ) (m : GoModule) → IsWithin known more → Reads known bytes m
    → Reads more bytes m
reads_more known more bytes m within r = record {
  utf8 = r.utf8;
  tokens = r.tokens;
  lexemes = r.lexemes;
  directives = r.directives;
  grammar = record {
    spelled = r.grammar.spelled;
    known_keywords = all_known known more _ within r.grammar.known_keywords;
    blocks = r.grammar.blocks;
    open_block = r.grammar.open_block;
    single = r.grammar.single;
    entries = r.grammar.entries;
  };
  path = r.path;
  go = r.go;
  required = r.required;
  retractions = r.retractions;
  fitting = r.fitting;
  bare = r.bare;
}

-- the second profile has each keyword of the first
pub profile_1-within : IsWithin profile_1 profile_2
unfolding keyword_named
profile_1-within Module h = refl
profile_1-within Go h = refl
profile_1-within Require h = refl
profile_1-within Exclude h = refl
profile_1-within Replace h = refl
profile_1-within Retract h = refl
profile_1-within _ h = cc
