-- The entries of directives: their shapes, the demands on their words, and their meanings.
use Rattle.std.specs.Prelude.{◌≡◌, ℕ, true, List, [], ◌∷◌, ◌++◌, Some, ◌⊎◌}
use Rattle.std.specs.List.{AllByRecursion}
use Rattle.modlex.specs.declared.lexer.TokenKind.TheVariants as kinds
use Rattle.gomod.specs.declared.keyword.Keyword.{Keyword}
use Rattle.gomod.specs.declared.keyword.Keyword.TheVariants.{Module, Go, Require, Exclude, Replace, Retract}
use Rattle.gomod.specs.declared.fault.GoModFault.{GoModFault}
use Rattle.gomod.specs.declared.fault.GoModFault.TheVariants as faults
use Rattle.gomod.specs.declared.entries.Requirement.{Requirement}
use Rattle.gomod.specs.Paths.{Version, is_path, is_loose_path, version_of, fits_path, IsBelow}
use Rattle.gomod.specs.GoVersion.{is_go_version, is_file_path}
use Rattle.gomod.specs.Keywords.{takes_any_word}
use Rattle.gomod.specs.Module.{Interval}
use Rattle.modlex.specs.Symbols.{Symbol, is_word}
use Rattle.modlex.specs.Words.{value_of}

-- ---- demands on words

-- a demand on a text: what it must be; a fitting version is one that its path may have
pub data Demand : Type 0 where
  module_path : List ℕ → Demand
  loose_path : List ℕ → Demand
  file_path : List ℕ → Demand
  go_version : List ℕ → Demand
  version : List ℕ → Demand
  fitting_version : List ℕ → List ℕ → Demand
  interval : List ℕ → List ℕ → Demand

-- a text names a version: it is its canonical text
abbrev pub NamesVersion : List ℕ → Version → Type 0
NamesVersion text v = version_of text ≡ Some v

-- the text meets its demand; two texts are an interval if the first version is not above the second
abbrev pub IsMet : Demand → Type 0
IsMet (module_path text) = is_path text ≡ true
IsMet (loose_path text) = is_loose_path text ≡ true
IsMet (file_path text) = is_file_path text ≡ true
IsMet (go_version text) = is_go_version text ≡ true
IsMet (version text) = (v : Version) × NamesVersion text v
IsMet (fitting_version path text) = (v : Version) × NamesVersion text v × (fits_path path v ≡ true)
IsMet (interval low high) = (u : Version) × (v : Version) × NamesVersion low u × NamesVersion high v × (¬ IsBelow v u)

-- the fault of a line with a text that does not meet its demand
abbrev pub fault_of : ℕ → Demand → GoModFault
fault_of line (module_path text) = faults.Path line
fault_of line (loose_path text) = faults.Path line
fault_of line (file_path text) = faults.Path line
fault_of line (go_version text) = faults.GoVersion line
fault_of line (version text) = faults.Version line
fault_of line (fitting_version path text) = faults.Version line
fault_of line (interval low high) = faults.Interval line

-- the first demand that is not met
pub record FailsFirst (demands : List Demand) (d : Demand) : Type 0 where
  pub before : List Demand
  pub others : List Demand
  pub split : demands ≡ before ++ d ∷ others
  pub met : AllByRecursion IsMet before
  pub unmet : ¬ IsMet d

-- ---- shapes

abbrev pub IsWord : Symbol → Type 0
IsWord t = is_word t ≡ true

abbrev pub IsArrow : Symbol → Type 0
IsArrow t = t.kind ≡ kinds.Arrow

-- the demands on the words before the arrow of a replacement, and on those after it
abbrev pub old_demands : Symbol → List Demand
old_demands p = loose_path (value_of p) ∷ []

abbrev pub old_version_demands : Symbol → Symbol → List Demand
old_version_demands p v = loose_path (value_of p) ∷ fitting_version (value_of p) (value_of v) ∷ []

abbrev pub new_file_demands : Symbol → List Demand
new_file_demands f = file_path (value_of f) ∷ []

abbrev pub new_version_demands : Symbol → Symbol → List Demand
new_version_demands q w = module_path (value_of q) ∷ fitting_version (value_of q) (value_of w) ∷ []

-- an entry of a directive has one of the shapes of the grammar, which makes these demands on its words, from left to
-- right
pub data HasShape : Keyword → List Symbol → List Demand → Type 0 where
  module_shape : (w : Symbol) → IsWord w → HasShape Module (w ∷ []) (module_path (value_of w) ∷ [])
  go_shape : (w : Symbol) → IsWord w → HasShape Go (w ∷ []) (go_version (value_of w) ∷ [])
  require_shape : (p v : Symbol) → IsWord p → IsWord v → HasShape Require (p ∷ v ∷ []) (old_version_demands p v)
  exclude_shape : (p v : Symbol) → IsWord p → IsWord v → HasShape Exclude (p ∷ v ∷ []) (old_version_demands p v)
  path_by_file : (p a f : Symbol) → IsWord p → IsArrow a → IsWord f
      → HasShape Replace (p ∷ a ∷ f ∷ []) (old_demands p ++ new_file_demands f)
  path_by_version : (p a q w : Symbol) → IsWord p → IsArrow a → IsWord q → IsWord w
      → HasShape Replace (p ∷ a ∷ q ∷ w ∷ []) (old_demands p ++ new_version_demands q w)
  version_by_file : (p v a f : Symbol) → IsWord p → IsWord v → IsArrow a → IsWord f
      → HasShape Replace (p ∷ v ∷ a ∷ f ∷ []) (old_version_demands p v ++ new_file_demands f)
  version_by_version : (p v a q w : Symbol) → IsWord p → IsWord v → IsArrow a → IsWord q → IsWord w
      → HasShape Replace (p ∷ v ∷ a ∷ q ∷ w ∷ []) (old_version_demands p v ++ new_version_demands q w)
  retract_version : (v : Symbol) → IsWord v → HasShape Retract (v ∷ []) (version (value_of v) ∷ [])
  retract_interval : (l v c w r : Symbol) → l.kind ≡ kinds.BracketLeft
      → IsWord v → c.kind ≡ kinds.Comma → IsWord w → r.kind ≡ kinds.BracketRight
      → HasShape Retract (l ∷ v ∷ c ∷ w ∷ r ∷ [])
      (version (value_of v) ∷ version (value_of w) ∷ interval (value_of v) (value_of w) ∷ [])
  word_shape : (k : Keyword) (w : Symbol) → takes_any_word k ≡ true → IsWord w → HasShape k (w ∷ []) []

-- the entry has a shape, and its words meet the demands
abbrev pub IsRight : Keyword → List Symbol → Type 0
IsRight k ts = (demands : List Demand) × HasShape k ts demands × AllByRecursion IsMet demands

-- ---- the meanings of entries

-- an entry of module names this path
abbrev pub IsModuleEntry : List Symbol → List ℕ → Type 0
IsModuleEntry ts path = (w : Symbol) × (ts ≡ w ∷ []) × (value_of w ≡ path)

-- an entry of go names this Go version
abbrev pub IsGoEntry : List Symbol → List ℕ → Type 0
IsGoEntry ts text = (w : Symbol) × (ts ≡ w ∷ []) × (value_of w ≡ text) × (is_go_version text ≡ true)

-- an entry names this path and this version
abbrev pub IsPair : List Symbol → Requirement → Type 0
IsPair ts r = (p : Symbol) × (v : Symbol) × (ts ≡ p ∷ v ∷ []) × (value_of p ≡ r.path)
    × NamesVersion (value_of v) r.version

-- an entry names this interval; a single version is an interval of itself
abbrev pub IsRetractEntry : List Symbol → Interval → Type 0
IsRetractEntry ts i =
    ((v : Symbol) × (ts ≡ v ∷ []) × NamesVersion (value_of v) i.low × NamesVersion (value_of v) i.high)
    ⊎ ((l : Symbol) × (v : Symbol) × (c : Symbol) × (w : Symbol) × (r : Symbol) × (ts ≡ l ∷ v ∷ c ∷ w ∷ r ∷ [])
    × NamesVersion (value_of v) i.low × NamesVersion (value_of w) i.high)
