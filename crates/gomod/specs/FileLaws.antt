-- A go.mod file can be read, or it is faulty.
use Rattle.std.specs.Prelude.{◌≡◌, ℕ, List, ◌⊎◌}
use Rattle.gomod.specs.declared.fault.GoModFault.{GoModFault}
use Rattle.gomod.specs.declared.keyword.Keyword.{Keyword}
use Rattle.gomod.specs.Grammar.{IsKnown}
use Rattle.gomod.specs.Keywords.{Keywords}
use Rattle.gomod.specs.Module.{GoModule}
use Rattle.gomod.specs.Reads.{Reads}
use Rattle.gomod.specs.Faults.{Faulty}

-- a file has exactly one meaning or exactly one fault, and not both
pub record ReadsOrIsFaulty (known : Keywords) (bytes : List ℕ) : Type 0 where
  pub either : ((m : GoModule) × Reads known bytes m) ⊎ ((f : GoModFault) × Faulty known bytes f)
  pub not_both : (m : GoModule) (f : GoModFault) → Reads known bytes m → ¬ Faulty known bytes f
  pub one_meaning : (m n : GoModule) → Reads known bytes m → Reads known bytes n → m ≡ n
  pub one_fault : (f g : GoModFault) → Faulty known bytes f → Faulty known bytes g → f ≡ g

-- each keyword that the first profile has, the second has too
abbrev pub IsWithin : Keywords → Keywords → Type 0
IsWithin known more = (k : Keyword) → IsKnown known k → IsKnown more k
