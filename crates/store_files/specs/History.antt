-- What was done to files.
use Rattle.std.specs.Prelude.{ℕ, ◌≡◌, List, [], ◌∷◌, ◌++◌}
use Rattle.store_files.specs.declared.files.Deed.{Deed}
use Rattle.store_files.specs.declared.files.Deed.TheVariants.{Opened, Refused, Closed}
use Rattle.store_files.specs.declared.files.Use.{Use}
use Rattle.store_files.specs.declared.refusal.StoreRefusal.{StoreRefusal}
use Rattle.store_files.specs.Refusal.{IsOfOpening}

-- a deed, with the name of its file
abbrev pub Done : Type 0 → Type 0
Done C = List ℕ × Deed C

-- A span of a history: what was done before it and after it, what holds of a store that was just opened, and what a
-- closed one leaves.
pub record Span (S C : Type 0) : Type 1 where
  pub begins : S → Type 0
  pub left : S → C
  pub before : List (Done C)
  pub after : List (Done C)

module _ {S C : Type 0} (files : Span S C) where
  -- nothing was done to any file
  abbrev pub IsIdle : Type 0
  IsIdle = files.after ≡ files.before

  -- The store of this file was not opened, for this reason, which is one of an opening. Nothing else was done to any
  -- file.
  pub record Refuses (name : List ℕ) (why : StoreRefusal) : Type 0 where
    pub opening : IsOfOpening why
    pub done : files.after ≡ files.before ++ (name, Refused why) ∷ []

  -- The store of this file was opened once, for this purpose, this was done with it, and it was closed in the state that
  -- it then had. Nothing else was done to any file.
  pub record Opens (name : List ℕ) (purpose : Use) (Does : S → S → Type 0) : Type 0 where
    pub begun : S
    pub ended : S
    pub begins : files.begins begun
    pub does : Does begun ended
    pub done : files.after ≡ files.before ++ (name, Opened purpose) ∷ (name, Closed (files.left ended)) ∷ []
