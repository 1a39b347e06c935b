-- One deed after another.
use Rattle.std.proofs.Common.{ℕ, ◌≡◌, List, [], ◌∷◌, ◌++◌, ◌∙◌, ap}
use Rattle.std.proofs.lemmas.List.{append_assoc}
use Rattle.store_files.specs.History.{Done}
use Rattle.store_files.specs.declared.files.Deed.TheVariants.{Opened, Closed}
use Rattle.store_files.specs.declared.files.Use.{Use}

-- a store that was opened, and then closed under that name
pub opened_closed : {C : Type 0} (before mid after : List (Done C)) (name other : List ℕ) (purpose : Use) (end : C)
    → other ≡ name
    → mid ≡ before ++ (name, Opened purpose) ∷ [] → after ≡ mid ++ (other, Closed end) ∷ []
    → after ≡ before ++ (name, Opened purpose) ∷ (name, Closed end) ∷ []
opened_closed before mid after name other purpose end same opened closed =
    closed ∙ (ap (λ n. mid ++ (n, Closed end) ∷ []) same ∙ (ap (λ m. m ++ (name, Closed end) ∷ []) opened
    ∙ append_assoc before ((name, Opened purpose) ∷ []) ((name, Closed end) ∷ [])))
