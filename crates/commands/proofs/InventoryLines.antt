-- The lines of all rows are those of each piece, one after another.
use Rattle.std.proofs.Common.{◌≡◌, ◌++◌, ◌∙◌, ℕ, List, [], ◌∷◌, refl, sym, ap}
use Rattle.std.specs.List.{flat_map}
use Rattle.std.proofs.lemmas.List.Concat.{flat_map-append}
use Rattle.world.specs.Lines.{in_order}
use Rattle.world.specs.Versions.{versions_of}
use Rattle.world.specs.Visible.{paths_seen}
use Rattle.world.specs.World.{World}
use Rattle.commands.specs.Inventory.{fields, line, lines_of, row_at, rows_of_path, rows_of_text, rows_seen}

module _ {A B C : Type 0} where
  -- flattening twice is flattening once, piece by piece
  flat_map_twice : (g : B → List C) (f : A → List B) (xs : List A)
      → flat_map g (flat_map f xs) ≡ flat_map (λ x. flat_map g (f x)) xs
  flat_map_twice g f [] = refl
  flat_map_twice g f (x ∷ xs) = flat_map-append g (f x) (flat_map f xs)
      ∙ ap (λ l. flat_map g (f x) ++ l) (flat_map_twice g f xs)

module _ (w : World) (s : List ℕ) where
  -- those of a path, version by version
  pub path_lines : (p : List ℕ)
      → flat_map (λ v. lines_of (row_at w s p v)) (versions_of w s p) ≡ lines_of (rows_of_path w s p)
  path_lines p = sym (flat_map_twice (λ r. line (fields r)) (row_at w s p) (versions_of w s p))

  -- those of a shelf, path by path
  pub shelf_lines : flat_map (λ t. lines_of (rows_of_text w s t)) (in_order (paths_seen w s)) ≡ lines_of (rows_seen w s)
  shelf_lines = sym (flat_map_twice (λ r. line (fields r)) (rows_of_text w s) (in_order (paths_seen w s)))
