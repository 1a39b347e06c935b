-- Newcomers that have a path and a version.
use Rattle.std.proofs.Common.{◌≡◌, ℕ, List, [], ◌∷◌, Bool, true, false, refl, sym, ap, ◌∙◌}
use Rattle.std.specs.Prelude.{◌||◌, ◌&&◌, bytes_eq}
use Rattle.std.specs.BTreeMap.{is_at}
use Rattle.std.specs.Cmp.{tied_itself}
use Rattle.std.specs.List.{list_any}
use Rattle.std.specs.Ordering.{is_eq}
use Rattle.std.proofs.lemmas.Bool.{true≢false, false_from_ne_true, and_parts}
use Rattle.std.proofs.lemmas.Map.Views.{tells_apart}
use Rattle.world.specs.declared.entry.Place.{Place}
use Rattle.world.specs.World.{place, place_cmp}
use Rattle.world.proofs.Orders.{places_exact, places_total, text_same, text_self}

-- whether the place with this shelf, this path and this version is among these
abbrev pub is_among : List ℕ → List ℕ → List Place → List ℕ → Bool
is_among p v qs s = list_any (is_at (place_cmp (place s p v))) qs

module _ (p v : List ℕ) (q : Place) (rest : List Place) where
  -- a place with another path or another version is none of them
  pub passed_over : (bytes_eq q.path p && bytes_eq q.version v) ≡ false → (s : List ℕ)
      → is_among p v (q ∷ rest) s ≡ is_among p v rest s
  passed_over other s =
      ap (λ b. b || is_among p v rest s) (false_from_ne_true _ (λ tie.
      let same : place s p v ≡ q = tells_apart places_exact (place s p v) q tie in
      true≢false (sym (ap (λ b. b && bytes_eq v v) (text_self p) ∙ text_self v)
      ∙ ap (λ (r : Place). bytes_eq r.path p && bytes_eq r.version v) same ∙ other)))

  -- one with both is that of its shelf
  pub found_first : (bytes_eq q.path p && bytes_eq q.version v) ≡ true → is_among p v (q ∷ rest) q.shelf ≡ true
  found_first both =
      let parts = and_parts (bytes_eq q.path p) (bytes_eq q.version v) both in
      let same : q ≡ place q.shelf p v =
      λ i. record { shelf = q.shelf; path = text_same q.path p parts.0 i; version = text_same q.version v parts.1 i } in
      ap (λ (r : Place). is_eq (place_cmp (place q.shelf p v) r) || is_among p v rest q.shelf) same
      ∙ ap (λ o. is_eq o || is_among p v rest q.shelf) (tied_itself places_total (place q.shelf p v))
