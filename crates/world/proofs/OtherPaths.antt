-- What a shelf sees of the other paths, after an entry is stored.
use Rattle.std.proofs.Common.{◌≡◌, ℕ, List, [], ◌∷◌, false, refl, sym, ap, ◌∙◌}
use Rattle.std.specs.Prelude.{bytes_eq, is_some}
use Rattle.std.specs.Option.{option_or}
use Rattle.std.specs.FinMap as map
use Rattle.std.specs.FinSet.{same_set}
use Rattle.world.specs.declared.entry.Place.{Place}
use Rattle.world.specs.declared.entry.Entry.{Entry}
use Rattle.world.specs.World.{World, chain, place, seen_at, first_on, with_entry}
use Rattle.world.specs.Lines.{in_order}
use Rattle.world.specs.Versions.{named, by_precedence, versions_of}
use Rattle.world.specs.Visible.{versions_seen}
use Rattle.world.proofs.Orders.{texts_total, texts_exact, places_total, places_exact, get_elsewhere, text_apart}
use Rattle.world.proofs.Seen.{contains_versions}

module _ (w : World) (s p v : List ℕ) (e : Entry) (other : List ℕ) (apart : bytes_eq other p ≡ false) where
  pub on_others : (ss : List (List ℕ)) (u : List ℕ)
      → first_on (with_entry w (place s p v) e) ss other u ≡ first_on w ss other u
  on_others [] u = refl
  on_others (t ∷ ts) u =
      ap (λ o. option_or (seen_at o t) (first_on (with_entry w (place s p v) e) ts other u))
      (get_elsewhere places_total places_exact w.entries (place s p v) e (place t other u)
      (λ i. text_apart other p apart (ap (λ (q : Place). q.path) i)))
      ∙ ap (λ o. option_or (seen_at (map.get w.entries (place t other u)) t) o) (on_others ts u)

  seen_still : (t : List ℕ) → versions_seen (with_entry w (place s p v) e) t other ≡ versions_seen w t other
  seen_still t =
      same_set texts_total texts_exact (versions_seen (with_entry w (place s p v) e) t other) (versions_seen w t other)
      (λ u. contains_versions (with_entry w (place s p v) e) t other u
      ∙ (ap is_some (on_others (chain w t) u) ∙ sym (contains_versions w t other u)))

  pub versions_still : (t : List ℕ) → versions_of (with_entry w (place s p v) e) t other ≡ versions_of w t other
  versions_still t = ap (λ texts. in_order (by_precedence (named (in_order texts)))) (seen_still t)
