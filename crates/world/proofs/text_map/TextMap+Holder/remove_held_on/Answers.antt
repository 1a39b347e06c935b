use Rattle.std.proofs.Common.{◌≡◌, ◌∙◌, ap, refl, rules, filter}
use Rattle.std.specs.FinMap as map
use Rattle.std.specs.Prelude.{not}
use Rattle.std.proofs.lemmas.Map.Entries.{filter_from_retain_pairs}
use Rattle.world.specs.World.{is_held_on}
use Rattle.world.proofs.MapsHeld.{is_elsewhere, without_held}
use Rattle.world.proofs.text_map.TextMap+Holder.remove_held_on.Goals as goal

pub returns : goal.returns
returns c =
    let s = c.args.shelf.now in
    let m = c.self.inside.tree in
    let left : c.retain.new.self.entries ≡ filter (λ e. is_elsewhere s e.1) m.entries =
    filter_from_retain_pairs _ (λ f. f.0.now.now ≡ s) (λ e. is_elsewhere s e.1)
    (λ g k v b w g' i t. (search rules, search rules, search rules))
    _ _ _ refl c.retain.ensures.filtered in
    without_held m c.retain.new.self s c.retain.ensures.was_ordered left
    ∙ ap (λ n. map.retain_keys n (λ k. not (is_held_on s (map.get n k)))) c.self.view_is
