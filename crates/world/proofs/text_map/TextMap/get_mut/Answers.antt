use Rattle.std.proofs.Common.{◌∙◌, sym, ap, refl}
use Rattle.std.specs.FinMap as map
use Rattle.world.proofs.MapsTexts.{get_text, insert_text, at_some, same_entries}
use Rattle.world.proofs.text_map.TextMap.get_mut.Goals as goal

pub returns : goal.returns
returns g c =
    let k = c.args.key.now in (
      (
        refl,
        λ w. at_some c.get_mut.result c.get_mut.ensures.value
            (λ found. insert_text c.self.inside.tree (c.get_mut.follows.lender w) k w
            ((c.get_mut.follows.holds w).3 found) ∙ ap (λ m. map.insert m k w) c.self.view_is),
        same_entries c.self.inside.tree c.get_mut.follows.lender-at-none c.get_mut.follows.holds-at-none
            ∙ c.self.view_is,
      ),
      c.get_mut.ensures.value ∙ sym (get_text c.self.inside.tree k) ∙ ap (λ m. map.get m k) c.self.view_is,
    )
