use Rattle.std.proofs.Common.{◌≡◌, ◌∙◌, Option, Some, None, sym, ap}
use Rattle.std.specs.Prelude.{unwrap_or}
use Rattle.std.specs.FinMap as map
use Rattle.std.specs.FinSet as set
use Rattle.world.specs.World.{text_cmp}
use Rattle.world.proofs.MapsTexts.{get_text}
use Rattle.cache.proofs.absences.Absences.has.Goals as goal

pub returns-in-Some : goal.returns-in-Some
returns-in-Some c =
    let found : Some c.in-Some.shelves.now ≡ map.get c.args.self.now c.args.path.now =
    c.in-Some.ensures.value ∙ sym (get_text c.self.inside.paths c.args.path.now)
    ∙ ap (λ m. map.get m c.args.path.now) c.self.view_is in
    c.contains.ensures ∙ ap (λ (o : Option (set.FinSet text_cmp)). set.contains (unwrap_or o set.empty)
    c.args.shelf.now) found

pub returns-in-None : goal.returns-in-None
returns-in-None c =
    let found : None ≡ map.get c.args.self.now c.args.path.now =
    c.in-None.ensures.value ∙ sym (get_text c.self.inside.paths c.args.path.now)
    ∙ ap (λ m. map.get m c.args.path.now) c.self.view_is in
    sym (set.contains-empty text_cmp c.args.shelf.now)
    ∙ ap (λ (o : Option (set.FinSet text_cmp)). set.contains (unwrap_or o set.empty) c.args.shelf.now) found
