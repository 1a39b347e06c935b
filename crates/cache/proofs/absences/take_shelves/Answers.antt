use Rattle.std.proofs.Common.{◌≡◌, ◌∙◌, Option, Some, None, sym, ap}
use Rattle.std.specs.Prelude.{unwrap_or}
use Rattle.std.specs.FinMap as map
use Rattle.std.specs.FinSet as set
use Rattle.world.specs.World.{text_cmp}
use Rattle.world.specs.FinMaps.{by_text}
use Rattle.world.proofs.MapsTexts.{get_text, remove_text}
use Rattle.cache.proofs.absences.take_shelves.Goals as goal

pub returns-in-Some-clause-shelves : goal.returns-in-Some-clause-shelves
returns-in-Some-clause-shelves c =
    let found : Some c.in-Some.shelves ≡ map.get (by_text c.args.paths.now.entries) c.args.path.now =
    c.in-Some.ensures.value ∙ sym (get_text c.args.paths.now c.args.path.now) in
    ap (λ (o : Option (set.FinSet text_cmp)). unwrap_or o set.empty) found

pub returns-in-Some-clause-rest : goal.returns-in-Some-clause-rest
returns-in-Some-clause-rest c = remove_text c.args.paths.now c.remove.new.self c.args.path.now c.remove.ensures.updates

pub returns-in-None-clause-shelves : goal.returns-in-None-clause-shelves
returns-in-None-clause-shelves c =
    let found : None ≡ map.get (by_text c.args.paths.now.entries) c.args.path.now =
    c.in-None.ensures.value ∙ sym (get_text c.args.paths.now c.args.path.now) in
    c.new.ensures ∙ ap (λ (o : Option (set.FinSet text_cmp)). unwrap_or o set.empty) found

pub returns-in-None-clause-rest : goal.returns-in-None-clause-rest
returns-in-None-clause-rest c = remove_text c.args.paths.now c.remove.new.self c.args.path.now c.remove.ensures.updates
