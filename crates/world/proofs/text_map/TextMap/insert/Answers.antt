use Rattle.std.proofs.Common.{◌∙◌, ap}
use Rattle.std.specs.Prelude.{string_bytes}
use Rattle.std.specs.FinMap as map
use Rattle.world.proofs.MapsTexts.{insert_text}
use Rattle.world.proofs.text_map.TextMap.insert.Goals as goal

pub returns-clause-ok : goal.returns-clause-ok
returns-clause-ok g c =
    insert_text c.self.inside.tree c.insert.new.self (string_bytes c.args.key) c.args.value
    c.in_ok-insert.ensures.updates
    ∙ ap (λ m. map.insert m (string_bytes c.args.key) c.args.value) c.self.view_is
