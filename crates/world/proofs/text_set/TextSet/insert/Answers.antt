use Rattle.std.proofs.Common.{◌∙◌, ap}
use Rattle.std.specs.Prelude.{string_bytes}
use Rattle.std.specs.FinSet as set
use Rattle.world.proofs.MapsSets.{insert_as_set}
use Rattle.world.proofs.text_set.TextSet.insert.Goals as goal

pub returns-clause-ok : goal.returns-clause-ok
returns-clause-ok c =
    insert_as_set c.self.inside.tree c.insert.new.self (string_bytes c.args.text) c.in_ok-insert.ensures.updates
    ∙ ap (λ s. set.insert s (string_bytes c.args.text)) c.self.view_is
