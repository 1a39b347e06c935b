use Rattle.std.proofs.Common.{◌∙◌, sym, ap}
use Rattle.std.specs.FinMap as map
use Rattle.world.proofs.MapsTexts.{get_text}
use Rattle.commands.proofs.memory_files.NamedFiles.get.Goals as goal

pub returns : goal.returns
returns c = c.get.ensures.value ∙ sym (get_text c.self.inside.files c.args.name.now)
    ∙ ap (λ m. map.get m c.args.name.now) c.self.view_is
