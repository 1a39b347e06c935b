use Rattle.std.proofs.Common.{◌∙◌, sym, ap, string_bytes}
use Rattle.std.proofs.Common.{map as each}
use Rattle.std.specs.FinMap as map
use Rattle.world.proofs.MapsTexts.{keys_text}
use Rattle.world.proofs.text_map.TextMap.keys.Goals as goal

pub returns : goal.returns
returns g c = ap (each string_bytes) c.keys.ensures.rest ∙ sym (keys_text c.self.inside.tree c.keys.ensures.ordered)
    ∙ ap map.keys c.self.view_is
