use Rattle.std.proofs.Common.{◌∙◌, sym, ap, string_bytes}
use Rattle.std.proofs.Common.{map as each}
use Rattle.world.specs.Lines.{in_order}
use Rattle.world.proofs.MapsSets.{texts_in_order}
use Rattle.world.proofs.text_set.TextSet.iter.Goals as goal

pub returns : goal.returns
returns c = ap (each string_bytes) c.iter.ensures.rest
    ∙ sym (texts_in_order c.self.inside.tree.keys c.iter.ensures.ordered) ∙ ap in_order c.self.view_is
