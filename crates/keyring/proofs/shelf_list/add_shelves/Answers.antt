use Rattle.std.proofs.Common.{◌∙◌, ap, refl}
use Rattle.std.specs.Prelude.{map as each, string_bytes}
use Rattle.std.specs.FinMap as map
use Rattle.world.specs.Lines.{in_order}
use Rattle.keyring.specs.Named.{shelves_in}
use Rattle.keyring.specs.ShelfList.{line_in, shelf_text}
use Rattle.keyring.proofs.Gathered.{gathers_first}
use Rattle.keyring.proofs.shelf_list.add_shelves.Goals as goal

pub loop-name-init : goal.loop-name-init
loop-name-init g c =
    gathers_first (λ w s. line_in s (map.get w.shelves s)) c.args.text.now.items shelf_text in_order _ _ _ _ shelves_in
    (λ w. refl)
    (ap (each string_bytes) c.into_iter-name-iterator.ensures.into_iter_gives ∙ c.iter-name-items.ensures)
    c.in_ok-names.ensures.reads
