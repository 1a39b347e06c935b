use Rattle.std.proofs.Common.{◌∙◌, ap}
use Rattle.std.specs.Prelude.{map as each, string_bytes}
use Rattle.world.specs.Lines.{in_order}
use Rattle.world.specs.Visible.{paths_seen}
use Rattle.commands.specs.Inventory.{lines_of, rows_of_text, rows_seen}
use Rattle.commands.specs.Lines.{text_in}
use Rattle.keyring.proofs.Gathered.{gathers_first}
use Rattle.commands.proofs.InventoryLines.{shelf_lines}
use Rattle.commands.proofs.inventory.add_paths.Goals as goal

pub loop-text-init : goal.loop-text-init
loop-text-init g c =
    let s = c.args.shelf.now in
    record {
      between = c.requires;
      gathers = gathers_first (λ w t. lines_of (rows_of_text w s t)) (text_in c.args.lines.now)
          (λ w. lines_of (rows_seen w s)) in_order
          _ _ _ _ (λ w. paths_seen w s) (λ w. shelf_lines w s)
          (ap (each string_bytes) c.into_iter-text-iterator.ensures.into_iter_gives ∙ c.iter-text-items.ensures)
          c.in_ok-paths.ensures.reads;
    }
