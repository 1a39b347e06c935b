use Rattle.std.proofs.lemmas.List.{at_drop_more}
use Rattle.world.specs.Versions.{versions_of}
use Rattle.commands.specs.Inventory.{lines_of, row_at, rows_of_path}
use Rattle.commands.specs.Lines.{text_in}
use Rattle.keyring.proofs.Gathered.{gathered_next, gathers_first}
use Rattle.commands.proofs.InventoryLines.{path_lines}
use Rattle.commands.proofs.inventory.add_path.Goals as goal

pub loop-version-init : goal.loop-version-init
loop-version-init g c =
    let s = c.args.shelf.now in
    let p = c.args.path.now in
    record {
      between = c.requires.between;
      gathers = gathers_first (λ w v. lines_of (row_at w s p v)) (text_in c.args.lines.now)
          (λ w. lines_of (rows_of_path w s p)) (λ vs. vs)
          _ _ _ _ (λ w. versions_of w s p) (λ w. path_lines w s p) c.as_slice-version-items.ensures
          c.in_ok-versions.ensures.reads;
    }

pub loop-version-preserved : goal.loop-version-preserved
loop-version-preserved g c =
    let s = c.args.shelf.now in
    let p = c.args.path.now in
    let vs = c.as_slice-version-items.result.now in
    let at = c.loop-version.version-index in
    record {
      between = c.in_ok-add_version.ensures.between;
      gathers = gathered_next (λ w v. lines_of (row_at w s p v)) (text_in c.args.lines.now)
          (λ w. lines_of (rows_of_path w s p)) _ _ _ _ _ _
          c.version-item.result _ _ (at_drop_more (λ rest. rest) vs at c.version-item.result c.loop-version-test.true)
          c.version-item.is
          c.loop-version.invariant.gathers c.in_ok-add_version.ensures.adds;
    }
