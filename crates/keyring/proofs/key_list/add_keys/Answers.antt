use Rattle.std.proofs.Common.{◌∙◌, ap, refl}
use Rattle.std.specs.Prelude.{map as each, string_bytes}
use Rattle.std.specs.FinMap as map
use Rattle.world.specs.Lines.{in_order}
use Rattle.keyring.specs.Named.{keys_in}
use Rattle.keyring.specs.KeyList.{key_lines, lines_of}
use Rattle.keyring.proofs.Gathered.{gathers_first}
use Rattle.keyring.proofs.key_list.add_keys.Goals as goal

pub loop-key-init : goal.loop-key-init
loop-key-init g c =
    gathers_first (λ w k. lines_of k (map.get w.keys k)) c.args.lines.now.items key_lines in_order _ _ _ _ keys_in
    (λ w. refl)
    (ap (each string_bytes) c.into_iter-key-iterator.ensures.into_iter_gives ∙ c.iter-key-items.ensures)
    c.in_ok-keys.ensures.reads
