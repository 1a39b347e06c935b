use Rattle.std.proofs.Common.{◌∙◌, ap}
use Rattle.std.specs.Prelude.{string_bytes}
use Rattle.std.specs.FinMap as map
use Rattle.world.proofs.MapsTexts.{insert_text}
use Rattle.commands.proofs.memory_files.NamedFiles.insert.Goals as goal

pub returns-clause-ok : goal.returns-clause-ok
returns-clause-ok c =
    insert_text c.self.inside.files c.insert.new.self (string_bytes c.in_ok-name.name) c.in_ok-bytes.bytes
    c.in_ok-insert.ensures.updates
    ∙ ap (λ m. map.insert m (string_bytes c.in_ok-name.name) c.in_ok-bytes.bytes) c.self.view_is
    ∙ ap (λ k. map.insert c.args.self.now k c.in_ok-bytes.bytes) c.in_ok-name.ensures.ok
    ∙ ap (λ v. map.insert c.args.self.now c.args.name.now v) c.in_ok-bytes.ensures
