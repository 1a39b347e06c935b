use Rattle.std.proofs.Common.{inr, ◌∙◌, ap}
use Rattle.csv.specs.Reading.{builder_config, builder_is_flexible, builder_names_headers, builder_trim}
use Rattle.commands.proofs.ImportLists.{at_beginning}
use Rattle.commands.proofs.import_list.open.Goals as goal

pub returns : goal.returns
returns g c =
    let made = c.from_reader.ensures in
    let flexible = c.flexible.ensures in
    let plain = c.has_headers.ensures in
    let new = c.new.ensures in
    record {
      trim = made.trim ∙ ap builder_trim flexible ∙ ap builder_trim plain ∙ new.trim;
      ready = inr (inr (
        made.has_headers ∙ ap builder_names_headers flexible
            ∙ ap builder_names_headers plain,
        made.headers,
      ));
      config = made.config ∙ ap builder_config flexible ∙ ap builder_config plain ∙ new.config;
      flexible = made.flexible ∙ ap builder_is_flexible flexible;
      at = rw made.state (at_beginning _ _ made.source);
    }
