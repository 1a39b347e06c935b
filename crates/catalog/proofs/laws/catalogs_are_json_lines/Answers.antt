use Rattle.catalog.proofs.Lines.{catalogs_are_json_lines}
use Rattle.catalog.proofs.laws.catalogs_are_json_lines.Goals as goal

pub returns : goal.returns
returns c = catalogs_are_json_lines
