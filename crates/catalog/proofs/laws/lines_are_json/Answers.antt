use Rattle.catalog.proofs.Lines.{lines_are_json}
use Rattle.catalog.proofs.laws.lines_are_json.Goals as goal

pub returns : goal.returns
returns c = lines_are_json
