use Rattle.std.proofs.Common.{inr, ◌∷◌, []}
use Rattle.csv.specs.Records.{fields_of}
use Rattle.commands.proofs.ImportLists.{read_begins}
use Rattle.commands.proofs.import.read_header.Goals as goal

pub returns-else-is_header : goal.returns-else-is_header
returns-else-is_header g c =
    λ list so. (
      inr (inr (
        fields_of c.read_next.new.fields,
        λ e. cc (c.if-is_header.ensures.1 e),
        read_begins g.R.Read.remaining list (fields_of c.read_next.new.fields ∷ []) c.read_next.new.reader
            (c.in-Fields.ensures list [] so),
      )),
      tt,
    )
