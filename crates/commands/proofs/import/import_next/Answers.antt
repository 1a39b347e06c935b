use Rattle.std.proofs.Common.{inr, refl, subst, ◌++◌, ◌∷◌, []}
use Rattle.csv.specs.Records.{fields_of}
use Rattle.commands.specs.ImportLine.{numbered, outcome_text}
use Rattle.commands.specs.ImportList.{HasRead, line_of_row}
use Rattle.commands.specs.Printed.{PrintsFront}
use Rattle.commands.proofs.ImportLists.{read_begins}
use Rattle.commands.proofs.Imports.{nothing_done}
use Rattle.commands.proofs.import.import_next.Goals as goal

pub returns-in-Some-clause-steps : goal.returns-in-Some-clause-steps
returns-in-Some-clause-steps g c =
    λ list rows so. record {
      through = nothing_done c.args.key.now _ _;
      closing = (c.in-Some.ensures list rows so).0;
      fails = (c.in-Some.ensures list rows so).1;
      output = refl;
    }

pub returns-in_default-row_of-clause-steps : goal.returns-in_default-row_of-clause-steps
returns-in_default-row_of-clause-steps g c =
    λ list rows so. record {
      through = nothing_done c.args.key.now _ _;
      closing = inr (
        fields_of c.read_row.new.fields,
        c.in_default-row_of.ensures,
        read_begins g.R.Read.remaining list (rows ++ fields_of c.read_row.new.fields ∷ []) c.read_row.new.reader
            (c.in_default.ensures list rows so),
      );
      fails = tt;
      output = refl;
    }

pub returns-in-Err-clause-steps : goal.returns-in-Err-clause-steps
returns-in-Err-clause-steps g c =
    λ list rows so.
    let row = c.in-Some-row_of.row in
    let does = c.import_row-outcome.ensures in
    let read = c.in_default.ensures list rows so in (
      record { line = line_of_row row; done = does.done },
      record {
        through = does.through;
        read = subst (λ f. HasRead g.R.Read.remaining list (rows ++ f ∷ []) c.read_row.new.reader)
            c.in-Some-row_of.ensures read;
      },
      c.in-Err.ensures.prints.0,
      subst (λ o. PrintsFront (g.O.Write.contents c.args.output.now) (g.O.Write.contents c.print_outcome.new.output)
          (numbered c.args.number (outcome_text o)))
          does.is c.in-Err.ensures.prints.1,
    )
