use Rattle.std.proofs.Common.{inl, inr, refl, rules}
use Rattle.clap.specs.Values.{kind_of}
use Rattle.args.specs.Table.{texts}
use Rattle.cli.proofs.Needed.{found}
use Rattle.cli.proofs.Shown.{asked_for, error_shown, none_asked, none_shown}
use Rattle.cli.proofs.command.command_by.Goals as goal

pub returns-in-Err : goal.returns-in-Err
returns-in-Err g c = record {
  ended = c.show.result;
  errors_run = _;
  runs = inr (record {
    kind = kind_of c.in-Err.error;
    why = error_shown _ c.matches_of.result c.in-Err.error (search rules) c.matches_of.ensures.refuses;
    ends = c.show.ensures.ends;
    idle = refl;
    input = refl;
    output = c.show.ensures.output;
    silent = c.show.ensures.silent;
  });
  says = c.end.ensures.says;
  tells = c.end.ensures.status;
}

pub returns-in_default : goal.returns-in_default
returns-in_default g c = record {
  ended = _;
  errors_run = _;
  runs = inr (record {
    kind = kind_of c.no_form.result;
    why = none_shown (texts c.args.words.now) (kind_of c.no_form.result) c.no_form.ensures
        (none_asked (texts c.args.words.now) c.matches_of.result c.in-Ok.matches
        c.command_of.result (search rules) (search rules) c.matches_of.ensures.refuses c.matches_of.ensures.reads
        c.command_of.ensures);
    ends = c.show-in_default.ensures.ends;
    idle = refl;
    input = refl;
    output = c.show-in_default.ensures.output;
    silent = c.show-in_default.ensures.silent;
  });
  says = c.end-in_default.ensures.says;
  tells = c.end-in_default.ensures.status;
}

pub returns : goal.returns
returns g c = record {
  ended = c.of_command.result;
  errors_run = _;
  runs = inl (record {
    command = c.in-Some.command;
    asks = asked_for (texts c.args.words.now) c.matches_of.result c.in-Ok.matches c.in-Some.command (search rules)
        c.matches_of.ensures.refuses
        c.matches_of.ensures.reads (found c.command_of.result c.in-Some.command _ (search rules) c.command_of.ensures);
    told = c.run-told.result;
    errors_warned = _;
    warns = c.warn.ensures;
    explains = c.explain.ensures;
    runs = c.run-told.ensures.runs;
    flushes = c.run-told.ensures.flushed;
    cause = c.run-told.ensures.cause;
    ends = c.of_command.ensures;
  });
  says = c.end-2.ensures.says;
  tells = c.end-2.ensures.status;
}
