use Rattle.std.specs.Prelude.{◌++◌, codes}
use Rattle.std.proofs.lemmas.Result.{err_from_is_err_and}
use Rattle.commands.specs.Ending.{word}
use Rattle.commands.proofs.Imports.{fails_later}
use Rattle.commands.proofs.Written.{begins_both, writes_after}
use Rattle.commands.proofs.exit.write_line.Goals as goal

pub returns : goal.returns
returns g c = record {
  bytes = writes_after _ _ _ _ _ _ c.in_ok-write_bytes.ensures.bytes
      (rw (c.as_bytes.ensures.value, c.word.ensures) at c.write_both.ensures.bytes);
  fails = fails_later _ _ _ c.write_both.result c.in_ok-write_bytes.ensures.fails c.write_both.ensures.fails;
}

pub returns-in_err-write_bytes : goal.returns-in_err-write_bytes
returns-in_err-write_bytes g c =
    let wrote = c.in_err-write_bytes.ensures.bytes in
    let returned = err_from_is_err_and c.from_residual.result c.from_residual.ensures.1 in
    record {
      bytes = rw (returned.1, returned.2)
          (wrote.0, begins_both _ _ (codes "goshelf: ") (word c.args.refusal ++ codes "\n") wrote.1);
      fails = rw returned.1 c.in_err-write_bytes.ensures.fails;
    }
