use Rattle.std.proofs.Common.{◌∙◌, arith, codes}
use Rattle.std.specs.Str.Parse.{ExplainsUnsignedError, HasUnsignedDigitsIfOk, ParsesUnsigned}
use Rattle.clap.specs.Words.{found_of, rows_of}
use Rattle.clap.proofs.WalkLemmas.{one_text-rows}
use Rattle.cli.proofs.Needed.{number_read}
use Rattle.cli.proofs.asked.given_connections.Goals as goal

pub returns : goal.returns
returns c =
    let options = found_of c.args.options.now in
    rw c.ok.ensures.value (number_read (rows_of options) (codes "connections") 32 4294967295
    (λ t r. ParsesUnsigned 32 10 t r × ExplainsUnsignedError 10 t r × HasUnsignedDigitsIfOk t r) c.try_get_one.result
    (λ t r gives. gives.0) (omega arith)
    (λ e. c.try_get_one.ensures.none (one_text-rows options (codes "connections") ∙ e))
    (λ t e. c.try_get_one.ensures.value t (one_text-rows options (codes "connections") ∙ e)))
