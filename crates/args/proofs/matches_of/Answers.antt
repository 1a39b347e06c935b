use Rattle.std.proofs.Common.{ap, refl, subst, true, ◌≡◌, ◌∙◌}
use Rattle.std.proofs.lemmas.Result.{IfOk-weaker}
use Rattle.clap.specs.Words.{App, FailsBy, app_of, fault_of, is_simple, is_simple_and_free, subcommand_of}
use Rattle.args.specs.Table.{program, texts}
use Rattle.args.proofs.matches_of.Goals as goal

simple : is_simple program ≡ true
simple = refl

free : is_simple_and_free program ≡ true
free = refl

pub returns : goal.returns
returns c =
    let is : app_of c.in_ok-parser.field-0 ≡ program = c.in_ok-parser.ensures in
    let parse = c.try_get_matches_from in
    record {
      reads = IfOk-weaker parse.result _ _
          (λ m h. (h (ap is_simple is ∙ simple)).1 ∙ ap (λ (a : App). subcommand_of a (texts c.args.words.now)) is)
          parse.ensures.matches;
      refuses = subst (λ (a : App). FailsBy (fault_of a (texts c.args.words.now)) parse.result) is
          (parse.ensures.kinds (ap is_simple_and_free is ∙ free));
    }
