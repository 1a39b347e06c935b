use Rattle.std.proofs.Common.{◌+◌, ap, arith}
use Rattle.framing.specs.Framing.{Framing}
use Rattle.framing.proofs.BegunLemmas.{left_behind, same_framing}
use Rattle.framing.proofs.framer.Framer.copy_body.Goals as goal

pub returns-clause-rest : goal.returns-clause-rest
returns-clause-rest c =
    let start = c.self.inside.start in
    let held = ap (λ (f : Framing). f.held) c.self.view_is in
    let failure = ap (λ (f : Framing). f.failure) c.self.view_is in
    same_framing _ _ _ _ (left_behind start (c.args.head + c.args.body) _ c.self.inside.bytes.items _ held
    (omega arith)) failure
