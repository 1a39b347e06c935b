use Rattle.std.proofs.Common.{ap, arith}
use Rattle.framing.specs.Framing.{Framing}
use Rattle.framing.proofs.BegunLemmas.{unfinished_more}
use Rattle.framing.proofs.framer.Framer.missing.Goals as goal

pub returns : goal.returns
returns c bytes few =
    unfinished_more c.self.inside.start c.self.inside.wanted c.self.inside.bytes.items _ bytes
    (ap (λ (f : Framing). f.held) c.self.view_is) c.self.invariant.2
    (omega (arith, c.saturating_sub.ensures, c.len.ensures, c.self.inside.bytes.ok))
