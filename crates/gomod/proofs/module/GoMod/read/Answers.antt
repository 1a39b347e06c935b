use Rattle.std.proofs.Common.{subst, sym}
use Rattle.gomod.specs.Reading.{Gives}
use Rattle.gomod.proofs.Pass.{reading-no_text, reading-text}
use Rattle.gomod.proofs.module.GoMod.read.Goals as goal

pub returns-in_default-clause-value : goal.returns-in_default-clause-value
returns-in_default-clause-value c = reading-no_text c.args.bytes.now c.in_default.ensures.cases.0

pub returns-in_default-clause-memory : goal.returns-in_default-clause-memory
returns-in_default-clause-memory c = λ h. cc

pub returns-clause-value : goal.returns-clause-value
returns-clause-value c =
    let is = reading-text c.args.bytes.now c.in-Ok.text.now c.in-Ok.ensures.cases.0 c.in-Ok.ensures.cases.1 in
    subst (Gives (λ m. m) c.read_text.result) (sym is) c.read_text.ensures

pub returns-clause-memory : goal.returns-clause-memory
returns-clause-memory c = λ h. c.in-Ok.ensures.cases.1
