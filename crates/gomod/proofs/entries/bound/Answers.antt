use Rattle.std.proofs.Common.{◌≡◌, ap, sym, ◌∙◌, subst}
use Rattle.gomod.specs.Paths.{version_of}
use Rattle.gomod.specs.Reading.{Fails, version_fault, version_found, version_word}
use Rattle.modlex.specs.Symbols.{symbol}
use Rattle.modlex.specs.Words.{value_of}
use Rattle.gomod.proofs.Orders.{version_of-canonical, version_of-unread}
use Rattle.gomod.proofs.entries.bound.Goals as goal

pub returns-in-Ok : goal.returns-in-Ok
returns-in-Ok c =
    let is : c.as_str.result.now ≡ value_of (symbol c.args.word.now) = c.as_str.ensures.value
    ∙ c.in_ok-text.ensures.value in
    ap (λ t. version_found c.args.line (version_of t)) (sym is)
    ∙ version_of-canonical c.args.line c.as_str.result.now c.in-Ok.bound c.in-Ok.ensures.ok

pub returns : goal.returns
returns c =
    let is : c.as_str.result.now ≡ value_of (symbol c.args.word.now) = c.as_str.ensures.value
    ∙ c.in_ok-text.ensures.value in
    subst (λ e. Fails e (version_word c.args.line (symbol c.args.word.now))) (sym c.version_fault.ensures)
    (subst (λ t. Fails (version_fault c.args.line c.in-Err.fault) (version_found c.args.line (version_of t))) is
    (version_of-unread c.args.line c.as_str.result.now c.in-Err.fault c.in-Err.ensures.err))
