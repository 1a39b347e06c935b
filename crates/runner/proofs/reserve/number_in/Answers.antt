use Rattle.std.proofs.Common.{◌∙◌, IfSome, rules, subst, sym}
use Rattle.std.specs.Str.{IsUtf8}
use Rattle.runner.specs.Reserve.{IsFirstLine}
use Rattle.runner.proofs.FirstLine.{found_line, no_end, no_title, only_line}
use Rattle.runner.proofs.reserve.number_in.Goals as goal

pub returns-in_err-strip_prefix-clause-only : goal.returns-in_err-strip_prefix-clause-only
returns-in_err-strip_prefix-clause-only c = λ bytes small utf8 it. absurd (
    no_title c.args.front.now c.in_ok-text.text.now (search rules) bytes c.in_err-strip_prefix.ensures.cases it)

pub returns-in_err-number-clause-only : goal.returns-in_err-number-clause-only
returns-in_err-number-clause-only c = λ bytes small utf8 it. absurd (
    no_end c.args.front.now c.in_ok-text.text.now (search rules) c.in_ok-strip_prefix.field-0.now
    c.in_ok-strip_prefix.ensures.cases bytes c.in_err-number.ensures.cases it)

pub returns-clause-found : goal.returns-clause-found
returns-clause-found c =
    let front = c.args.front.now in
    subst (λ told. IfSome told (λ bytes. IsUtf8 front × IsFirstLine front bytes)) (sym c.ok-2.ensures.value)
    (found_line front c.in_ok-text.text.now (search rules) c.in_ok-strip_prefix.field-0.now
    c.in_ok-strip_prefix.ensures.cases c.in_ok-number.number.now c.in_ok-number.field-0-1.now
    c.in_ok-number.ensures.cases c.parse.result c.parse.ensures.value.0 (search rules))

pub returns-clause-only : goal.returns-clause-only
returns-clause-only c = λ bytes small utf8 it. c.ok-2.ensures.value
    ∙ only_line c.args.front.now c.in_ok-text.text.now (search rules) c.in_ok-strip_prefix.field-0.now
    c.in_ok-strip_prefix.ensures.cases c.in_ok-number.number.now c.in_ok-number.field-0-1.now
    c.in_ok-number.ensures.cases c.parse.result c.parse.ensures.value.0 bytes small it
