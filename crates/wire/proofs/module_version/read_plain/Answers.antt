use Rattle.std.proofs.Common.{◌≡◌, sym, true}
use Rattle.std.specs.List.{list_all}
use Rattle.wire.proofs.PlainLemmas.{plain-itself, plain-no_text, plain-some, plain-refused}
use Rattle.wire.specs.ModuleVersion.{stands_for_itself}
use Rattle.wire.proofs.module_version.read_plain.Goals as goal

pub returns-in_default : goal.returns-in_default
returns-in_default c = sym (plain-no_text c.args.bytes.now c.in_default.ensures.cases.0)

pub returns-in-Ok-unescape : goal.returns-in-Ok-unescape
returns-in-Ok-unescape c =
    let text = c.in-Ok.ensures.cases in
    let is = c.in-Ok-unescape.ensures.ok in
    sym (plain-some c.args.bytes.now _ text.1 (rw text.0 at is))

pub returns-in-Err-Upper : goal.returns-in-Err-Upper
returns-in-Err-Upper c =
    let is = c.in-Err-Upper.field-0-is in
    sym (plain-refused c.args.bytes.now _ c.in-Err-Upper.field-0 c.in-Ok.ensures.cases.0 c.in-Err-Upper.ensures.err
    (λ memory. cc (is, memory)))

pub returns-in-Err-Bang : goal.returns-in-Err-Bang
returns-in-Err-Bang c =
    let is = c.in-Err-Bang.field-0-is in
    sym (plain-refused c.args.bytes.now _ c.in-Err-Bang.field-0 c.in-Ok.ensures.cases.0 c.in-Err-Bang.ensures.err
    (λ memory. cc (is, memory)))

pub returns-then-stand_for_themselves : goal.returns-then-stand_for_themselves
returns-then-stand_for_themselves c =
    let text = c.in-Ok.ensures.cases in
    let themselves : list_all stands_for_itself c.args.bytes.now ≡ true =
    cc (c.stand_for_themselves.ensures, c.if-stand_for_themselves.true) in
    rw text.0 (sym (plain-itself c.args.bytes.now text.1 themselves))
