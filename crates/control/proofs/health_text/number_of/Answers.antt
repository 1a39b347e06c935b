use Rattle.std.proofs.Common.{◌≡◌, ◌≢◌, ◌<◌, arith, get_or, length, subst, sym}
use Rattle.std.specs.Str.Parse.{ParsesUnsigned}
use Rattle.control.proofs.HealthAscii.{digits_utf8, parsed_none}
use Rattle.control.proofs.health_text.number_of.Goals as goal
use Rattle.control.proofs.health_text.number_of.Goals.{else-digits-gt1-via-else-digits-gt1}
use Rattle.control.proofs.health_text.number_of.Goals.{else-digits-gt1-via-then-digits-gt1+else-digits-eq48}

pub returns-in_default : goal.returns-in_default
returns-in_default c = absurd (c.in_default.ensures.cases.0 (digits_utf8 c.args.digits.now c.requires))

pub returns-in-Err : goal.returns-in-Err
returns-in-Err c =
    let ds = c.args.digits.now in
    let apart : 1 < length ds → get_or ds 0 0 ≢ 48 = elim c.else-digits-gt1.branch [
      | else-digits-gt1-via-then-digits-gt1+else-digits-eq48 w ↦ λ many. w.if-digits-eq48.false
      | else-digits-gt1-via-else-digits-gt1 w ↦ λ many. absurd (let few = w.if-digits-gt1.false in omega (arith, many, few))
    ] in
    sym (parsed_none ds c.parse.result c.requires apart
    (subst (λ text. ParsesUnsigned 64 10 text c.parse.result) c.in-Ok.ensures.cases.0 c.parse.ensures.value.0) _ c.in-Err.is)
