use Rattle.std.proofs.Common.{arith, sym, refl}
use Rattle.framing.specs.declared.head_front.HeadState.TheVariants as state
use Rattle.framing.proofs.HeadFrontLemmas.{step, step_feed, token_other, uri_other, value_other, blank_feed}
use Rattle.framing.proofs.HeadFrontLemmas.{blank_return, return_feed, blank_token}
use Rattle.framing.proofs.HeadFrontLemmas.{method_token, method_space, target_more, line_token, name_token, name_colon}
use Rattle.framing.proofs.HeadFrontLemmas.{value_more, value_return}
use Rattle.framing.proofs.head_front.HeadState.after.Goals as goal

pub returns-in-Blank : goal.returns-in-Blank
returns-in-Blank c bytes stands =
    step_feed c.args.self state.Blank bytes c.args.byte c.in-Blank.is (omega (arith, c.if-byte-eq10.true))
    (blank_feed bytes) stands

pub returns-in-Blank-2 : goal.returns-in-Blank-2
returns-in-Blank-2 c bytes stands =
    step c.args.self state.Blank state.BlankReturn bytes c.args.byte 13 c.in-Blank-2.is
    (omega (arith, c.if-byte-eq13.true)) (λ e. omega (arith, e)) (blank_return bytes) stands

pub returns-in-Blank-3 : goal.returns-in-Blank-3
returns-in-Blank-3 c bytes stands =
    step c.args.self state.Blank state.Method bytes c.args.byte c.args.byte c.in-Blank-3.is refl
    (token_other c.args.byte c.if-is_token.ensures)
    (blank_token bytes c.args.byte (sym c.if-is_token.ensures)) stands

pub returns-in-BlankReturn : goal.returns-in-BlankReturn
returns-in-BlankReturn c bytes stands =
    step_feed c.args.self state.BlankReturn bytes c.args.byte c.in-BlankReturn.is (omega (arith, c.if-byte-eq10-2.true))
    (return_feed bytes) stands

pub returns-in-Method : goal.returns-in-Method
returns-in-Method c bytes stands =
    step c.args.self state.Method state.Method bytes c.args.byte c.args.byte c.in-Method.is refl
    (token_other c.args.byte c.if-is_token-2.ensures)
    (method_token bytes c.args.byte (sym c.if-is_token-2.ensures)) stands

pub returns-in-Method-2 : goal.returns-in-Method-2
returns-in-Method-2 c bytes stands =
    step c.args.self state.Method state.Target bytes c.args.byte 32 c.in-Method-2.is
    (omega (arith, c.if-byte-eq32.true)) (λ e. omega (arith, e)) (method_space bytes) stands

pub returns-in-Target : goal.returns-in-Target
returns-in-Target c bytes stands =
    step c.args.self state.Target state.Target bytes c.args.byte c.args.byte c.in-Target.is refl
    (uri_other c.args.byte c.if-is_uri.ensures)
    (target_more bytes c.args.byte (sym c.if-is_uri.ensures)) stands

pub returns-in-Line : goal.returns-in-Line
returns-in-Line c bytes stands =
    step c.args.self state.Line state.HeaderName bytes c.args.byte c.args.byte c.in-Line.is refl
    (token_other c.args.byte c.if-is_token-3.ensures)
    (line_token bytes c.args.byte (sym c.if-is_token-3.ensures)) stands

pub returns-in-HeaderName : goal.returns-in-HeaderName
returns-in-HeaderName c bytes stands =
    step c.args.self state.HeaderName state.HeaderName bytes c.args.byte c.args.byte c.in-HeaderName.is refl
    (token_other c.args.byte c.if-is_token-4.ensures)
    (name_token bytes c.args.byte (sym c.if-is_token-4.ensures)) stands

pub returns-in-HeaderName-2 : goal.returns-in-HeaderName-2
returns-in-HeaderName-2 c bytes stands =
    step c.args.self state.HeaderName state.HeaderValue bytes c.args.byte 58 c.in-HeaderName-2.is
    (omega (arith, c.if-byte-eq58.true)) (λ e. omega (arith, e)) (name_colon bytes) stands

pub returns-in-HeaderValue : goal.returns-in-HeaderValue
returns-in-HeaderValue c bytes stands =
    step c.args.self state.HeaderValue state.HeaderValue bytes c.args.byte c.args.byte c.in-HeaderValue.is refl
    (value_other c.args.byte c.if-is_value.ensures)
    (value_more bytes c.args.byte (sym c.if-is_value.ensures)) stands

pub returns-in-HeaderValue-2 : goal.returns-in-HeaderValue-2
returns-in-HeaderValue-2 c bytes stands =
    step c.args.self state.HeaderValue state.Return bytes c.args.byte 13 c.in-HeaderValue-2.is
    (omega (arith, c.if-byte-eq13-2.true)) (λ e. omega (arith, e)) (value_return bytes) stands
