use Rattle.std.proofs.Common.{◌≡◌, ◌&&◌, not, true, false, take, drop, length, ap, sym, ◌∙◌, rules, tests}
use Rattle.std.specs.Char.{is_ascii_digit}
use Rattle.std.specs.Option.{unwrap_or}
use Rattle.std.proofs.lemmas.Iterator.{YieldsList-from_slice}
use Rattle.std.proofs.lemmas.Iterator.Search.{position_from_yields_List}
use Rattle.gomod.specs.GoVersion.{digits_len, is_decimal, is_tail}
use Rattle.gomod.proofs.GoVersionLaw.{digits_are, minor_is}
use Rattle.gomod.proofs.go_version.is_minor.Goals as goal

pub returns-then-is_decimal : goal.returns-then-is_decimal
returns-then-is_decimal c =
    let rest = c.args.rest.now in
    let n = c.unwrap_or-end.result in
    let p = position_from_yields_List (λ b. not (is_ascii_digit b)) _ _ c.position.result c.position.ensures.ran
    (YieldsList-from_slice rest cc) (λ x b q k. search (rules, tests)) in
    let e : n ≡ digits_len rest = c.unwrap_or-end.ensures ∙ ap (λ o. unwrap_or o (length rest)) p ∙ digits_are rest in
    let front : is_decimal (take n rest) ≡ true = sym (ap is_decimal c.split_at.ensures.front)
    ∙ sym c.is_decimal.ensures ∙ c.if-is_decimal.true in
    c.is_tail.ensures ∙ ap is_tail c.split_at.ensures.back
    ∙ ap (λ b. b && is_tail (drop n rest)) (sym front)
    ∙ minor_is rest n e

pub returns-else-is_decimal : goal.returns-else-is_decimal
returns-else-is_decimal c =
    let rest = c.args.rest.now in
    let n = c.unwrap_or-end.result in
    let p = position_from_yields_List (λ b. not (is_ascii_digit b)) _ _ c.position.result c.position.ensures.ran
    (YieldsList-from_slice rest cc) (λ x b q k. search (rules, tests)) in
    let e : n ≡ digits_len rest = c.unwrap_or-end.ensures ∙ ap (λ o. unwrap_or o (length rest)) p ∙ digits_are rest in
    let front : is_decimal (take n rest) ≡ false = sym (ap is_decimal c.split_at.ensures.front)
    ∙ sym c.is_decimal.ensures ∙ c.if-is_decimal.false in
    c.if-is_decimal.false ∙ ap (λ b. b && is_tail (drop n rest)) (sym front) ∙ minor_is rest n e
