use Rattle.std.proofs.Common.{◌≡◌, ◌∙◌, ap, length, not, rules, sym, subst, take, tests, true}
use Rattle.std.specs.Char.{is_ascii_digit}
use Rattle.std.specs.List.{list_all}
use Rattle.std.specs.Option.{unwrap_or}
use Rattle.std.proofs.lemmas.Iterator.{YieldsList-from_slice}
use Rattle.std.proofs.lemmas.Iterator.Search.{position_from_yields_List}
use Rattle.control.specs.HealthText.{digits_len}
use Rattle.control.proofs.HealthPieces.{digits_front, found_or_len}
use Rattle.control.proofs.health_text.digits_len.Goals as goal

pub returns-clause-value : goal.returns-clause-value
returns-clause-value c =
    let text = c.args.text.now in
    let p = position_from_yields_List (λ b. not (is_ascii_digit b)) _ _ c.position.result c.position.ensures.ran
    (YieldsList-from_slice text cc) (λ x b q k. search (rules, tests)) in
    c.unwrap_or.ensures ∙ ap (λ o. unwrap_or o (length text)) p ∙ found_or_len (λ b. not (is_ascii_digit b)) text

pub returns-clause-digits : goal.returns-clause-digits
returns-clause-digits c =
    let text = c.args.text.now in
    let p = position_from_yields_List (λ b. not (is_ascii_digit b)) _ _ c.position.result c.position.ensures.ran
    (YieldsList-from_slice text cc) (λ x b q k. search (rules, tests)) in
    let is : c.unwrap_or.result ≡ digits_len text =
    c.unwrap_or.ensures ∙ ap (λ o. unwrap_or o (length text)) p ∙ found_or_len (λ b. not (is_ascii_digit b)) text in
    subst (λ n. list_all is_ascii_digit (take n text) ≡ true) (sym is) (digits_front text)
