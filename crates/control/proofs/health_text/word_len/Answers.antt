use Rattle.std.proofs.Common.{◌==◌, ◌∙◌, ap, length, rules, tests}
use Rattle.std.specs.Option.{unwrap_or}
use Rattle.std.proofs.lemmas.Iterator.{YieldsList-from_slice}
use Rattle.std.proofs.lemmas.Iterator.Search.{position_from_yields_List}
use Rattle.control.proofs.HealthPieces.{found_or_len}
use Rattle.control.proofs.health_text.word_len.Goals as goal

pub returns-clause-value : goal.returns-clause-value
returns-clause-value c =
    let text = c.args.text.now in
    let p = position_from_yields_List (λ b. b == 32) _ _ c.position.result c.position.ensures.ran
    (YieldsList-from_slice text cc) (λ x b q k. search (rules, tests)) in
    c.unwrap_or.ensures ∙ ap (λ o. unwrap_or o (length text)) p ∙ found_or_len (λ b. b == 32) text
