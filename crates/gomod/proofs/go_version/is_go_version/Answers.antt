use Rattle.std.proofs.Common.{◌≡◌, ◌+◌, ◌==◌, ◌&&◌, true, false, take, drop, ap, sym, ◌∙◌, rules, tests}
use Rattle.std.proofs.lemmas.Iterator.{YieldsList-from_slice}
use Rattle.std.proofs.lemmas.Iterator.Search.{position_from_yields_List}
use Rattle.gomod.specs.GoVersion.{is_decimal, is_minor}
use Rattle.gomod.proofs.CoverageLists.{rest-all}
use Rattle.gomod.proofs.GoVersionLaw.{dot_is, dot_within, no_dot}
use Rattle.gomod.proofs.go_version.is_go_version.Goals as goal

pub returns-in_default : goal.returns-in_default
returns-in_default c =
    let p = position_from_yields_List (λ b. b == 46) _ _ c.position.result c.position.ensures.ran
    (YieldsList-from_slice c.args.text.now cc) (λ x b q k. search (rules, tests)) in
    no_dot c.args.text.now (sym c.in_default.is ∙ p)

pub returns-then-is_decimal : goal.returns-then-is_decimal
returns-then-is_decimal c =
    let text = c.args.text.now in
    let i = c.in-Some.dot in
    let p = position_from_yields_List (λ b. b == 46) _ _ c.position.result c.position.ensures.ran
    (YieldsList-from_slice text cc) (λ x b q k. search (rules, tests)) in
    let h = sym c.in-Some.is ∙ p in
    let front : is_decimal (take i text) ≡ true = sym c.is_decimal.ensures ∙ c.if-is_decimal.true in
    c.is_minor.ensures ∙ ap is_minor (rest-all (i + 1) text (dot_within text i h))
    ∙ ap (λ b. b && is_minor (drop (i + 1) text)) (sym front)
    ∙ dot_is text i h

pub returns-else-is_decimal : goal.returns-else-is_decimal
returns-else-is_decimal c =
    let text = c.args.text.now in
    let i = c.in-Some.dot in
    let p = position_from_yields_List (λ b. b == 46) _ _ c.position.result c.position.ensures.ran
    (YieldsList-from_slice text cc) (λ x b q k. search (rules, tests)) in
    let front : is_decimal (take i text) ≡ false = sym c.is_decimal.ensures ∙ c.if-is_decimal.false in
    c.if-is_decimal.false ∙ ap (λ b. b && is_minor (drop (i + 1) text)) (sym front)
    ∙ dot_is text i (sym c.in-Some.is ∙ p)
