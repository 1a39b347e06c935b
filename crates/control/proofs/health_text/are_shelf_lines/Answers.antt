use Rattle.std.proofs.Common.{◌≡◌, ◌∙◌, ◌+◌, ◌-◌, ℕ, List, ap, arith, suc, sym}
use Rattle.control.specs.HealthText.{are_shelf_lines, some_passes}
use Rattle.control.proofs.health_text.are_shelf_lines.Goals as goal

pub loop-preserved : goal.loop-preserved
loop-preserved c =
    let left = c.args.count - (c.loop.counter + 1) in
    let less : c.args.count - c.loop.counter ≡ suc left = omega (arith, c.loop-test.true) in
    sym (ap (some_passes (λ (x : List ℕ × List ℕ). are_shelf_lines left x.0 x.1)) c.in-Some.ensures)
    ∙ ap (λ n. are_shelf_lines n c.loop.last.now c.loop.rest.now) (sym less)
    ∙ c.loop.invariant
