use Rattle.std.proofs.Common.{◌≡◌, not, rules}
use Rattle.std.proofs.lemmas.Fn.{always_returns_same}
use Rattle.gomod.specs.Paths.{is_below}
use Rattle.gomod.proofs.CoverageLists.{ascends-by}
use Rattle.gomod.proofs.coverage.ascend.Goals as goal

pub returns : goal.returns
returns c = ascends-by _ _
    (c.is_sorted_by.ensures.cases (λ x y. not (is_below y x))
    (always_returns_same _ (λ a r. r ≡ not (is_below a.1.0.now a.0.now)) _ (λ a r f' k. search rules)))
