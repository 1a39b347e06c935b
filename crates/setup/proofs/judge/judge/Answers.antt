use Rattle.std.proofs.Common.{◌∙◌, sym, true≢false, refl}
use Rattle.setup.proofs.PartLemmas.{listed_part}
use Rattle.setup.proofs.judge.judge.Goals as goal

pub returns-in-Ok-true-clause-ready : goal.returns-in-Ok-true-clause-ready
returns-in-Ok-true-clause-ready g c = λ clean w stands _.
    (rw c.in-Some.is at (c.in_ok-shelves.ensures.answer clean w stands)).0 refl

pub returns-in_default-clause-verdict : goal.returns-in_default-clause-verdict
returns-in_default-clause-verdict g c = λ clean good w x sw sx. (
  (rw c.in_default.is at (c.in_ok-shelves.ensures.answer clean w sw.0)).1 sw.1,
  λ never. absurd (true≢false (sym never)),
)

pub returns-in-Ok-true-clause-verdict : goal.returns-in-Ok-true-clause-verdict
returns-in-Ok-true-clause-verdict g c = λ clean good w x sw sx.
    let listed = (rw c.in-Some.is at (c.in_ok-shelves.ensures.answer clean w sw.0)).1 sw.1 in
    let same = listed_part w _ _ listed in
    let blank = c.in-Ok-true.ensures.answer good x sx.0 sx.1 in
    ((listed.0, listed.1.are, same, blank.1.0 c.in-Ok-true.field-0-test), λ _. blank.0)

pub returns-in-Ok-false-clause-verdict : goal.returns-in-Ok-false-clause-verdict
returns-in-Ok-false-clause-verdict g c = λ clean good w x sw sx.
    let listed = (rw c.in-Some.is at (c.in_ok-shelves.ensures.answer clean w sw.0)).1 sw.1 in
    let blank = c.in-Ok-false.ensures.answer good x sx.0 sx.1 in (
      (listed.0, λ e. true≢false (sym (blank.1.1 e) ∙ c.in-Ok-false.field-0-test)),
      λ never.
          absurd (true≢false (sym never)),
    )
