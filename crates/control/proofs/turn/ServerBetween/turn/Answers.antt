use Rattle.std.proofs.Common.{◌≡◌, false, rules}
use Rattle.control.proofs.turn.ServerBetween.turn.Goals as goal

pub returns-clause-notes : goal.returns-clause-notes
returns-clause-notes g c =
    let ends : c.take_turn-after.result.shelves.now ≡ c.shelves-1.given.0 = search rules in
    let kept : c.take_turn-after.result.lost ≡ false = search rules in
    rw ends at (c.take_turn-after.ensures.newcomers kept)
