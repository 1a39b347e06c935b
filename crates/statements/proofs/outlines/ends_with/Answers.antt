use Rattle.std.proofs.Common.{rules, to_z-of_z, w64, SFits, ap, ◌∙◌, ◌≡◌, ◌+◌}
use Rattle.std.specs.Prelude.{not}
use Rattle.sqlite.specs.Held.{state}
use Rattle.statements.proofs.OutlineLemmas.{short_ends, none_follows}
use Rattle.statements.proofs.outlines.ends_with.Goals as goal

pub returns-then-last-lt-PIECE_SIZE-clause-answer : goal.returns-then-last-lt-PIECE_SIZE-clause-answer
returns-then-last-lt-PIECE_SIZE-clause-answer g c clean w stands = λ _ zip is. short_ends zip c.args.last (search rules)

pub returns-in_ok-find_piece-in-Some-clause-answer : goal.returns-in_ok-find_piece-in-Some-clause-answer
returns-in_ok-find_piece-in-Some-clause-answer g c clean w stands =
    let old = state g.S.Store c.args.conn.now in
    let range : SFits w64 c.args.id = search rules in
    let h = rw (to_z-of_z {w = w64} {z = c.args.id} range) at (c.in_ok-find_piece-in-Some.ensures.answer clean w
    stands) in
    let next : c.in-Some.next ≡ c.args.last.number + 1 = search rules in
    λ ends zip is. none_follows old.now.trees c.args.id c.in-Some.next c.args.last c.in_ok-find_piece-in-Some.field-0
    next h.1 (c.is_none.ensures ∙ ap not ends) zip is
