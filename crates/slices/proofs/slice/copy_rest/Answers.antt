use Rattle.std.proofs.Common.{◌≡◌, ◌+◌, Some, ap, to_z-of_z, w64, SFits, rules}
use Rattle.sqlite.specs.Held.{state}
use Rattle.slices.proofs.HoldLemmas.{continues, ends}
use Rattle.slices.proofs.slice.copy_rest.Goals as goal

pub returns-in-Some-clause-copies : goal.returns-in-Some-clause-copies
returns-in-Some-clause-copies g c clean good w later stands part zip =
    let a = state g.F.Store c.args.tx.now.conn.now in
    let b = state g.F.Store c.copy_pieces.new.tx.conn.now in
    let v = c.args.version in
    let range : SFits w64 v.id = search rules in
    let copies = rw (to_z-of_z {w = w64} {z = v.id} range) at c.in_ok-next.ensures.copies in
    let it = rw c.in-Some.is at (copies clean good later stands part.entry.zip zip part.mid part.zip part.filling) in (
      v.id,
      ap Some (to_z-of_z {w = w64} {z = v.id} range),
      continues w c.args.left v.place v.id c.args.first c.in-Some.next a b part it.1 it.0,
    )

pub returns-in-Some-checked_sub-clause-copies : goal.returns-in-Some-checked_sub-clause-copies
returns-in-Some-checked_sub-clause-copies g c clean good w later stands part zip =
    let a = state g.F.Store c.args.tx.now.conn.now in
    let b = state g.F.Store c.copy_pieces.new.tx.conn.now in
    let v = c.args.version in
    let less = c.in-Some-checked_sub.left in
    let range : SFits w64 v.id = search rules in
    let copies = rw (to_z-of_z {w = w64} {z = v.id} range) at c.in_ok-next.ensures.copies in
    let it = rw c.in-None.is at (copies clean good later stands part.entry.zip zip part.mid part.zip part.filling) in
    let one : c.args.left ≡ less + 1 = search rules in
    ends w c.args.left less one v.place v.id c.args.first a b part it.1 it.0
