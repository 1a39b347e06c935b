use Rattle.std.proofs.Common.{refl}
use Rattle.sqlite.specs.Held.{state}
use Rattle.store.proofs.BetweenLemmas.{only_read, held_on}
use Rattle.store.proofs.store.SqlShelves.copy_on.Goals as goal

pub returns-in_err-next-clause-went : goal.returns-in_err-next-clause-went
returns-in_err-next-clause-went g c =
    g.met.B.Between.rests c.args.between.now c.args.self.now _
    (only_read (state g.S.Store c.args.self.now.conn) (state g.S.Store c.copy_slice.new.source) c.args.self.now.kept _
    c.args.self.now.failures _ c.copy_slice.ensures.reads refl refl)

pub returns-in-Ok-clause-went : goal.returns-in-Ok-clause-went
returns-in-Ok-clause-went g c =
    g.met.B.Between.goes_on c.args.between.now c.note_how_far.new.self c.turn.new.self c.args.self.now _
    c.turn.new.shelves
    (g.met.B.Between.goes_on c.args.between.now c.args.between.now c.note_how_far.new.self c.args.self.now _ _
    (g.met.B.Between.rests c.args.between.now c.args.self.now _
    (only_read (state g.S.Store c.args.self.now.conn) (state g.S.Store c.copy_slice.new.source) c.args.self.now.kept _
    c.args.self.now.failures _ c.in_ok-next.ensures.reads refl refl)) (c.note_how_far.ensures.same _))
    c.turn.ensures.went

pub returns-in-Ok-clause-copies : goal.returns-in-Ok-clause-copies
returns-in-Ok-clause-copies g c clean good w held =
    let a = state g.S.Store c.copy_slice.new.source in
    let early = c.turn.ensures.honest clean in
    let step = c.in_ok-next.ensures in
    held_on a (state g.S.Store c.turn.new.shelves.conn) c.args.self.now.kept c.turn.new.shelves.kept
    c.args.self.now.failures c.turn.new.shelves.failures c.args.news.now c.turn.new.news w c.in_ok-next.next
    (state g.F.Store c.copy_slice.new.tx.conn.now) c.in-Ok.ensures.notes c.turn.ensures.honest clean
    held.later ((step.reads.stays held.later held.stands.0.0, held.stands.0.1), held.stands.1)
    (step.open early held.later held.stands.0.0) held.since
    (step.copies early good w held.later held.stands.0.0 held.since held.holds)

pub returns-in-Err-Ended-clause-went : goal.returns-in-Err-Ended-clause-went
returns-in-Err-Ended-clause-went g c =
    g.met.B.Between.goes_on c.args.between.now c.note_how_far.new.self c.turn.new.self c.args.self.now _
    c.turn.new.shelves
    (g.met.B.Between.goes_on c.args.between.now c.args.between.now c.note_how_far.new.self c.args.self.now _ _
    (g.met.B.Between.rests c.args.between.now c.args.self.now _
    (only_read (state g.S.Store c.args.self.now.conn) (state g.S.Store c.copy_slice.new.source) c.args.self.now.kept _
    c.args.self.now.failures _ c.in_ok-next.ensures.reads refl refl)) (c.note_how_far.ensures.same _))
    c.turn.ensures.went

pub returns-clause-went : goal.returns-clause-went
returns-clause-went g c =
    g.met.B.Between.goes_on c.args.between.now c.note_how_far.new.self c.turn.new.self c.args.self.now _
    c.turn.new.shelves
    (g.met.B.Between.goes_on c.args.between.now c.args.between.now c.note_how_far.new.self c.args.self.now _ _
    (g.met.B.Between.rests c.args.between.now c.args.self.now _
    (only_read (state g.S.Store c.args.self.now.conn) (state g.S.Store c.copy_slice.new.source) c.args.self.now.kept _
    c.args.self.now.failures _ c.in_ok-next.ensures.reads refl refl)) (c.note_how_far.ensures.same _))
    c.turn.ensures.went
