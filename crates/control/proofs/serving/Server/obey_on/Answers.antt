use Rattle.std.proofs.Common.{◌≤◌, ◌≡◌, ap, arith, ◌∙◌}
use Rattle.socket.specs.Connections.{both}
use Rattle.control.specs.Reserve.{lent}
use Rattle.control.proofs.NoticeLemmas.{notices_more, notices_none}
use Rattle.control.proofs.ServeLemmas.{obeyed_one, obeyed_trace}
use Rattle.control.proofs.OrderedLemmas.{obeyed_either}
use Rattle.control.proofs.ServingLemmas.{all_turns, obey_serves}
use Rattle.control.proofs.UseLemmas.{used_so}
use Rattle.control.proofs.serving.Server.obey_on.Goals as goal

pub returns-clause-serves : goal.returns-clause-serves
returns-clause-serves g c = λ door takes fresh.
    let o = g.O.Operator in
    let next = obeyed_one (both o.came o.reads) (both o.written o.writes) _ _ _ _ _ _ _ _ _ _ _
    c.obeyed-after.ensures.obeys c.obeyed-after.ensures.cause c.is_stopping.ensures in
    let errors = both g.E.Write.contents g.E.Tell.writes in
    let room = lent g.V.KeepsRoom.deeds in
    let mid = errors c.obeyed-after.new.copies.errors.now in
    let last = errors c.tell.new.self.errors.now in
    let trace = obeyed_trace (both o.came o.reads) (both o.written o.writes) _ _ _ _ _ _ _ _ _ _ _ _
    c.obeyed-after.ensures.obeys c.obeyed-after.ensures.cause c.is_stopping.ensures mid last _ _
    c.note_told-noted.ensures c.tell.ensures.tells in
    rw c.tell.ensures.progress
    (obey_serves _ _ _ _ _ _ _ _ door _ _ _ _ _ _ _ (errors c.args.self.now.errors.now, c.args.self.now.faults)
    (mid, c.obeyed-after.new.copies.faults) (last, c.tell.new.self.faults)
    (room c.args.self.now.reserve c.args.self.now.room)
    (room c.obeyed-after.new.copies.reserve c.obeyed-after.new.copies.room)
    (room c.tell.new.self.reserve c.tell.new.self.room) _ _ _ _
    (λ heard same. (
      (let e : c.obeyed-after.new.copies.callers ≡ c.args.self.now.callers = same.0.0 in
          ap (λ x. both g.L.Callers.waiting g.L.Callers.history x.now) e),
      same.0.1,
      (let e : c.obeyed-after.new.copies.errors ≡ c.args.self.now.errors = same.0.2 in
          ap (λ x. (errors x.now, c.obeyed-after.new.copies.faults)) e
          ∙ ap (λ y. (errors c.args.self.now.errors.now, y)) same.0.3),
      used_so _ _ _ _ heard same.0.4 same.0.5 same.1,
    ))
    (λ making made. (
      both g.L.Callers.waiting g.L.Callers.history made.watching,
      made.last,
      made.watched,
      (all_turns _ _ _ _ _ _ _ _ _ _ made.turns).serves,
      made.read,
      made.begun.begun,
    ))
    c.args.operator _ c.is_stopping.result takes fresh c.requires.0 next trace c.tell.ensures.faults
    (rw c.tell.ensures.same at c.end_operator.ensures)
    c.count_operator.ensures.tally c.count_operator.ensures.left c.count_operator.ensures.taken
    c.count_operator.ensures.stops c.end_if.ensures.tally c.end_if.ensures.left c.end_if.ensures.taken
    c.end_if.ensures.stops)

pub returns-clause-taken : goal.returns-clause-taken
returns-clause-taken g c =
    let o = g.O.Operator in
    let next = obeyed_one (both o.came o.reads) (both o.written o.writes) _ _ _ _ _ _ _ _ _ _ _
    c.obeyed-after.ensures.obeys c.obeyed-after.ensures.cause c.is_stopping.ensures in
    let more : c.count_operator.new.self.taken ≤ c.obeyed-after.new.copies.progress.taken =
    obeyed_either _ _ _ _ _ _ _ _ _ _ _ _ next
    (λ heard same.
    let e : c.obeyed-after.new.copies.progress ≡ c.count_operator.new.self = same.0.1 in
    let f = ap (λ x. x.taken) e in omega (arith, f))
    (λ making made. let e = (all_turns _ _ _ _ _ _ _ _ _ _ made.turns).serves.taken in omega (arith, e)) in
    rw c.tell.ensures.progress (omega (arith, more, c.count_operator.ensures.taken, c.end_if.ensures.taken))

pub returns-clause-same : goal.returns-clause-same
returns-clause-same g c =
    let o = g.O.Operator in
    let next = obeyed_one (both o.came o.reads) (both o.written o.writes) _ _ _ _ _ _ _ _ _ _ _
    c.obeyed-after.ensures.obeys c.obeyed-after.ensures.cause c.is_stopping.ensures in
    rw c.tell.ensures.same
    (obeyed_either _ _ _ _ _ _ _ _ _ _ _ _ next
    (λ heard same. let e : c.obeyed-after.new.copies.callers ≡ c.args.self.now.callers = same.0.0 in ap (λ x. x.ghost_name) e)
    (λ making made. ap (λ l. l.0) (all_turns _ _ _ _ _ _ _ _ _ _ made.turns).same))

pub returns-clause-same_errors : goal.returns-clause-same_errors
returns-clause-same_errors g c =
    let o = g.O.Operator in
    let next = obeyed_one (both o.came o.reads) (both o.written o.writes) _ _ _ _ _ _ _ _ _ _ _
    c.obeyed-after.ensures.obeys c.obeyed-after.ensures.cause c.is_stopping.ensures in
    c.tell.ensures.same_errors
    ∙ obeyed_either _ _ _ _ _ _ _ _ _ _ _ _ next
    (λ heard same. let e : c.obeyed-after.new.copies.errors ≡ c.args.self.now.errors = same.0.2 in ap (λ x. x.ghost_name) e)
    (λ making made. ap (λ l. l.1) (all_turns _ _ _ _ _ _ _ _ _ _ made.turns).same)

pub returns-clause-notes : goal.returns-clause-notes
returns-clause-notes g c =
    let o = g.O.Operator in
    let next = obeyed_one (both o.came o.reads) (both o.written o.writes) _ _ _ _ _ _ _ _ _ _ _
    c.obeyed-after.ensures.obeys c.obeyed-after.ensures.cause c.is_stopping.ensures in
    notices_more _ _ _
    (obeyed_either _ _ _ _ _ _ _ _ _ _ _ _ next
    (λ heard same.
    let e : c.obeyed-after.new.copies.errors ≡ c.args.self.now.errors = same.0.2 in
    let f : g.E.Write.contents c.obeyed-after.new.copies.errors.now
    ≡ g.E.Write.contents c.args.self.now.errors.now =
    ap (λ x. g.E.Write.contents x.now) e in
    rw f (notices_none _))
    (λ making made. (all_turns _ _ _ _ _ _ _ _ _ _ made.turns).notes))
    c.tell.ensures.notes
