use Rattle.std.proofs.Common.{Err, subst, sym}
use Rattle.catalog.proofs.ReadLemmas.{only_read}
use Rattle.catalog.proofs.KeyLemmas.{cut_keyed, fault_keyed, none_keyed, whole_keyed}
use Rattle.catalog.specs.Meanwhile.{PrintsLines}
use Rattle.catalog.proofs.walk.print_lines.Goals as goal

pub returns-in-Ok-None-clause-prints : goal.returns-in-Ok-None-clause-prints
returns-in-Ok-None-clause-prints g c =
    none_keyed _ _ _ c.args.key.now _ _ c.in-Ok-None.field-0-is c.in-Ok-None.ensures.reads

pub returns-in-Ok-None-clause-went : goal.returns-in-Ok-None-clause-went
returns-in-Ok-None-clause-went g c = g.met.T.Turns.rests _ _ _ (only_read _ _ _ _ c.in-Ok-None.ensures.reads)

pub returns-in-Err-clause-prints : goal.returns-in-Err-clause-prints
returns-in-Err-clause-prints g c =
    let written = g.O.Write.contents c.args.output.now in
    subst (λ e. PrintsLines g.T.Turns.halts (g.S.Shelves.shown c.args.shelves.now) (g.S.Shelves.shown c.key.new.self)
    c.args.key.now written written (Err e)) (sym c.unread.ensures)
    (fault_keyed _ _ _ c.args.key.now written c.in-Err.fault c.in-Err.ensures.reads)

pub returns-in-Err-clause-went : goal.returns-in-Err-clause-went
returns-in-Err-clause-went g c = g.met.T.Turns.rests _ _ _ (only_read _ _ _ _ c.in-Err.ensures.reads)

pub returns-clause-prints : goal.returns-clause-prints
returns-clause-prints g c =
    let holder = c.in-Ok-Some.holder in
    let prints = rw c.as_str.ensures at c.in-Err-print_all.ensures.prints in
    cut_keyed _ _ _ c.args.key.now _ _ _ holder _ c.in-Ok-Some.field-0-is
    (λ w stands. g.met.S.Shelves.sound c.args.shelves.now w stands) c.in-Ok-Some.ensures.reads prints.0
    c.in-Err-print_all.why prints.1

pub returns-clause-went : goal.returns-clause-went
returns-clause-went g c =
    g.met.T.Turns.goes_on c.args.turns.now c.args.turns.now c.print_all.new.turns c.args.shelves.now _
    c.print_all.new.shelves
    (g.met.T.Turns.rests c.args.turns.now c.args.shelves.now _ (only_read _ _ _ _ c.in-Ok-Some.ensures.reads))
    c.in-Err-print_all.ensures.went

pub returns-in-Ok-clause-prints : goal.returns-in-Ok-clause-prints
returns-in-Ok-clause-prints g c =
    let holder = c.in-Ok-Some.holder in
    let prints = rw c.as_str.ensures at c.in-Ok.ensures.prints in
    whole_keyed _ _ _ c.args.key.now _ _ _ holder _ c.in-Ok-Some.field-0-is
    (λ w stands. g.met.S.Shelves.sound c.args.shelves.now w stands) c.in-Ok-Some.ensures.reads prints.0 _
    c.finish.result prints.1 c.finish.ensures.bytes c.finish.ensures.which

pub returns-in-Ok-clause-went : goal.returns-in-Ok-clause-went
returns-in-Ok-clause-went g c =
    g.met.T.Turns.goes_on c.args.turns.now c.args.turns.now c.print_all.new.turns c.args.shelves.now _
    c.print_all.new.shelves
    (g.met.T.Turns.rests c.args.turns.now c.args.shelves.now _ (only_read _ _ _ _ c.in-Ok-Some.ensures.reads))
    c.in-Ok.ensures.went
