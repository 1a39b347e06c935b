use Rattle.std.proofs.Common.{Err, refl, subst, sym}
use Rattle.catalog.proofs.ReadLemmas.{only_read}
use Rattle.catalog.proofs.SinceLemmas.{reads_past}
use Rattle.catalog.proofs.TurnLemmas.{fault_stays, never_output, turn_halts, turn_stays}
use Rattle.catalog.specs.Meanwhile.{IsNotOutput, StaysOn, past}
use Rattle.catalog.specs.declared.between.CatalogEnd.TheVariants as end
use Rattle.catalog.specs.declared.print.PrintError.TheVariants as why
use Rattle.catalog.proofs.turns.take_turn.Goals as goal

pub returns-in-Ok-turn-clause-stays : goal.returns-in-Ok-turn-clause-stays
returns-in-Ok-turn-clause-stays g c s =
    turn_stays _ _ _ c.args.news.now c.turn.new.news s c.in-Ok.ensures.reads c.in-Ok.ensures.one c.turn.ensures.honest
    (g.met.B.Between.no_fewer _ _ _ _ c.turn.ensures.went)
    c.in-Ok-turn.ensures.notes

pub returns-in-Ok-turn-clause-went : goal.returns-in-Ok-turn-clause-went
returns-in-Ok-turn-clause-went g c =
    g.met.B.Between.goes_on c.args.between.now c.args.between.now c.turn.new.self c.args.shelves.now _
    c.turn.new.shelves
    (g.met.B.Between.rests c.args.between.now c.args.shelves.now _ (only_read _ _ _ _ c.in-Ok.ensures.reads))
    c.turn.ensures.went

pub returns-in-Err-Ended-clause-stays : goal.returns-in-Err-Ended-clause-stays
returns-in-Err-Ended-clause-stays g c s =
    turn_halts _ _ _ c.args.news.now c.turn.new.news s c.in-Ok.ensures.reads c.in-Ok.ensures.one c.turn.ensures.honest
    (g.met.B.Between.no_fewer _ _ _ _ c.turn.ensures.went) end.Ended (λ failed. cc)

pub returns-in-Err-Ended-clause-went : goal.returns-in-Err-Ended-clause-went
returns-in-Err-Ended-clause-went g c =
    g.met.B.Between.goes_on c.args.between.now c.args.between.now c.turn.new.self c.args.shelves.now _
    c.turn.new.shelves
    (g.met.B.Between.rests c.args.between.now c.args.shelves.now _ (only_read _ _ _ _ c.in-Ok.ensures.reads))
    c.turn.ensures.went

pub returns-in-Err-Memory-clause-stays : goal.returns-in-Err-Memory-clause-stays
returns-in-Err-Memory-clause-stays g c s =
    turn_halts _ _ _ c.args.news.now c.turn.new.news s c.in-Ok.ensures.reads c.in-Ok.ensures.one c.turn.ensures.honest
    (g.met.B.Between.no_fewer _ _ _ _ c.turn.ensures.went) (end.PrintError why.Memory)
    (λ failed. cc)

pub returns-in-Err-Memory-clause-went : goal.returns-in-Err-Memory-clause-went
returns-in-Err-Memory-clause-went g c =
    g.met.B.Between.goes_on c.args.between.now c.args.between.now c.turn.new.self c.args.shelves.now _
    c.turn.new.shelves
    (g.met.B.Between.rests c.args.between.now c.args.shelves.now _ (only_read _ _ _ _ c.in-Ok.ensures.reads))
    c.turn.ensures.went

pub returns-in-Err-clause-stays : goal.returns-in-Err-clause-stays
returns-in-Err-clause-stays g c s =
    let news = c.args.news.now in
    subst (λ e. StaysOn (past (g.S.Shelves.shown c.args.shelves.now) news s)
    (past (g.S.Shelves.shown c.settle.new.self) news s) (Err e)) (sym c.unread.ensures)
    (fault_stays _ _ c.in-Err.fault (λ _. tt) (reads_past _ _ news s (Err c.in-Err.fault) (λ _. tt)
    (λ w later since here. refl) c.in-Err.ensures.reads))

pub returns-in-Err-clause-went : goal.returns-in-Err-clause-went
returns-in-Err-clause-went g c =
    g.met.B.Between.rests c.args.between.now c.args.shelves.now _ (only_read _ _ _ _ c.in-Err.ensures.reads)

pub returns-in-Err-clause-output : goal.returns-in-Err-clause-output
returns-in-Err-clause-output g c =
    subst (λ e. IsNotOutput {T = Unit {0}} (Err e)) (sym c.unread.ensures) (never_output c.in-Err.fault)
