use Rattle.std.proofs.Common.{Err, List, ℕ, inl, inr, subst, sym}
use Rattle.world.specs.World.{World}
use Rattle.catalog.specs.Catalog.{line_at}
use Rattle.catalog.specs.Meanwhile.{FailsOn, HaltsOrUnseen, PrintsOn, past}
use Rattle.catalog.proofs.Blank.{unseen}
use Rattle.catalog.proofs.TurnLemmas.{fails_fault, fault_on, read_prints}
use Rattle.catalog.proofs.walk.print_version.Goals as goal

pub returns-in-Ok-clause-prints : goal.returns-in-Ok-clause-prints
returns-in-Ok-clause-prints g c =
    let s = c.args.shelf.now in
    let of : World → List ℕ = λ w. line_at w s c.args.path.now c.args.version.now c.args.marks in
    let prints = rw c.as_slice.ensures at c.print_line.ensures.prints in
    read_prints _ _ _ c.in-Ok.line of c.in-Ok.ensures.reads _ _ c.print_line.result (λ _. c.in-Ok.line) of
    (λ _. g.T.Turns.halts) (HaltsOrUnseen g.T.Turns.halts s c.args.path.now c.args.version.now) (λ w is. is)
    (λ w stands is halts. inl halts) (prints s)

pub returns-in-Ok-clause-went : goal.returns-in-Ok-clause-went
returns-in-Ok-clause-went g c =
    g.met.T.Turns.goes_on _ _ _ _ _ _ (g.met.T.Turns.rests _ _ _ c.in-Ok.ensures.only) c.print_line.ensures.went

pub returns-in-Err-clause-prints : goal.returns-in-Err-clause-prints
returns-in-Err-clause-prints g c =
    let s = c.args.shelf.now in
    let news = c.args.news.now in
    let of : World → List ℕ = λ w. line_at w s c.args.path.now c.args.version.now c.args.marks in
    let written = g.O.Write.contents c.args.output.now in
    subst (λ e. PrintsOn {T = Unit {0}} (past (g.S.Shelves.shown c.args.shelves.now) news s)
    (past (g.S.Shelves.shown c.read_line.new.shelves) news s) written written (Err e) of
    (HaltsOrUnseen g.T.Turns.halts s c.args.path.now c.args.version.now)) (sym c.unread.ensures)
    (fault_on _ _ c.in-Err.fault of of _ written
    (λ w none. inr (unseen w s c.args.path.now c.args.version.now c.args.marks none)) c.in-Err.ensures.reads)

pub returns-in-Err-clause-went : goal.returns-in-Err-clause-went
returns-in-Err-clause-went g c = g.met.T.Turns.rests _ _ _ c.in-Err.ensures.only

pub returns-in-Err-clause-fails : goal.returns-in-Err-clause-fails
returns-in-Err-clause-fails g c =
    subst (λ e. FailsOn {T = Unit {0}} (g.O.Tell.writes c.args.output.now) (g.O.Tell.writes c.args.output.now) (Err e))
    (sym c.unread.ensures) (fails_fault _ c.in-Err.fault)
