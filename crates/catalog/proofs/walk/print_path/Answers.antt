use Rattle.std.proofs.Common.{Err, ap, inr, subst, sym}
use Rattle.catalog.specs.Catalog.{lines_by, lines_of_path}
use Rattle.catalog.specs.Meanwhile.{FailsOn, HaltsOrLacks, HaltsOrNone, PrintsOn, past}
use Rattle.catalog.specs.Sight.{Facts, facts_of}
use Rattle.catalog.proofs.Blank.{none_lacks}
use Rattle.catalog.proofs.TurnLemmas.{fails_fault, fault_on, read_prints}
use Rattle.catalog.proofs.walk.print_path.Goals as goal

pub returns-in-Ok-clause-prints : goal.returns-in-Ok-clause-prints
returns-in-Ok-clause-prints g c =
    let s = c.args.shelf.now in
    let p = c.args.path.now in
    let it = c.in-Ok.account in
    let facts : Facts = record { versions = it.versions; ruling = it.ruling; latest = it.latest } in
    let prints = rw c.as_slice-versions.ensures at c.print_account.ensures.prints in
    read_prints _ _ _ facts (λ w. facts_of w s p) c.in-Ok.ensures.reads _ _ c.print_account.result
    (λ w. lines_by w s p it.ruling it.latest it.versions) (λ w. lines_of_path w s p)
    (HaltsOrLacks g.T.Turns.halts s p it.versions) (HaltsOrNone g.T.Turns.halts (λ w. lines_of_path w s p))
    (λ w is. ap (λ (f : Facts). lines_by w s p f.ruling f.latest f.versions) is)
    (λ w been is. none_lacks g.T.Turns.halts w been.is s p it.versions (ap (λ (f : Facts). f.versions) is)
    (lines_of_path w s p))
    (prints it.ruling c.in-Ok.ensures.flags)

pub returns-in-Ok-clause-went : goal.returns-in-Ok-clause-went
returns-in-Ok-clause-went g c =
    g.met.T.Turns.goes_on _ _ _ _ _ _ (g.met.T.Turns.rests _ _ _ c.in-Ok.ensures.only)
    c.print_account.ensures.went

pub returns-in-Err-clause-prints : goal.returns-in-Err-clause-prints
returns-in-Err-clause-prints g c =
    let s = c.args.shelf.now in
    let p = c.args.path.now in
    let news = c.args.news.now in
    let written = g.O.Write.contents c.args.output.now in
    subst (λ e. PrintsOn {T = Unit {0}} (past (g.S.Shelves.shown c.args.shelves.now) news s)
    (past (g.S.Shelves.shown c.read_account.new.shelves) news s) written written (Err e) (λ w. lines_of_path w s p)
    (HaltsOrNone g.T.Turns.halts (λ w. lines_of_path w s p))) (sym c.unread.ensures)
    (fault_on _ _ c.in-Err.fault (λ w. facts_of w s p) (λ w. lines_of_path w s p) _ written (λ w none. inr none)
    c.in-Err.ensures.reads)

pub returns-in-Err-clause-went : goal.returns-in-Err-clause-went
returns-in-Err-clause-went g c = g.met.T.Turns.rests _ _ _ c.in-Err.ensures.only

pub returns-in-Err-clause-fails : goal.returns-in-Err-clause-fails
returns-in-Err-clause-fails g c =
    subst (λ e. FailsOn {T = Unit {0}} (g.O.Tell.writes c.args.output.now) (g.O.Tell.writes c.args.output.now) (Err e))
    (sym c.unread.ensures) (fails_fault _ c.in-Err.fault)
