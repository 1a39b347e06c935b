use Rattle.std.proofs.Common.{◌∙◌, Err, List, ℕ, ap, arith, inr, refl, subst, sym}
use Rattle.std.specs.FinSet as set
use Rattle.std.specs.Prelude.{map as each, string_bytes}
use Rattle.world.specs.Lines.{in_order}
use Rattle.world.specs.Visible.{paths_seen}
use Rattle.world.specs.World.{World}
use Rattle.catalog.specs.Catalog.{lines_of_text, lines_seen}
use Rattle.catalog.specs.Meanwhile.{FailsOn, HaltsOrNone, PrintsOn, past, there}
use Rattle.catalog.proofs.Blank.{text_halts}
use Rattle.catalog.proofs.Printed.{streams_first}
use Rattle.catalog.proofs.ReadLemmas.{only_read}
use Rattle.catalog.proofs.TurnLemmas.{fails_fault, fails_later, fault_on, on_end, on_failed, on_next, reads_there}
use Rattle.catalog.proofs.walk.print_all.Goals as goal

pub loop-text-init : goal.loop-text-init
loop-text-init g c =
    let s = c.args.shelf.now in
    let read = reads_there _ _ s _ (λ w. paths_seen w s) (λ w stands. g.met.S.Shelves.sound c.args.shelves.now w stands)
    c.in-Ok.ensures.reads in
    record {
      streams = streams_first (λ w t. lines_of_text w s t) (λ w. lines_seen w s) (λ w. in_order (paths_seen w s))
          in_order _ _ _ _ (λ w. paths_seen w s) _ (λ w. refl) (λ w. refl)
          (ap (each string_bytes) c.into_iter-text-iterator.ensures.into_iter_gives ∙ c.iter-text-items.ensures)
          (rw c.new-news.ensures read);
      went = g.met.T.Turns.rests _ _ _ (only_read _ _ _ _ c.in-Ok.ensures.reads);
      later = omega arith;
    }

pub loop-text-preserved : goal.loop-text-preserved
loop-text-preserved g c =
    let s = c.args.shelf.now in
    let it = rw c.as_str.ensures.value at c.in_ok-print_text.ensures.prints in
    record {
      streams = on_next (λ w t. lines_of_text w s t) (λ w. lines_seen w s) (λ w. in_order (paths_seen w s)) _ _ _ _ _ _
          (string_bytes c.in-Some.text.now) _ (each string_bytes c.next.new.self)
          (ap (each string_bytes) c.in-Some.ensures.steps) c.loop-text.invariant.streams _ (λ y z none. none) it;
      went = g.met.T.Turns.goes_on _ _ _ _ _ _ c.loop-text.invariant.went c.in_ok-print_text.ensures.went;
      later = omega (arith, c.loop-text.invariant.later, c.in_ok-print_text.ensures.fails.no_fewer);
    }

pub returns-in_err-print_text-clause-prints : goal.returns-in_err-print_text-clause-prints
returns-in_err-print_text-clause-prints g c =
    let s = c.args.shelf.now in
    let it = rw c.as_str.ensures.value at c.in_err-print_text.ensures.prints in (
      c.print_text.new.news,
      on_failed (λ w t. lines_of_text w s t) (λ w. lines_seen w s) (λ w. in_order (paths_seen w s)) _ _ _ _ _ _
          (string_bytes c.in-Some.text.now) _ (each string_bytes c.next.new.self)
          (ap (each string_bytes) c.in-Some.ensures.steps) c.loop-text.invariant.streams _
          c.in_err-print_text.field-0.0 c.from_residual.result c.from_residual.ensures.1
          (HaltsOrNone g.T.Turns.halts (λ w. lines_seen w s))
          (λ w here. text_halts g.T.Turns.halts w (g.met.S.Shelves.sound c.args.shelves.now w here.0) s
          (string_bytes c.in-Some.text.now) (lines_seen w s)) it,
    )

pub returns-in-Err-clause-prints : goal.returns-in-Err-clause-prints
returns-in-Err-clause-prints g c =
    let s = c.args.shelf.now in
    let lines : World → List ℕ = λ w. lines_seen w s in
    let written = g.O.Write.contents c.args.output.now in
    let read = reads_there _ _ s _ (λ w. paths_seen w s) (λ w stands. g.met.S.Shelves.sound c.args.shelves.now w stands)
    c.in-Err.ensures.reads in (
      set.empty,
      subst (λ e. PrintsOn {T = Unit {0}} (there (g.S.Shelves.shown c.args.shelves.now) s)
          (past (g.S.Shelves.shown c.paths.new.self) set.empty s) written written (Err e) lines
          (HaltsOrNone g.T.Turns.halts lines)) (sym c.unread.ensures)
          (fault_on _ _ c.in-Err.fault (λ w. paths_seen w s) lines _ written (λ w none. inr none) read),
    )

pub returns-in-Err-clause-went : goal.returns-in-Err-clause-went
returns-in-Err-clause-went g c = g.met.T.Turns.rests _ _ _ (only_read _ _ _ _ c.in-Err.ensures.reads)

pub returns-in-Err-clause-fails : goal.returns-in-Err-clause-fails
returns-in-Err-clause-fails g c =
    subst (λ e. FailsOn {T = Unit {0}} (g.O.Tell.writes c.args.output.now) (g.O.Tell.writes c.args.output.now) (Err e))
    (sym c.unread.ensures) (fails_fault _ c.in-Err.fault)

pub returns-in_err-print_text-clause-went : goal.returns-in_err-print_text-clause-went
returns-in_err-print_text-clause-went g c =
    g.met.T.Turns.goes_on _ _ _ _ _ _ c.loop-text.invariant.went c.in_err-print_text.ensures.went

pub returns-in_err-print_text-clause-fails : goal.returns-in_err-print_text-clause-fails
returns-in_err-print_text-clause-fails g c =
    fails_later _ _ _ c.in_err-print_text.field-0.0 c.from_residual.result c.from_residual.ensures.1
    c.loop-text.invariant.later c.in_err-print_text.ensures.fails

pub returns-clause-prints : goal.returns-clause-prints
returns-clause-prints g c =
    let s = c.args.shelf.now in (
      c.loop-text.news,
      on_end (λ w t. lines_of_text w s t) (λ w. lines_seen w s) (λ w. in_order (paths_seen w s)) _ _ _ _ _
          (each string_bytes c.loop-text.text-iterator)
          (ap (each string_bytes) c.in-None.ensures.steps.0) c.loop-text.invariant.streams,
    )
