use Rattle.std.proofs.Common.{◌∙◌, ap, inr, subst, sym}
use Rattle.interleave.proofs.MeanwhileLemmas.{as_it_was}
use Rattle.catalog.specs.Catalog.{lines_at, lines_of_text}
use Rattle.catalog.specs.Meanwhile.{HaltsOrNone, PrintsOn, past}
use Rattle.catalog.proofs.TurnLemmas.{memory_on, none_on}
use Rattle.catalog.proofs.walk.print_text.Goals as goal

pub returns-in-Ok-Some-clause-prints : goal.returns-in-Ok-Some-clause-prints
returns-in-Ok-Some-clause-prints g c =
    let s = c.args.shelf.now in
    subst (λ o. PrintsOn (past (g.S.Shelves.shown c.args.shelves.now) c.args.news.now s)
    (past (g.S.Shelves.shown c.print_path.new.shelves) c.print_path.new.news s)
    (g.O.Write.contents c.args.output.now) (g.O.Write.contents c.print_path.new.output) c.print_path.result
    (λ w. lines_at w s o) (HaltsOrNone g.T.Turns.halts (λ w. lines_at w s o)))
    (sym c.in-Ok-Some.field-0-is ∙ c.in-Ok-Some.ensures) c.print_path.ensures.prints

pub returns-in-Ok-None-clause-prints : goal.returns-in-Ok-None-clause-prints
returns-in-Ok-None-clause-prints g c =
    let s = c.args.shelf.now in
    none_on _ _ (λ w. lines_of_text w s c.args.text.now) _
    (λ w. ap (lines_at w s) (sym (sym c.in-Ok-None.field-0-is ∙ c.in-Ok-None.ensures)))

pub returns-in-Ok-None-clause-went : goal.returns-in-Ok-None-clause-went
returns-in-Ok-None-clause-went g c = g.met.T.Turns.rests _ _ _ (as_it_was _)

pub returns-in-Err-clause-prints : goal.returns-in-Err-clause-prints
returns-in-Err-clause-prints g c =
    memory_on _ _ (λ w. lines_of_text w c.args.shelf.now c.args.text.now) _ (λ w none. inr none)

pub returns-in-Err-clause-went : goal.returns-in-Err-clause-went
returns-in-Err-clause-went g c = g.met.T.Turns.rests _ _ _ (as_it_was _)
