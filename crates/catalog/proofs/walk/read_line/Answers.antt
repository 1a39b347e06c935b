use Rattle.std.proofs.Common.{List, ℕ, Ok, Err, subst, sym}
use Rattle.world.specs.Store.{Reads}
use Rattle.catalog.proofs.ReadLemmas.{only_read}
use Rattle.catalog.proofs.SinceLemmas.{line_same, reads_past}
use Rattle.catalog.specs.Catalog.{line_at}
use Rattle.catalog.specs.Sight.{without}
use Rattle.catalog.proofs.walk.read_line.Goals as goal

pub returns-in-Ok-clause-reads : goal.returns-in-Ok-clause-reads
returns-in-Ok-clause-reads g c =
    let s = c.args.shelf.now in
    let p = c.args.path.now in
    let v = c.args.version.now in
    let news = c.args.news.now in
    let adds = rw c.new-line.ensures.items at c.in-Ok.ensures in
    reads_past _ _ news s _ (λ w. line_at w s p v c.args.marks)
    (λ w later since here. line_same w later news since s here p v c.args.marks)
    (subst (λ (l : List ℕ). Reads (g.S.Shelves.shown c.args.shelves.now)
    (g.S.Shelves.shown c.add_version.new.shelves) (Ok l) (λ w. line_at (without w news) s p v c.args.marks))
    (sym c.new.ensures) adds)

pub returns-in-Ok-clause-only : goal.returns-in-Ok-clause-only
returns-in-Ok-clause-only g c = only_read _ _ _ _ c.in-Ok.ensures

pub returns-in-Err-clause-reads : goal.returns-in-Err-clause-reads
returns-in-Err-clause-reads g c =
    let s = c.args.shelf.now in
    let p = c.args.path.now in
    let v = c.args.version.now in
    let news = c.args.news.now in
    let adds = rw c.new-line.ensures.items at c.in-Err.ensures in
    reads_past _ _ news s (Err c.in-Err.fault) (λ w. line_at w s p v c.args.marks)
    (λ w later since here. line_same w later news since s here p v c.args.marks) adds

pub returns-in-Err-clause-only : goal.returns-in-Err-clause-only
returns-in-Err-clause-only g c = only_read _ _ _ _ c.in-Err.ensures
