use Rattle.std.proofs.Common.{sym, subst}
use Rattle.sqlite.specs.Held.{state}
use Rattle.cache.specs.Caches.{IsNothing}
use Rattle.store.specs.Between.{told}
use Rattle.store.proofs.ExtractedLemmas.{fills_at_kept, read_kept}
use Rattle.store.proofs.store.SqlShelves.copy_between.Goals as goal

pub returns-clause-spares : goal.returns-clause-spares
returns-clause-spares g c unfit =
    read_kept (state g.F.Store c.args.fresh.now.conn) (state g.F.Store c.copy_tables_between.new.fresh.conn)
    c.args.fresh.now.kept c.copy_tables_between.new.fresh.kept _ _
    (subst IsNothing (sym c.copy_tables_between.ensures.same) c.new.ensures)
    (c.copy_tables_between.ensures.spares unfit)

pub returns-clause-copies : goal.returns-clause-copies
returns-clause-copies g c clean good w x sw sx =
    fills_at_kept (Unit {0}) w x (state g.F.Store c.args.fresh.now.conn)
    (state g.F.Store c.copy_tables_between.new.fresh.conn) c.args.fresh.now.kept
    c.copy_tables_between.new.fresh.kept _ _ (told c.copy_tables_between.result)
    (subst IsNothing (sym c.copy_tables_between.ensures.same) c.new.ensures)
    (c.copy_tables_between.ensures.copies clean good w x sw sx.0)
