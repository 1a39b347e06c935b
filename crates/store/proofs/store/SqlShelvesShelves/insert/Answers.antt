use Rattle.std.proofs.Common.{Ok, subst}
use Rattle.sqlite.specs.Held.{state}
use Rattle.cache.specs.Absences.{AreAbsent}
use Rattle.cache.specs.Lists.{AreLists}
use Rattle.world.specs.World.{World, place, with_entry}
use Rattle.modver.specs.SemanticVersion.{version_text}
use Rattle.world.proofs.Sound.{entry_added}
use Rattle.cache.proofs.RecentLemmas.{none_held}
use Rattle.store.proofs.StoreLemmas.{changes, changes_failed, answer_unit}
use Rattle.cache.proofs.ZipLemmas.{zips_still}
use Rattle.store.proofs.store.SqlShelvesShelves.insert.Goals as goal

pub returns : goal.returns
returns g c =
    let added = rw c.as_str-path.ensures.value at c.add_entry-added.ensures.changes in
    let raised = rw c.as_str-path.ensures.value at c.raise.ensures in
    let forgot = λ (w : World) (right : AreLists w c.args.self.now.kept.lists).
    subst (λ p. AreLists (with_entry w (place c.args.shelf.now p (version_text c.args.version.now)) c.args.entry.now)
    c.forget.new.self) c.as_str-path.ensures.value
    (c.forget.ensures w c.args.shelf.now (version_text c.args.version.now) c.args.entry.now right) in
    let left = λ (w : World) (right : AreAbsent w c.args.self.now.kept.absences).
    subst (λ p. AreAbsent (with_entry w (place c.args.shelf.now p (version_text c.args.version.now)) c.args.entry.now)
    c.forget-2.new.self) c.as_str-path.ensures.value
    (c.forget-2.ensures w c.args.shelf.now (version_text c.args.version.now) c.args.entry.now right) in
    record {
      does = changes (state g.S.Store c.args.self.now.conn) (state g.S.Store c.add_entry-added.new.conn)
          c.args.self.now.kept (record c.args.self.now.kept {
            counts = c.raise.new.self;
            total = c.raised-self.result;
            lists = c.forget.new.self;
            absences =
                c.forget-2.new.self;
            headings = c.no_headings.result;
          }) c.args.self.now.failures _
          c.add_entry-added.result (Ok tt) _
          (λ _. tt) _ c.in_ok-counted.ensures c.add_entry-added.ensures.clean
          (λ clean w stands room. (
            answer_unit c.add_entry-added.result,
            added clean w stands.0 room.free,
            entry_added w _ _ stands.1 room,
          ))
          (λ w room right. (
            (
              (
                raised w (version_text c.args.version.now) c.args.entry.now room.free right.0.0,
                c.raised-self.ensures w _ c.args.entry.now room.free right.0.1,
              ),
              forgot w right.1,
              (right.2.0, left w right.2.1),
              (
                zips_still w _ c.args.entry.now room.free c.args.self.now.kept.zips right.3.0,
                none_held _ c.no_headings.result c.no_headings.ensures,
                right.3.2,
              ),
            ),
            tt,
          ));
    }

pub returns-in_err-counted : goal.returns-in_err-counted
returns-in_err-counted g c =
    let added = rw c.as_str-path.ensures.value at c.add_entry-added.ensures.changes in
    record {
      does = changes_failed (state g.S.Store c.args.self.now.conn) (state g.S.Store c.add_entry-added.new.conn)
          c.args.self.now.kept c.args.self.now.kept c.args.self.now.failures _
          c.add_entry-added.result _ c.from_residual.result _ (λ _. tt) _ c.from_residual.ensures
          c.in_err-counted.ensures c.add_entry-added.ensures.clean
          (λ clean w stands room. (
            answer_unit c.add_entry-added.result,
            added clean w stands.0 room.free,
            entry_added w _ _ stands.1 room,
          ))
          (λ _ _ right. right);
    }
