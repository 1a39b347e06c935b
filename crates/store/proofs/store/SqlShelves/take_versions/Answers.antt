use Rattle.std.proofs.Common.{◌≡◌, ◌∷◌, map, rules}
use Rattle.sqlite.specs.Held.{state}
use Rattle.world.specs.Lines.{in_order}
use Rattle.world.specs.Versions.{named, by_precedence}
use Rattle.world.specs.Visible.{versions_on}
use Rattle.world.specs.World.{above}
use Rattle.cache.proofs.ListLemmas.{fewer}
use Rattle.store.proofs.StoreLemmas.{reads_kept, reads_with_less, reads_along, reads_failed}
use Rattle.store.proofs.store.SqlShelves.take_versions.Goals as goal

pub returns-in-Some : goal.returns-in-Some
returns-in-Some g c =
    let less = record c.args.self.now.kept { lists = c.take_versions.new.self } in
    record {
      reads = reads_kept (state g.S.Store c.args.self.now.conn) c.args.self.now.kept less c.args.self.now.failures
          c.in-Some.versions _
          (λ w right. (
            c.in-Some.ensures.taken w right.1,
            (
              right.0,
              fewer w c.args.self.now.kept.lists c.take_versions.new.self c.take_versions.ensures.others
                  right.1,
              right.2,
              right.3,
            ),
          ));
    }

pub returns : goal.returns
returns g c =
    let along : map (λ s. s.now) c.as_slice.result.now ≡ c.args.shelf.now ∷ above c.in_ok-group.group = search rules in
    let less = record c.args.self.now.kept { lists = c.take_versions.new.self } in
    record {
      reads = reads_with_less (state g.S.Store c.args.self.now.conn) c.args.self.now.kept less c.args.self.now.failures
          _ c.counted.result _
          (λ w right. (
            right.0,
            fewer w c.args.self.now.kept.lists c.take_versions.new.self
                c.take_versions.ensures.others right.1,
            right.2,
            right.3,
          ))
          (reads_along _ (state g.S.Store c.group_of.new.self.conn)
          (state g.S.Store c.find_versions-versions.new.conn) c.group_of.new.self.kept c.group_of.new.self.failures _
          c.args.shelf.now _ _ c.find_versions-versions.result c.counted.result
          (λ w ss. in_order (by_precedence (named (in_order (versions_on w ss c.args.path.now)))))
          along c.in_ok-group.ensures.reads c.find_versions-versions.ensures.spares c.counted.ensures
          c.find_versions-versions.ensures.answer);
    }

pub returns-in_err-group : goal.returns-in_err-group
returns-in_err-group g c =
    let less = record c.args.self.now.kept { lists = c.take_versions.new.self } in
    record {
      reads = reads_with_less (state g.S.Store c.args.self.now.conn) c.args.self.now.kept less c.args.self.now.failures
          _ _ _
          (λ w right. (
            right.0,
            fewer w c.args.self.now.kept.lists c.take_versions.new.self
                c.take_versions.ensures.others right.1,
            right.2,
            right.3,
          ))
          (reads_failed _ _ _ c.from_residual.result _ _ c.from_residual.ensures c.in_err-group.ensures.reads);
    }
