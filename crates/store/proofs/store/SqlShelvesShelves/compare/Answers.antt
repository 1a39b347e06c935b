use Rattle.std.proofs.Common.{◌≡◌, ◌∷◌, map, rules, option_map}
use Rattle.sqlite.specs.Held.{state}
use Rattle.modver.specs.SemanticVersion.{version_text}
use Rattle.world.specs.Standing.{standing_to}
use Rattle.world.specs.World.{above, first_on}
use Rattle.store.proofs.StoreLemmas.{reads_along, reads_failed}
use Rattle.store.proofs.store.SqlShelvesShelves.compare.Goals as goal

pub returns : goal.returns
returns g c =
    let along : map (λ s. s.now) c.as_slice-shelves.result.now ≡ c.args.shelf.now ∷ above c.in_ok-group.group =
    search rules in
    let answer = rw (
      c.as_str-path.ensures.value,
      c.as_str-version.ensures.value,
    ) at c.find_standing-standing.ensures.answer in
    record {
      reads = reads_along _ (state g.S.Store c.group_of.new.self.conn)
          (state g.S.Store c.find_standing-standing.new.conn) c.group_of.new.self.kept c.group_of.new.self.failures _
          c.args.shelf.now _ _ c.find_standing-standing.result c.counted.result
          (λ w ss. standing_to (option_map (λ seen. seen.entry)
          (first_on w ss c.args.path.now (version_text c.args.version.now))) c.args.entry.now)
          along c.in_ok-group.ensures.reads c.find_standing-standing.ensures.spares c.counted.ensures answer;
    }

pub returns-in_err-group : goal.returns-in_err-group
returns-in_err-group g c =
    record {
      reads = reads_failed _ _ _ c.from_residual.result _ _ c.from_residual.ensures c.in_err-group.ensures.reads;
    }
