use Rattle.std.proofs.Common.{◌≡◌, ◌∷◌, map, rules}
use Rattle.sqlite.specs.Held.{state}
use Rattle.modver.specs.SemanticVersion.{version_text}
use Rattle.world.specs.World.{above, first_on}
use Rattle.outline.specs.Outline.{in_outline}
use Rattle.store.proofs.StoreLemmas.{reads_along, reads_failed}
use Rattle.store.proofs.store.SqlShelvesOutlines.outline.Goals as goal

pub returns : goal.returns
returns g c =
    let along : map (λ s. s.now) c.as_slice-shelves.result.now ≡ c.args.shelf.now ∷ above c.in_ok-group.group =
    search rules in
    let answer = rw (
      c.as_str-path.ensures.value,
      c.as_str-version.ensures.value,
    ) at c.find_outline-found.ensures.answer in
    record {
      reads = reads_along _ (state g.S.Store c.group_of.new.self.conn)
          (state g.S.Store c.find_outline-found.new.conn) c.group_of.new.self.kept c.group_of.new.self.failures _
          c.args.shelf.now _ _ c.find_outline-found.result c.counted.result
          (λ w ss. in_outline (first_on w ss c.args.path.now (version_text c.args.version.now)))
          along c.in_ok-group.ensures.reads c.find_outline-found.ensures.spares c.counted.ensures answer;
    }

pub returns-in_err-group : goal.returns-in_err-group
returns-in_err-group g c =
    record {
      reads = reads_failed _ _ _ c.from_residual.result _ _ c.from_residual.ensures c.in_err-group.ensures.reads;
    }
