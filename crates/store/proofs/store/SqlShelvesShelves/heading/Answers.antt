use Rattle.std.specs.Prelude.{option_map}
use Rattle.modver.specs.SemanticVersion.{version_text}
use Rattle.world.specs.World.{view}
use Rattle.outline.specs.declared.seen.SeenHeading.{SeenHeading}
use Rattle.store.proofs.SeenLemmas.{heading_seen}
use Rattle.store.proofs.StoreLemmas.{reads_as, reads_failed}
use Rattle.store.proofs.store.SqlShelvesShelves.heading.Goals as goal

pub returns : goal.returns
returns g c =
    let read = rw (c.as_str.ensures.value, c.as_str-2.ensures.value) at c.in_ok-seen.ensures.reads in
    record {
      reads = reads_as _ _ (option_map (λ (it : SeenHeading). it.heading)) c.in_ok-seen.seen c.heading_in.result _ _
          c.heading_in.ensures
          (λ w. heading_seen (view w c.args.shelf.now c.args.path.now (version_text c.args.version.now))) read;
    }

pub returns-in_err-seen : goal.returns-in_err-seen
returns-in_err-seen g c =
    record { reads = reads_failed _ _ _ c.from_residual.result _ _ c.from_residual.ensures c.in_err-seen.ensures.reads }
