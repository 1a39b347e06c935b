use Rattle.std.proofs.Common.{sym, ap, ◌∙◌, Some, None}
use Rattle.modver.specs.SemanticVersion.{version_text}
use Rattle.world.specs.World.{view}
use Rattle.outline.specs.Outline.{in_outline}
use Rattle.memory_store.proofs.Outlined.{reads_outlined}
use Rattle.memory_store.proofs.outlines.MapShelvesOutlines.outline.Goals as goal

pub returns-in-None : goal.returns-in-None
returns-in-None c =
    record {
      reads = reads_outlined _ _ _ None (λ w. view w c.args.shelf.now c.args.path.now (version_text c.args.version.now))
          (λ w given. ap in_outline (sym c.in-None.is ∙ given)) c.in_ok-entry.ensures.reads;
    }

pub returns-in-Some : goal.returns-in-Some
returns-in-Some c =
    record {
      reads = reads_outlined _ _ _ (Some c.of.result)
          (λ w. view w c.args.shelf.now c.args.path.now (version_text c.args.version.now))
          (λ w given. ap Some c.of.ensures ∙ ap in_outline (sym c.in-Some.is ∙ given)) c.in_ok-entry.ensures.reads;
    }
