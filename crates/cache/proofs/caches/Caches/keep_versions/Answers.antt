use Rattle.std.proofs.Common.{◌∙◌, sym}
use Rattle.cache.proofs.KeptLemmas.{no_items}
use Rattle.cache.proofs.caches.Caches.keep_versions.Goals as goal

pub returns-then-is_empty : goal.returns-then-is_empty
returns-then-is_empty c w right is = (
  right.0,
  right.1,
  (
    right.2.0,
    c.keep.ensures w right.2.1 (sym is ∙ no_items c.args.versions.now c.if-is_empty.ensures),
  ),
  right.3,
)

pub returns-else-is_empty : goal.returns-else-is_empty
returns-else-is_empty c w right is = (right.0, c.keep_copy.ensures w right.1 is, right.2, right.3)
