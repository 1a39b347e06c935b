-- A read of an entry is a read of its outline.
use Rattle.std.proofs.Common.{◌≡◌, Option, Ok}
use Rattle.world.specs.declared.entry.Seen.{Seen}
use Rattle.world.specs.Store.{Shown, Reads}
use Rattle.world.specs.World.{World}
use Rattle.world.proofs.Causes.{answers}
use Rattle.outline.specs.Outline.{in_outline}
use Rattle.outline.specs.declared.outlines.Outline.{Outline}

pub reads_outlined : (old new : Shown) (seen : Option Seen) (out : Option Outline) (value : World → Option Seen)
    → ((w : World) → seen ≡ value w → out ≡ in_outline (value w)) → Reads old new (Ok seen) value
    → Reads old new (Ok out) (λ w. in_outline (value w))
reads_outlined old new seen out value answer read = record {
  honest = read.honest;
  at = λ honest w stands. let given = read.at honest w stands in
      record { answer = answer w given.answer; stays = given.stays; left = given.left };
  cause = answers old new out read.cause.no_fewer;
}
