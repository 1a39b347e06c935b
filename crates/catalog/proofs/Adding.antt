-- The line of a version, by what was read of it.
use Rattle.std.proofs.Common.{◌≡◌, ◌∙◌, ◌++◌, ℕ, List, [], Option, Some, None, Ok}
use Rattle.std.proofs.Common.{arith, refl, sym, ap}
use Rattle.keyring.specs.Reading.{Adds}
use Rattle.modver.specs.SemanticVersion.{SemanticVersion, version_text}
use Rattle.outline.specs.Outline.{in_outline, outline}
use Rattle.outline.specs.declared.outlines.Outline.{Outline}
use Rattle.world.proofs.Causes.{answers}
use Rattle.world.specs.Store.{Shown, Reads}
use Rattle.world.specs.World.{World, heading, view, without_zip}
use Rattle.world.specs.declared.entry.Heading.{Heading}
use Rattle.world.specs.declared.entry.Seen.{Seen}
use Rattle.catalog.specs.Catalog.{line_at, seen_line}
use Rattle.catalog.specs.Line.{names, rest}
use Rattle.catalog.specs.declared.line.Marks.{Marks}

module _ (seen_of : World → World) (s p : List ℕ) (v : SemanticVersion) (marks : Marks) where
  -- the line of a go.mod and of an outline, or none without the one or the other
  abbrev pub line_with : Option Heading → Option Outline → List ℕ
  line_with (Some heading) (Some it) = names p v ++ rest s marks heading it
  line_with (Some heading) None = []
  line_with None o = []

  same_line : (seen : Option Seen) → line_with (without_zip seen) (in_outline seen) ≡ seen_line s p v marks seen
  same_line None = refl
  same_line (Some seen) = refl

  module _ (old mid : Shown) (shown : Option Heading)
      (read : Reads old mid (Ok shown) (λ w. heading (seen_of w) s p (version_text v))) (before : List ℕ) where
    -- adding the line of what was read adds that of the version
    pub adds_line : (new : Shown) (found : Option Outline) (heading : Heading) (it : Outline) (after : List ℕ)
        → Reads mid new (Ok found) (λ w. outline (seen_of w) s p (version_text v)) → shown ≡ Some heading → found ≡ Some it
        → after ≡ before ++ (names p v ++ rest s marks heading it)
        → Adds old new before after (Ok tt) (λ w. line_at (seen_of w) s p v marks)
    adds_line new found heading it after then is is_it says = record {
      honest = λ h. read.honest (then.honest h);
      at = λ honest w stands.
          let here = read.at (then.honest honest) w stands in
          let there = then.at honest w here.stays in
          record {
            answer = says ∙ ap (λ l. before ++ l)
                ((λ i. line_with (sym is i) (sym is_it i)) ∙ (λ i. line_with (here.answer i) (there.answer i))
                ∙ same_line (view (seen_of w) s p (version_text v)));
            stays = there.stays;
            left = λ x y was. there.left x y (here.left x y was);
          };
      cause = answers old new after (omega (arith, read.cause.no_fewer, then.cause.no_fewer));
    }
