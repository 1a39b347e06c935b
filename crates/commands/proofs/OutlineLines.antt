-- The line of a version, by the outline of what is seen of it.
use Rattle.std.proofs.Common.{◌≡◌, ◌++◌, ◌∙◌, ℕ, List, [], ◌∷◌, Option, Some, None, Ok, refl, sym, ap, append-nil}
use Rattle.modver.specs.SemanticVersion.{SemanticVersion, version_text}
use Rattle.outline.specs.Outline.{in_outline, outline}
use Rattle.outline.specs.declared.outlines.Outline.{Outline}
use Rattle.world.specs.declared.entry.Seen.{Seen}
use Rattle.world.specs.Store.{Shown, Reads}
use Rattle.world.specs.World.{view}
use Rattle.world.proofs.Causes.{answers}
use Rattle.commands.specs.Inventory.{row_of, row_at, outlined, line, lines_of, fields}
use Rattle.keyring.specs.Reading.{Adds}
use Rattle.commands.specs.declared.inventory.InventoryRow.{InventoryRow}

-- the row of what is seen is the row of its outline
same_row : (p : List ℕ) (v : SemanticVersion) (seen : Option Seen) → outlined p v (in_outline seen) ≡ row_of p v seen
same_row p v None = refl
same_row p v (Some seen) = refl

-- once the outline of a version was read
module _ (old new : Shown) (s p : List ℕ) (v : SemanticVersion) (found : Option Outline)
    (read : Reads old new (Ok found) (λ w. outline w s p (version_text v))) (before after : List ℕ) where
  -- adding the lines of the outline adds those of the version
  adds_lines : (o : Option Outline) → found ≡ o → after ≡ before ++ lines_of (outlined p v o)
      → Adds old new before after (Ok tt) (λ w. lines_of (row_at w s p v))
  adds_lines o is says = record {
    honest = read.honest;
    at = λ honest w stands.
        let here = read.at honest w stands in
        let row = ap (outlined p v) (sym is ∙ here.answer) ∙ same_row p v (view w s p (version_text v)) in
        record {
          answer = says ∙ ap (λ rows. before ++ lines_of rows) row;
          stays = here.stays;
          left = here.left;
        };
    cause = answers old new after read.cause.no_fewer;
  }

  -- without an outline, adding nothing adds the lines of the version
  pub adds_none : found ≡ None → after ≡ before → Adds old new before after (Ok tt) (λ w. lines_of (row_at w s p v))
  adds_none is same = adds_lines None is (same ∙ sym (append-nil before))

  -- with an outline, adding the line of its row adds those of the version
  pub adds_one : (it : Outline) (row : InventoryRow) → found ≡ Some it → row ∷ [] ≡ outlined p v (Some it)
      → after ≡ before ++ line (fields row) → Adds old new before after (Ok tt) (λ w. lines_of (row_at w s p v))
  adds_one it row is rows says =
      adds_lines (Some it) is (says
      ∙ (ap (λ l. before ++ l) (sym (append-nil (line (fields row)))) ∙ ap (λ rs. before ++ lines_of rs) rows))
