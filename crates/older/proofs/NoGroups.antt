-- No shelf of an older store is a group, so the machine that knows no groups answers as today's.
use Rattle.std.proofs.Common.{◌≡◌, ℕ, List, Bool, true, false, cond, Option, Some, None, refl, ap, ◌∙◌}
use Rattle.std.specs.Prelude.{bytes_eq, not}
use Rattle.std.specs.FinMap as map
use Rattle.std.proofs.lemmas.Bool.{and_parts, not-true}
use Rattle.world.specs.Registry.{is_top, is_group}
use Rattle.world.specs.World.{common}
use Rattle.world.proofs.Sound.{top_is}
use Rattle.machine.proofs.Ungrouped.{each_is_of_one, lists_without_groups}
use Rattle.older.specs.Laws.{MeanNoGroup, AnswersAsBefore}

-- a world that such tables stand for has no group, because only `common` has no parent in it
pub mean_no_group : MeanNoGroup
mean_no_group format db w means g = go (is_group w g) refl
  where
    go : (b : Bool) → is_group w g ≡ b → b ≡ false
    go false is = refl
    go true is =
        let parts = and_parts (is_top (map.get w.shelves g)) (not (bytes_eq g common)) is in
        let it = means.shelves.found (g, None) (top_is (map.get w.shelves g) parts.0) in
        let never : ◌≡◌ {A = Option (List ℕ)} None (Some common) = it.2.1
        ∙ ap (λ b. cond b None (Some common)) (not-true (bytes_eq g common) parts.1) in
        absurd (cc)

pub answers_as_before : AnswersAsBefore
answers_as_before format db w means is =
    let it = each_is_of_one w (mean_no_group format db w means) in
    (it.0, it.1, λ es. (lists_without_groups it.0 w es is it.1).0)
