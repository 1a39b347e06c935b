-- Gathering a list from a store, piece by piece.
use Rattle.std.proofs.Common.{◌≡◌, ◌≤◌, ◌++◌, ◌∷◌, List, Ok, ◌∙◌, ap, subst, append_assoc, arith}
use Rattle.std.specs.List.{flat_map}
use Rattle.world.specs.Store.{Shown, Reads}
use Rattle.world.specs.World.{World}
use Rattle.keyring.specs.Reading.{Adds}

-- this holds, and the store still stands for this world
pub record HoldsAt (old new : Shown) (w : World) (so : Type 0) : Type 0 where
  pub holds : so
  pub stays : new.stands w
  pub left : (x y : World) → old.leaves x y → new.leaves x y

-- it holds in each world that the store stood for, and the count of failures did not fall
pub record HoldsThroughout (old new : Shown) (so : World → Type 0) : Type 0 where
  pub honest : new.is_honest → old.is_honest
  pub at : new.is_honest → (w : World) → old.stands w → HoldsAt old new w (so w)
  pub no_fewer : old.failures ≤ new.failures

module _ {X T : Type 0} (f : World → X → List T) (before : List T) (goal : World → List T) where
  -- the items gathered, and those of what is left, are those that were there first and the goal
  abbrev pub Gathers : List T → List X → World → Type 0
  Gathers items rest w = items ++ flat_map (f w) rest ≡ before ++ goal w

  -- gathering begins once the pieces were read, if the items of all pieces are the goal
  pub gathers_first : {A : Type 0} (list : A → List X) (a b : Shown) (got : A) (pieces : List X) (of : World → A)
      → ((w : World) → flat_map (f w) (list (of w)) ≡ goal w) → pieces ≡ list got → Reads a b (Ok got) of
      → HoldsThroughout a b (Gathers before pieces)
  gathers_first list a b got pieces of all are read = record {
    honest = read.honest;
    at = λ h w stands.
        let here = read.at h w stands in
        record {
          holds = ap (λ xs. before ++ flat_map (f w) xs) (are ∙ ap list here.answer) ∙ ap (λ l. before ++ l) (all w);
          stays = here.stays;
          left = here.left;
        };
    no_fewer = read.cause.no_fewer;
  }

  -- if the items of one more piece were added, gathering goes on
  pub gathered_more : (a b c : Shown) (items more : List T) (x : X) (rest : List X)
      → HoldsThroughout a b (Gathers items (x ∷ rest)) → Adds b c items more (Ok tt) (λ w. f w x)
      → HoldsThroughout a c (Gathers more rest)
  gathered_more a b c items more x rest far adds = record {
    honest = λ h. far.honest (adds.honest h);
    at = λ h w stands.
        let was = far.at (adds.honest h) w stands in
        let added = adds.at h w was.stays in
        record {
          holds = ap (λ l. l ++ flat_map (f w) rest) added.answer ∙ append_assoc items (f w x) (flat_map (f w) rest)
              ∙ was.holds;
          stays = added.stays;
          left = λ x y before. added.left x y (was.left x y before);
        };
    no_fewer = omega (arith, far.no_fewer, adds.cause.no_fewer);
  }

  -- if the items of the next piece of what is left were added, gathering goes on
  pub gathered_next : (a b c : Shown) (items more : List T) (x y : X) (left rest : List X) → left ≡ x ∷ rest → y ≡ x
      → HoldsThroughout a b (Gathers items left) → Adds b c items more (Ok tt) (λ w. f w y)
      → HoldsThroughout a c (Gathers more rest)
  gathered_next a b c items more x y left rest begins is far adds =
      gathered_more a b c items more x rest (subst (λ l. HoldsThroughout a b (Gathers items l)) begins far)
      (subst (λ z. Adds b c items more (Ok tt) (λ w. f w z)) is adds)
