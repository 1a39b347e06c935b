-- How much of the reserve was found each time that it was looked for, and the lines that say so.
use Rattle.std.specs.Prelude.{ℕ, ◌≡◌, ◌++◌, List, [], ◌∷◌, Option}
use Rattle.histories.specs.Calls.{Writes}
use Rattle.control.specs.Noted.{AreOfRoom, LooksUnlessWhole}
use Rattle.control.specs.Notices.{WritesLines}
use Rattle.control.specs.Reserve.{DiskDeed, Lent, Renewed}
use Rattle.control.specs.declared.reserve.Room.{Room}

-- such lines were written, such deeds were done to the same reserve meanwhile, and nothing else, where so much of it was
-- found before, and so much last
abbrev pub WritesAndDoes : (are : Room → Room → List (List ℕ) → List DiskDeed → Type 0)
    → (old new : Option (List ℕ) × Writes) → Lent → Lent → Type 0
WritesAndDoes are old new room room_new =
    (room_new.2 ≡ room.2) × (more : List DiskDeed) × (room_new.0 ≡ room.0 ++ more)
    × WritesLines (λ lines. are room.1 room_new.1 lines more) old new

-- what was done to the reserve, or written
pub data Moment : Type 0 where
  -- it was looked for, so much of it was found, and these lines were written of that
  Looked : Room → List (List ℕ) → Moment
  -- a peer was answered, before which it was looked for unless all of it was there, with these lines and deeds
  ForPeer : Room → List (List ℕ) → List DiskDeed → Moment
  -- something else was done to it, or a copy was begun
  Did : DiskDeed → Moment
  -- a line was written that is of something else
  Wrote : List ℕ → Moment

-- the lines that were written, in their order
abbrev pub lines_in : List Moment → List (List ℕ)
lines_in [] = []
lines_in (Looked found lines ∷ moments) = lines ++ lines_in moments
lines_in (ForPeer found lines deeds ∷ moments) = lines ++ lines_in moments
lines_in (Did deed ∷ moments) = lines_in moments
lines_in (Wrote line ∷ moments) = line ∷ lines_in moments

-- what was done, in its order
abbrev pub deeds_in : List Moment → List DiskDeed
deeds_in [] = []
deeds_in (Looked found lines ∷ moments) = Renewed found ∷ deeds_in moments
deeds_in (ForPeer found lines deeds ∷ moments) = deeds ++ deeds_in moments
deeds_in (Did deed ∷ moments) = deed ∷ deeds_in moments
deeds_in (Wrote line ∷ moments) = deeds_in moments

-- deeds, one after another
abbrev pub dids : List DiskDeed → List Moment
dids [] = []
dids (deed ∷ deeds) = Did deed ∷ dids deeds

-- lines, one after another
abbrev pub wrotes : List (List ℕ) → List Moment
wrotes [] = []
wrotes (line ∷ lines) = Wrote line ∷ wrotes lines

-- Each time that the reserve was looked for, a line was written of it if something else was found than the last time,
-- and else none. It was looked for before each peer, unless all of it had been there. So much of it had been found
-- before, and so much was found last.
abbrev pub TellsEachFind : Room → Room → List Moment → Type 0
TellsEachFind found found_new [] = found_new ≡ found
TellsEachFind found found_new (Looked next lines ∷ moments) =
    AreOfRoom found next lines × TellsEachFind next found_new moments
TellsEachFind found found_new (ForPeer next lines deeds ∷ moments) =
    LooksUnlessWhole found next lines deeds × TellsEachFind next found_new moments
TellsEachFind found found_new (Did deed ∷ moments) = TellsEachFind found found_new moments
TellsEachFind found found_new (Wrote line ∷ moments) = TellsEachFind found found_new moments

-- these lines and these deeds are those of the moments, and so it was
pub record AreOfMoments (moments : List Moment) (found found_new : Room) (lines : List (List ℕ)) (deeds : List DiskDeed) :
    Type 0 where
  pub are_lines : lines ≡ lines_in moments
  pub are_deeds : deeds ≡ deeds_in moments
  pub tells : TellsEachFind found found_new moments
