-- What is done to the reserve for the orders that operators sent, and which copies are begun for them.
use Rattle.std.specs.Prelude.{◌≡◌, List, [], Option, Some, None}
use Rattle.control.specs.Hearing.{Heard, Carried, Made, Named}
use Rattle.control.specs.Naming.{Naming, NamesOne, NamesNone, ReadError}
use Rattle.control.specs.Reserve.{DiskDeed, IsUse, begun_for}

-- these are the deeds of what came of a fingerprint: those of the registry command, if there was one
abbrev pub IsUseNamed : Naming → List DiskDeed → Type 0
IsUseNamed (NamesOne key told) own = IsUse told own
IsUseNamed NamesNone own = own ≡ []
IsUseNamed (ReadError fault) own = own ≡ []

-- these are the deeds of what was ordered: of a registry command those that `IsUse` allows, of a copy that it was
-- begun, and of another order none
abbrev pub IsUseFor : Heard → List DiskDeed → Type 0
IsUseFor (Carried command told) own = IsUse told own
IsUseFor (Named f naming) own = IsUseNamed naming own
IsUseFor (Made making) own = own ≡ begun_for making
IsUseFor other own = own ≡ []

-- so it is of what an operator's line ordered, or of a line that was not read
abbrev pub IsUseIf : Option Heard → List DiskDeed → Type 0
IsUseIf None own = own ≡ []
IsUseIf (Some heard) own = IsUseFor heard own
