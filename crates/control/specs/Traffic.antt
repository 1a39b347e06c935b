-- How often each shelf was published to and fetched from since a server began, and the lines that tell it.
use Rattle.std.specs.Prelude.{ℕ, ◌≡◌, ◌<◌, ◌+◌, ◌-◌, ◌^◌, ◌++◌, min, Bool, true, false, IsTrue, ◌||◌, bytes_eq}
use Rattle.std.specs.Prelude.{List, [], All, codes, decimal, Option, Some, None, unwrap_or, Result, Ok, Err}
use Rattle.std.specs.FinMap as map
use Rattle.std.specs.List.{flat_map}
use Rattle.world.specs.Names.{is_team_name}
use Rattle.world.specs.World.{common}
use Rattle.world.specs.declared.registry.StoreFault.{StoreFault}
use Rattle.control.specs.declared.traffic.ShelfTraffic.{ShelfTraffic}
use Rattle.control.specs.declared.traffic.Traffic.{Traffic}
use Rattle.control.specs.declared.traffic.Transfer.{Transfer}
use Rattle.control.specs.declared.traffic.Transfer.TheVariants.{Publish, Fetch}

-- ---- counts

-- the counts of a shelf that has none
abbrev pub none : ShelfTraffic
none = record { publishes = 0; fetches = 0 }

-- one more, as far as 64 bits hold it
abbrev pub one_more : ℕ → ℕ
one_more n = min (n + 1) (2 ^ 64 - 1)

-- the counts of a shelf with one transfer more
abbrev pub with_one : Transfer → ShelfTraffic → ShelfTraffic
with_one Publish t = record { publishes = one_more t.publishes; fetches = t.fetches }
with_one Fetch t = record { publishes = t.publishes; fetches = one_more t.fetches }

-- a transfer of this shelf was counted, and nothing else
abbrev pub CountsOne : Transfer → List ℕ → Traffic → Traffic → Type 0
CountsOne transfer shelf old new =
    new.shelves ≡ map.insert old.shelves shelf (with_one transfer (unwrap_or (map.get old.shelves shelf) none))

-- the shelf had no counts, and got none
abbrev pub StaysUncounted : List ℕ → Traffic → Traffic → Type 0
StaysUncounted shelf old new = (map.get old.shelves shelf ≡ None) × (new ≡ old)

-- whether the store kept what was published
abbrev pub was_published : Result (Unit {0}) StoreFault → Bool
was_published (Ok u) = true
was_published (Err fault) = false

-- whether the store found what was to be fetched
abbrev pub was_found : {X : Type 0} → Result (Option X) StoreFault → Bool
was_found (Ok (Some found)) = true
was_found (Ok None) = false
was_found (Err fault) = false

-- ---- lines

-- the line of a shelf with these counts, with its end
abbrev pub shelf_line : List ℕ → Option ShelfTraffic → List ℕ
shelf_line shelf None = []
shelf_line shelf (Some t) =
    codes "shelf " ++ (shelf ++ (codes " publishes=" ++ (decimal t.publishes
    ++ (codes " fetches=" ++ (decimal t.fetches ++ codes "\n")))))

-- the lines of all shelves that have counts, in the order of their names
abbrev pub lines_of : Traffic → List ℕ
lines_of t = flat_map (λ shelf. shelf_line shelf (map.get t.shelves shelf)) (map.keys t.shelves)

-- whether a shelf can have this name
abbrev pub is_shelf_name : List ℕ → Bool
is_shelf_name name = is_team_name name || bytes_eq name common

-- a shelf can have this name, and its counts have 64 bits
abbrev pub IsShelf : List ℕ × ShelfTraffic → Type 0
IsShelf e = IsTrue (is_shelf_name e.0) × (e.1.publishes < 2 ^ 64) × (e.1.fetches < 2 ^ 64)

-- so it is of each shelf that has counts, and there are not more than 64 bits tell
abbrev pub IsTraffic : Traffic → Type 0
IsTraffic t = All IsShelf (map.entries t.shelves) × (map.len t.shelves < 2 ^ 64)
