-- What is asked of a store for the lines of a path, and a world without the versions that came to it.
use Rattle.std.specs.Prelude.{ℕ, Bool, List, Option, Result, Ok, Err, not, option_map, bytes_eq, ◌&&◌, if◌then◌else◌}
use Rattle.std.specs.Prelude.{[], ◌∷◌, is_some}
use Rattle.std.specs.FinMap as map
use Rattle.std.specs.FinSet as set
use Rattle.std.specs.List.{flat_map, list_any}
use Rattle.gomod.specs.Module.{GoModule}
use Rattle.modver.specs.SemanticVersion.{SemanticVersion, version_text}
use Rattle.outline.specs.Outline.{outline_of}
use Rattle.world.specs.Latest.{latest_of}
use Rattle.world.specs.Lines.{in_order}
use Rattle.world.specs.Versions.{versions_of}
use Rattle.world.specs.World.{World, heading_of, place_cmp, view}
use Rattle.world.specs.declared.entry.Seen.{Seen}
use Rattle.world.specs.declared.registry.StoreFault.{StoreFault}
use Rattle.catalog.specs.Catalog.{ruling}
use Rattle.catalog.specs.declared.path.Account.{Account}
use Rattle.catalog.specs.declared.sight.Sighting.{Sighting}

-- the world without the entries at these places
abbrev pub without : World → set.FinSet place_cmp → World
without w newcomers = record {
  keys = w.keys;
  shelves = w.shelves;
  entries = map.retain_keys w.entries (λ q. not (set.contains newcomers q));
}

-- what a line needs of what is seen
abbrev pub sighting : Option Seen → Option Sighting
sighting seen = option_map (λ it. record { heading = heading_of it.entry; outline = outline_of it }) seen

-- whether a newcomer has this path and this version
abbrev pub is_named : set.FinSet place_cmp → List ℕ → List ℕ → Bool
is_named newcomers p v = list_any (λ q. bytes_eq q.path p && bytes_eq q.version v) (in_order newcomers)

-- whether a newcomer has this path and this version, and without the newcomers the shelf sees nothing of it
abbrev pub is_gone : World → set.FinSet place_cmp → List ℕ → List ℕ → List ℕ → Bool
is_gone w newcomers s p v = is_named newcomers p v && not (is_some (view (without w newcomers) s p v))

-- the version, unless it is gone
abbrev pub kept : World → set.FinSet place_cmp → List ℕ → List ℕ → SemanticVersion → List SemanticVersion
kept w newcomers s p v = if is_gone w newcomers s p (version_text v) then [] else v ∷ []

abbrev pub all_kept : World → set.FinSet place_cmp → List ℕ → List ℕ → List SemanticVersion → List SemanticVersion
all_kept w newcomers s p vs = flat_map (kept w newcomers s p) vs

-- what a path says: its versions, the go.mod by which `@latest` goes, and the latest version
pub record Facts : Type 0 where
  pub versions : List SemanticVersion
  pub ruling : Option GoModule
  pub latest : Option SemanticVersion

abbrev pub facts_of : World → List ℕ → List ℕ → Facts
facts_of w s p = record { versions = versions_of w s p; ruling = ruling w s p; latest = latest_of w s p }

-- what an account says of its path
abbrev pub facts_in : Result Account StoreFault → Result Facts StoreFault
facts_in (Ok account) =
    Ok (record { versions = account.versions; ruling = account.ruling; latest = account.latest })
facts_in (Err fault) = Err fault
