-- Targets by their routes: `/k/{key}/-/{*rest}` and `/k/{key}/{*rest}`.
use Rattle.std.specs.Prelude.{◌==◌, ◌&&◌, ℕ, nat_eq, nat_lt, Bool, List, [], ◌∷◌, length}
use Rattle.std.specs.Prelude.{drop, codes, Option, Some, None, option_map, if◌then◌else◌}
use Rattle.std.specs.List.{starts_with}
use Rattle.std.specs.Option.{option_and_then}
use Rattle.matchit.specs.Rows.{RowsOf, param_token, catch_all_token}
use Rattle.matchit.specs.Router.{RouteOf}
use Rattle.wire.specs.ModuleVersion.{around, without_start}
use Rattle.wire.specs.declared.routes.Area.{Area}
use Rattle.wire.specs.declared.routes.Area.TheVariants as area

-- both routes, as the router keeps them
abbrev pub shelf_route : RouteOf Area
shelf_route = record {
  pattern = 47 ∷ 107 ∷ 47 ∷ param_token ∷ 47 ∷ 45 ∷ 47 ∷ catch_all_token ∷ [];
  text = codes "/k/{key}/-/{*rest}";
  names = (4, 7) ∷ (13, 17) ∷ [];
  value = area.Shelf;
}

abbrev pub path_route : RouteOf Area
path_route = record {
  pattern = 47 ∷ 107 ∷ 47 ∷ param_token ∷ 47 ∷ catch_all_token ∷ [];
  text = codes "/k/{key}/{*rest}";
  names = (4, 7) ∷ (11, 15) ∷ [];
  value = area.Path;
}

abbrev pub routes : RowsOf (RouteOf Area)
routes = (shelf_route.pattern, shelf_route) ∷ (path_route.pattern, path_route) ∷ []

-- a key and a rest, if the key is not empty
abbrev pub with_key : List ℕ × List ℕ → Option (List ℕ × List ℕ)
with_key halves = if length halves.0 == 0 then None else Some halves

-- the key of a target, which has no slash, and the text after the slash that ends it
unfoldable pub split_of : List ℕ → Option (List ℕ × List ℕ)
split_of text = option_and_then with_key (option_and_then (around 47) (without_start (codes "/k/") text))

-- whether a rest begins with a plain `-/` and has more bytes
abbrev pub is_own : List ℕ → Bool
is_own rest = starts_with nat_eq rest (codes "-/") && nat_lt 2 (length rest)

-- the area about which the rest after a key asks, and the rest there: the shelf itself, without the `-/`, or a module
-- path; an empty rest has no area
abbrev pub area_of : List ℕ → Option (Area × List ℕ)
area_of rest =
    if is_own rest then Some (area.Shelf, drop 2 rest)
    else if nat_lt 0 (length rest) then Some (area.Path, rest) else None

-- the area, the key and the rest of a target
unfoldable pub routed_of : List ℕ → Option (Area × List ℕ × List ℕ)
routed_of text =
    option_and_then
    (λ (halves : List ℕ × List ℕ).
    option_map (λ (found : Area × List ℕ). (found.0, halves.0, found.1)) (area_of halves.1)) (split_of text)
