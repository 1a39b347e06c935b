use Rattle.std.proofs.Common.{◌∙◌, ap, sym, subst}
use Rattle.memory_store.specs.NestedMaps.{EachHasVersion, by_place}
use Rattle.memory_store.proofs.MapsPlaces.{by_place-empty}
use Rattle.memory_store.proofs.MapsSeen.{none_without}
use Rattle.memory_store.proofs.entry_map.EntryMap.new.Goals as goal

pub invariant_of-result : goal.invariant_of-result
invariant_of-result c = subst EachHasVersion (sym c.new.ensures) none_without

pub returns : goal.returns
returns c = ap by_place c.new.ensures ∙ by_place-empty
