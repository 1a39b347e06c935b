use Rattle.std.proofs.Common.{◌≡◌, string_bytes}
use Rattle.std.proofs.Common.{map as each}
use Rattle.std.specs.FinMap as map
use Rattle.world.specs.FinMaps.{with_texts}
use Rattle.world.proofs.text_map.TextMap.add_keys.Given as goal

abbrev pub invariant-loop-key : goal.invariant-loop-key
invariant-loop-key g l = with_texts l.texts (each string_bytes l.key-iterator)
    ≡ with_texts l.initial.texts (map.keys l.self)
