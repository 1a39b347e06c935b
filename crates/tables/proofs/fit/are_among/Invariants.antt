use Rattle.std.proofs.Common.{◌≡◌, string_bytes}
use Rattle.std.proofs.Common.{map as each}
use Rattle.std.specs.FinSet as set
use Rattle.std.specs.List.{list_all}
use Rattle.world.specs.Lines.{in_order}
use Rattle.tables.proofs.fit.are_among.Given as goal

-- the texts that are left tell what all would
abbrev pub invariant-loop-text : goal.invariant-loop-text
invariant-loop-text l = list_all (λ t. set.contains l.others t) (each string_bytes l.text-iterator)
    ≡ list_all (λ t. set.contains l.others t) (in_order l.texts)
