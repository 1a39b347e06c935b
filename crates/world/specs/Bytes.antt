-- The bytes of a file.
use Rattle.std.specs.Prelude.{ℕ, List}
use Rattle.world.specs.declared.bytes.Held.{Held}
use Rattle.world.specs.declared.bytes.Held.TheVariants.{Alone, Shared}

-- the bytes, whoever owns their memory
abbrev pub held_bytes : Held → List ℕ
held_bytes (Alone bytes) = bytes.items
held_bytes (Shared bytes) = bytes.value.items
