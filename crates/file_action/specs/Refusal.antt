-- Why a command is refused that makes a store in a file.
use Rattle.commands.specs.declared.refusal.CommandRefusal.{CommandRefusal}
use Rattle.commands.specs.declared.refusal.CommandRefusal.TheVariants as refusal

-- the refusal of a file that a new store is made in, whose tables are not judged: a file that has any has bytes
abbrev pub new_store_refusal : CommandRefusal → CommandRefusal
new_store_refusal refusal.BadSchema = refusal.NotEmpty
new_store_refusal other = other
