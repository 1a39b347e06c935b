-- Reading a list of a store.
use Rattle.std.proofs.Common.{ℕ, List, Result, Ok, Err, subst, inl, inr, refl}
use Rattle.keyring.specs.KeyList.{IsInOrder, ListsKeys, Puts, key_lines}
use Rattle.world.specs.Store.{Shown, Reads, HasCause}
use Rattle.world.specs.World.{World}
use Rattle.world.specs.declared.registry.StoreFault.{StoreFault}
use Rattle.world.specs.declared.registry.StoreFault.TheVariants.{Memory}
use Rattle.control.specs.Copying.{IsOnlyRead}
use Rattle.control.specs.Listing.{IsList, IsReplyFor, Lists, ReadsList}
use Rattle.orders.specs.declared.listing.Listing.{Listing}
use Rattle.orders.specs.declared.listing.Listing.TheVariants.{Keys, Shelves}
use Rattle.control.specs.declared.control_reply.ControlReply.{ControlReply}

-- a read changes nothing
pub only_read : {T : Type 0} (old new : Shown) (result : Result T StoreFault) (value : World → T)
    → Reads old new result value → IsOnlyRead old new
only_read old new result value reads = record {
  honest = reads.honest;
  stays = λ h w stands. (reads.at h w stands).stays;
  left = λ h w x y stands before. (reads.at h w stands).left x y before;
  no_fewer = reads.cause.no_fewer;
}

pub list_only_reads : (old new : Shown) (listing : Listing) (told : Result (List ℕ) StoreFault)
    → ReadsList old new listing told → IsOnlyRead old new
list_only_reads old new Keys told lists = only_read old new lists.told key_lines lists.reads
list_only_reads old new Shelves told reads = only_read old new told _ reads

-- the lines that were read, in each world that the store stood for
keys_read : (old new : Shown) (w : World) (read : Result (List (List ℕ)) StoreFault) (text : List ℕ)
    → Reads old new read key_lines → new.is_honest → old.stands w → Puts read (Ok text) → IsList Keys w text
keys_read old new w (Ok lines) text reads h stands puts =
    subst (λ ls. IsInOrder ls text) (reads.at h w stands).answer puts
keys_read old new w (Err fault) text reads h stands puts = cc

-- a list that was read is that of each world that the store stood for
pub list_is : (old new : Shown) (w : World) (listing : Listing) (text : List ℕ) → ReadsList old new listing (Ok text)
    → new.is_honest → old.stands w → IsList listing w text
list_is old new w Keys text lists h stands = keys_read old new w lists.told text lists.reads h stands lists.puts
list_is old new w Shelves text reads h stands = (reads.at h w stands).answer

-- a read whose value was lost is one that met a lack of memory
abbrev out_of_memory : (T : Type 0) → Result T StoreFault
out_of_memory T = Err Memory

no_memory_cause : {T : Type 0} (U : Type 0) (old new : Shown) (x : T) → HasCause old new (Ok x)
    → HasCause old new (out_of_memory U)
no_memory_cause U old new x cause = record { no_fewer = cause.no_fewer; device = λ is. cc }

read_lost : {T : Type 0} (old new : Shown) (x : T) (value : World → T) → Reads old new (Ok x) value
    → Reads old new (Err Memory) value
read_lost {T} old new x value reads = record {
  honest = reads.honest;
  at = λ h w stands.
      let here = reads.at h w stands in record { answer = tt; stays = here.stays; left = here.left };
  cause = no_memory_cause T old new x reads.cause;
}

keys_lost : (old new : Shown) (text : List ℕ) → ListsKeys old new (Ok text) → ListsKeys old new (Err Memory)
keys_lost old new text lists = go lists.told lists.reads lists.puts
  where
    go : (read : Result (List (List ℕ)) StoreFault) → Reads old new read key_lines → Puts read (Ok text)
        → ListsKeys old new (Err Memory)
    go (Ok lines) reads puts = record { told = Ok lines; reads = reads; puts = refl }
    go (Err fault) reads puts = cc

list_lost : (old new : Shown) (listing : Listing) (text : List ℕ) → ReadsList old new listing (Ok text)
    → ReadsList old new listing (Err Memory)
list_lost old new Keys text lists = keys_lost old new text lists
list_lost old new Shelves text reads = read_lost old new text _ reads

-- a list was read, and told if there was memory for it
pub lists_told : (old new : Shown) (listing : Listing) (text : List ℕ) (told : ControlReply)
    → ReadsList old new listing (Ok text) → IsReplyFor text told → Lists old new listing told
lists_told old new listing text told reads reply = elim reply [
  | inl is ↦ record { heard = Ok text; reads = reads; tells = is }
  | inr is ↦ record { heard = Err Memory; reads = list_lost old new listing text reads; tells = is }
]
