-- The lists that an operator gets: of keys, and of shelves.
use Rattle.std.specs.Prelude.{ℕ, ◌≡◌, ◌⊎◌, ◌++◌, List, [], ◌∷◌, codes, Result, Ok, Err}
use Rattle.keyring.specs.KeyList.{IsInOrder, ListsKeys, key_lines}
use Rattle.keyring.specs.ShelfList.{shelf_text}
use Rattle.world.specs.Store.{Shown, Reads}
use Rattle.world.specs.World.{World}
use Rattle.world.specs.declared.registry.StoreFault.{StoreFault}
use Rattle.world.specs.declared.registry.StoreFault.TheVariants.{Memory}
use Rattle.orders.specs.Words.{line_end}
use Rattle.orders.specs.declared.listing.Listing.{Listing}
use Rattle.orders.specs.declared.listing.Listing.TheVariants.{Keys, Shelves}
use Rattle.orders.specs.declared.outcome.Outcome.TheVariants.{Failed}
use Rattle.control.specs.declared.control_reply.ControlReply.{ControlReply}
use Rattle.control.specs.declared.control_reply.ControlReply.TheVariants as spoken

-- a list, and the line that ends it
abbrev pub whole : List ℕ → List ℕ
whole text = text ++ codes "done\n"

-- the bytes are no line, or lines, of which the last has its end
abbrev pub AreLines : List ℕ → Type 0
AreLines text = (text ≡ []) ⊎ ((front : List ℕ) × (text ≡ front ++ line_end ∷ []))

-- from old to new a list was read, in each world that the store stood for, or a fault was met; nothing was changed
abbrev pub ReadsList : Shown → Shown → Listing → Result (List ℕ) StoreFault → Type 0
ReadsList old new Keys result = ListsKeys old new result
ReadsList old new Shelves result = Reads old new result shelf_text

-- the text is this list of a world
abbrev pub IsList : Listing → World → List ℕ → Type 0
IsList Keys w text = IsInOrder (key_lines w) text
IsList Shelves w text = text ≡ shelf_text w

-- what is told of a list
abbrev pub told_of_list : Result (List ℕ) StoreFault → ControlReply
told_of_list (Ok text) = spoken.List (whole text)
told_of_list (Err fault) = spoken.Outcome (Failed fault)

-- this list is told, or that there was no memory for it
abbrev pub IsReplyFor : List ℕ → ControlReply → Type 0
IsReplyFor text told = (told ≡ told_of_list (Ok text)) ⊎ (told ≡ told_of_list (Err Memory))

-- A list was read, and this was told.
pub record Lists (old new : Shown) (listing : Listing) (told : ControlReply) : Type 0 where
  pub heard : Result (List ℕ) StoreFault
  pub reads : ReadsList old new listing heard
  pub tells : told ≡ told_of_list heard
