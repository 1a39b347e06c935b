-- The list of keys: a line for each, in byte order.
use Rattle.std.specs.Prelude.{ℕ, ◌≡◌, List, [], ◌∷◌, ◌++◌, codes, take, Option, Some, None, Result, Ok, Err}
use Rattle.std.specs.List.{flat_map}
use Rattle.std.specs.List.Sorted.{IsPermutation, IsSorted}
use Rattle.std.specs.FinMap as map
use Rattle.hex.specs.Hex.{encode_lower}
use Rattle.sha2.specs.Sha256.{sha256}
use Rattle.keyring.specs.Named.{keys_in}
use Rattle.world.specs.Lines.{in_order}
use Rattle.world.specs.Store.{Shown, Reads}
use Rattle.world.specs.World.{World, text_cmp}
use Rattle.world.specs.declared.entry.Holder.{Holder}
use Rattle.world.specs.declared.entry.Right.{Right}
use Rattle.world.specs.declared.entry.Right.TheVariants.{Reads as MayRead, Publishes}
use Rattle.world.specs.declared.registry.StoreFault.{StoreFault}
use Rattle.world.specs.declared.registry.StoreFault.TheVariants.{Memory}

-- the first 8 bytes of the SHA-256 of a key, as 16 hexadecimal digits
abbrev pub fingerprint : List ℕ → List ℕ
fingerprint k = encode_lower (take 8 (sha256 k))

-- the SHA-256 of a key, as 64 hexadecimal digits
abbrev pub hex_digest : List ℕ → List ℕ
hex_digest k = encode_lower (sha256 k)

abbrev pub right_word : Right → List ℕ
right_word MayRead = codes "read"
right_word Publishes = codes "publish"

-- the line of a key, with its end
abbrev pub key_line : List ℕ → Holder → List ℕ
key_line k h =
    h.shelf ++ (codes " " ++ (right_word h.right
    ++ (codes " " ++ (fingerprint k ++ (codes " " ++ (hex_digest k ++ codes "\n"))))))

-- the line of a key by its holder, or none if it has none
abbrev pub lines_of : List ℕ → Option Holder → List (List ℕ)
lines_of k None = []
lines_of k (Some h) = key_line k h ∷ []

-- the lines of all keys, one for each
abbrev pub key_lines : World → List (List ℕ)
key_lines w = flat_map (λ k. lines_of k (map.get w.keys k)) (in_order (keys_in w))

-- the lines one after another
abbrev pub text_of : List (List ℕ) → List ℕ
text_of lines = flat_map (λ line. line) lines

-- the text has these lines and no others, each as often, in byte order
pub record IsInOrder (lines : List (List ℕ)) (text : List ℕ) : Type 0 where
  pub sorted : List (List ℕ)
  pub same : IsPermutation lines sorted
  pub rises : IsSorted text_cmp sorted
  pub is : text ≡ text_of sorted

-- the text of the lines that were read, in byte order, or why there is none
abbrev pub Puts : Result (List (List ℕ)) StoreFault → Result (List ℕ) StoreFault → Type 0
Puts (Ok lines) (Ok text) = IsInOrder lines text
Puts (Ok lines) (Err fault) = fault ≡ Memory
Puts (Err fault) result = result ≡ Err fault

-- From old to new the lines of all keys were read, in each world that the store stood for, or a fault was met. Nothing
-- was changed, and the result is their text.
pub record ListsKeys (old new : Shown) (result : Result (List ℕ) StoreFault) : Type 0 where
  pub told : Result (List (List ℕ)) StoreFault
  pub reads : Reads old new told key_lines
  pub puts : Puts told result
