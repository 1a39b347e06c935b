-- The orders of operators, and the line of each.
use Rattle.std.specs.Prelude.{ℕ, ◌≡◌, ◌≢◌, ◌≤◌, ◌++◌, ◌∷◌, List, [], codes, length, true, Option, Some, None, option_copied}
use Rattle.world.specs.declared.entry.Right.{Right}
use Rattle.world.specs.declared.entry.Right.TheVariants.{Reads, Publishes}
use Rattle.orders.specs.Line.{IsLine}
use Rattle.orders.specs.Listing.{word_of}
use Rattle.orders.specs.Words as words
use Rattle.orders.specs.Words.{are_words, line_end, text_of}
use Rattle.orders.specs.declared.command.RegistryCommand.{RegistryCommand}
use Rattle.orders.specs.declared.command.RegistryCommand.TheVariants as command
use Rattle.orders.specs.declared.listing.Listing.{Listing}
use Rattle.orders.specs.declared.order.Order.{Order}
use Rattle.orders.specs.declared.order.Order.TheVariants as order
use Rattle.orders.specs.declared.write.WriteError.{WriteError}
use Rattle.orders.specs.declared.write.WriteError.TheVariants as unwritten

-- A registry command, wherever its texts lie.
pub data Commanded : Type 0 where
  TeamAdd : List ℕ → Option (List ℕ) → Commanded
  GroupAdd : List ℕ → Commanded
  KeyAdd : List ℕ → List ℕ → Right → Commanded
  KeyRevoke : List ℕ → Commanded
  KeysRevoke : List ℕ → Commanded

-- An order, wherever its texts lie.
pub data Ordered : Type 0 where
  Stop : Ordered
  Ping : Ordered
  ListOf : Listing → Ordered
  Copy : List ℕ → Ordered
  Catalog : List ℕ → Ordered
  RevokeByFingerprint : List ℕ → Ordered
  Registry : Commanded → Ordered

abbrev pub commanded : RegistryCommand → Commanded
commanded (command.TeamAdd name group) = TeamAdd name.now (option_copied group)
commanded (command.GroupAdd name) = GroupAdd name.now
commanded (command.KeyAdd shelf key right) = KeyAdd shelf.now key.now right
commanded (command.KeyRevoke key) = KeyRevoke key.now
commanded (command.KeysRevoke shelf) = KeysRevoke shelf.now

abbrev pub ordered : Order → Ordered
ordered order.Stop = Stop
ordered order.Ping = Ping
ordered (order.List listing) = ListOf listing
ordered (order.Copy path) = Copy path.now
ordered (order.Catalog key) = Catalog key.now
ordered (order.RevokeByFingerprint f) = RevokeByFingerprint f.now
ordered (order.Registry c) = Registry (commanded c)

-- the most bytes of a line without its end: that of a copy names a file
abbrev pub longest : ℕ
longest = 127

abbrev pub longest_copy : ℕ
longest_copy = 4095

abbrev pub longest_of : Ordered → ℕ
longest_of (Copy path) = longest_copy
longest_of other = longest

-- the word that adds a key with this right
abbrev pub add_word : Right → List ℕ
add_word Publishes = codes "key-add"
add_word Reads = codes "reader-add"

-- the words that add a team
abbrev pub added : List ℕ → Option (List ℕ) → words.Said
added name None = words.Two (codes "team-add") name
added name (Some group) = words.Three (codes "team-add") name group

-- the words of a registry command
abbrev pub said_in_command : Commanded → words.Said
said_in_command (TeamAdd name group) = added name group
said_in_command (GroupAdd name) = words.Two (codes "group-add") name
said_in_command (KeyAdd shelf key right) = words.Three (add_word right) shelf key
said_in_command (KeyRevoke key) = words.Two (codes "key-revoke") key
said_in_command (KeysRevoke shelf) = words.Two (codes "keys-revoke") shelf

-- the words of an order
abbrev pub said_in : Ordered → words.Said
said_in Stop = words.One (codes "stop")
said_in Ping = words.One (codes "ping")
said_in (ListOf listing) = words.One (word_of listing)
said_in (Copy path) = words.Two (codes "copy") path
said_in (Catalog key) = words.Two (codes "catalog") key
said_in (RevokeByFingerprint f) = words.Two (codes "revoke-fingerprint") f
said_in (Registry c) = said_in_command c

-- these are the words of this order, or of none
abbrev pub IsOrderOf : words.Said → Option Order → Type 0
IsOrderOf s None = (o : Ordered) → s ≢ said_in o
IsOrderOf s (Some o) = s ≡ said_in (ordered o)

-- the text of an order's words, and the end of the line
abbrev pub line_for : Ordered → List ℕ
line_for o = text_of (said_in o) ++ line_end ∷ []

-- The bytes are the line of this order: its words with one space between each two, and the end of the line. No word has
-- a space or the end of a line, and the line is not too long.
pub record IsLineOf (got : List ℕ) (o : Ordered) : Type 0 where
  pub line : IsLine got (text_of (said_in o))
  pub words : are_words (said_in o) ≡ true
  pub few : length (text_of (said_in o)) ≤ longest_of o

-- the bytes are the line of no order
abbrev pub IsNoOrder : List ℕ → Type 0
IsNoOrder got = (o : Ordered) → ¬ IsLineOf got o

-- some bytes are the line of the order
abbrev pub HasLine : Ordered → Type 0
HasLine o = (got : List ℕ) × IsLineOf got o

-- no bytes are
abbrev pub HasNoLine : Ordered → Type 0
HasNoLine o = (got : List ℕ) → ¬ IsLineOf got o

-- no bytes are the line of the order, or memory ran out
abbrev pub IsUnwritten : Ordered → WriteError → Type 0
IsUnwritten o unwritten.Words = HasNoLine o
IsUnwritten o unwritten.Memory = Unit {0}
