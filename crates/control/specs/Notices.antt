-- What `serve` writes on standard error: lines that say what happened, in which no key stands.
use Rattle.std.specs.Prelude.{ℕ, ◌≡◌, ◌≢◌, ◌<◌, ◌≤◌, ◌⊎◌, ◌++◌, ◌&&◌, not, if◌then◌else◌, Bool, true, false}
use Rattle.std.specs.Prelude.{List, [], ◌∷◌, All, codes, decimal, Option, Some, None, option_copied}
use Rattle.std.specs.Prelude.{Result, Ok, Err}
use Rattle.std.specs.FinMap as map
use Rattle.std.specs.List.{list_all}
use Rattle.std.specs.Str.{chars, is_utf8}
use Rattle.std.specs.Io.KnownBytes.{Appends}
use Rattle.histories.specs.Calls.{Writes}
use Rattle.ucd_category.specs.GeneralCategory.{general_category}
use Rattle.ucd_category.specs.declared.GeneralCategory.{GeneralCategory}
use Rattle.ucd_category.specs.declared.GeneralCategory.TheVariants as category
use Rattle.keyring.specs.KeyList.{fingerprint}
use Rattle.machine.specs.Machine.{after}
use Rattle.modver.specs.SemanticVersion.{version_text}
use Rattle.world.specs.World.{World}
use Rattle.world.specs.declared.entry.Right.{Right}
use Rattle.world.specs.declared.entry.Right.TheVariants.{Reads, Publishes}
use Rattle.world.specs.declared.registry.RegistryReply.{RegistryReply}
use Rattle.world.specs.declared.registry.RegistryReply.TheVariants as registered
use Rattle.world.specs.declared.registry.StoreFault.{StoreFault}
use Rattle.world.specs.declared.registry.StoreFault.TheVariants.{Device}
use Rattle.control.specs.Outcome.{outcome_of, outcome_of_catalog, outcome_of_copy}
use Rattle.orders.specs.Outcome as outcome
use Rattle.control.specs.RegistryCommand.{event_of, outcome_in}
use Rattle.orders.specs.Words.{line_end}
use Rattle.control.specs.declared.copies.CatalogRefusal.{CatalogRefusal}
use Rattle.control.specs.declared.copies.CopyRefusal.{CopyRefusal}
use Rattle.control.specs.declared.store_call.StoreCall.{StoreCall}
use Rattle.control.specs.declared.store_call.StoreCall.TheVariants as errand
use Rattle.orders.specs.declared.command.RegistryCommand.{RegistryCommand}
use Rattle.orders.specs.declared.command.RegistryCommand.TheVariants.{TeamAdd, GroupAdd, KeyAdd}
use Rattle.orders.specs.declared.command.RegistryCommand.TheVariants.{KeyRevoke, KeysRevoke}
use Rattle.orders.specs.declared.outcome.Outcome.{Outcome}
use Rattle.orders.specs.declared.outcome.Outcome.TheVariants.{Failed}
use Rattle.orders.specs.declared.outcome.Outcome.TheVariants as case

-- ---- texts

-- the categories of characters that may change what is shown around them: controls, formats, and ends of lines
abbrev pub is_hidden : GeneralCategory → Bool
is_hidden category.Control = true
is_hidden category.Format = true
is_hidden category.LineSeparator = true
is_hidden category.ParagraphSeparator = true
is_hidden other = false

-- the text is UTF-8, and has no character of such a category
abbrev pub is_plain : List ℕ → Bool
is_plain text = is_utf8 text && list_all (λ c. not (is_hidden (general_category c))) (chars text)

-- what stands in the place of a text that is not told
abbrev pub untold : List ℕ
untold = codes "?"

-- a text, if it is plain
abbrev pub plain : List ℕ → List ℕ
plain text = if is_plain text then text else untold

-- ---- the words of an order

-- what a command answered
abbrev pub Answer : Type 0
Answer = Result RegistryReply StoreFault

-- whether it says that the store has the shelf that the command names: the shelf was added, or found there
abbrev pub has_shelf : Answer → Bool
has_shelf (Ok registered.Done) = true
has_shelf (Ok registered.Taken) = true
has_shelf other = false

-- whether it says so of the group of a team
abbrev pub has_group : Answer → Bool
has_group (Ok registered.Done) = true
has_group other = false

-- a name that the store has
abbrev pub name_if : Bool → List ℕ → List ℕ
name_if has name = if has then plain name else untold

abbrev pub behind_team : Answer → Option (List ℕ) → List ℕ
behind_team told None = []
behind_team told (Some group) = codes " " ++ name_if (has_group told) group

abbrev pub right_words : Right → List ℕ
right_words Reads = codes " read-only "
right_words Publishes = codes " "

-- the words of a registry command with this answer: in the place of a key its fingerprint, and no name that the store
-- may not have
abbrev pub shown_words : RegistryCommand → Answer → List ℕ
shown_words (TeamAdd name group) told =
    codes "team-add " ++ (name_if (has_shelf told) name.now ++ behind_team told (option_copied group))
shown_words (GroupAdd name) told = codes "group-add " ++ name_if (has_shelf told) name.now
shown_words (KeyAdd shelf key right) told =
    codes "key-add " ++ (name_if (has_shelf told) shelf.now ++ (right_words right ++ fingerprint key.now))
shown_words (KeyRevoke key) told = codes "key-revoke " ++ fingerprint key.now
shown_words (KeysRevoke shelf) told = codes "keys-revoke " ++ name_if (has_shelf told) shelf.now

-- ---- the words of a request

-- the words of a module path, and those of a version
abbrev pub path_words : List ℕ → List ℕ → List ℕ
path_words verb path = verb ++ plain path

abbrev pub version_words : List ℕ → List ℕ → List ℕ → List ℕ
version_words verb path version = verb ++ (plain path ++ (codes " " ++ plain version))

-- what a store was asked for a request
abbrev pub errand_words : StoreCall → List ℕ
errand_words errand.Key = codes "key"
errand_words (errand.Fetch path) = path_words (codes "fetch ") path.now
errand_words (errand.FetchVersion path version) =
    version_words (codes "fetch ") path.now (version_text version.now)
errand_words (errand.Publish path) = path_words (codes "publish ") path.now
errand_words (errand.PublishVersion path version) =
    version_words (codes "publish ") path.now (version_text version.now)
errand_words errand.Modules = codes "fetch of all paths"

-- ---- lines

-- what a line is about
pub data Occasion : Type 0 where
  -- the store of this file was opened, and has so many versions
  Opened : List ℕ → ℕ → Occasion
  -- it was opened, and its versions could not be counted
  Uncounted : List ℕ → StoreFault → Occasion
  -- a registry command was carried out
  Ordered : RegistryCommand → Answer → Occasion
  -- a copy to this path was ordered
  Copied : List ℕ → Result (Unit {0}) CopyRefusal → Occasion
  -- the catalog of this key was asked for
  Catalogued : List ℕ → Result (Unit {0}) CatalogRefusal → Occasion
  -- an operator was told this
  Answered : Outcome → Occasion
  -- room on the disk is kept for orders, and this came of it
  Reserved : Outcome → Occasion
  -- the store met a fault
  Met : StoreCall → StoreFault → Occasion
  -- the store of this file is no longer served
  Ended : List ℕ → Occasion
  -- memory ran out for another line, or for the counts of a shelf
  Lost : Occasion

-- a store was opened, and its versions were counted with this result
abbrev pub opened : List ℕ → Result ℕ StoreFault → Occasion
opened file (Ok n) = Opened file n
opened file (Err fault) = Uncounted file fault

-- room on the disk was there for all of the reserve, or not
abbrev pub room_told : Bool → Outcome
room_told true = case.RegistryReply registered.Done
room_told false = Failed Device

-- a word, a text, and the outcome
abbrev pub outcome_line : List ℕ → List ℕ → Outcome → List ℕ
outcome_line kind text told = kind ++ (text ++ (codes ": " ++ outcome.line_of told))

-- the line, with its end
abbrev pub line_of : Occasion → List ℕ
line_of (Opened file n) = codes "opened: " ++ (plain file ++ (codes ": " ++ (decimal n ++ codes " versions\n")))
line_of (Uncounted file fault) = outcome_line (codes "opened: ") (plain file) (Failed fault)
line_of (Ordered command told) = outcome_line (codes "order: ") (shown_words command told) (outcome_of told)
line_of (Copied path told) = outcome_line (codes "order: ") (codes "copy " ++ plain path) (outcome_of_copy told)
line_of (Catalogued key told) =
    outcome_line (codes "order: ") (codes "catalog " ++ fingerprint key) (outcome_of_catalog told)
line_of (Answered told) = codes "order: " ++ outcome.line_of told
line_of (Reserved told) = codes "reserve: " ++ outcome.line_of told
line_of (Met asked fault) = outcome_line (codes "fault: ") (errand_words asked) (Failed fault)
line_of (Ended file) = codes "ended: " ++ (plain file ++ codes "\n")
line_of Lost = codes "lost: memory\n"

-- a text is the line of an occasion
abbrev pub IsNotice : List ℕ → Type 0
IsNotice text = ∥ ((about : Occasion) × (text ≡ line_of about)) ∥₁

-- ---- what was written

-- a text is a line, or a beginning of one
abbrev pub IsPiece : List ℕ → Type 0
IsPiece text = (rest : List ℕ) × IsNotice (text ++ rest)

-- one after another
abbrev pub joined : List (List ℕ) → List ℕ
joined [] = []
joined (piece ∷ pieces) = piece ++ joined pieces

-- the text is made of lines, of which a failed write may have left only a beginning
pub record AreNotices (text : List ℕ) : Type 0 where
  pub pieces : List (List ℕ)
  pub each : All IsPiece pieces
  pub is : text ≡ joined pieces

-- only such lines were written
pub record WritesNotices (old new : Option (List ℕ)) : Type 0 where
  pub text : List ℕ
  pub lines : AreNotices text
  pub writes : Appends old new text

-- each of these is a beginning of the line beside it, or all of it
abbrev pub AreBegun : List (List ℕ) → List (List ℕ) → Type 0
AreBegun [] [] = Unit {0}
AreBegun (piece ∷ pieces) (line ∷ lines) =
    ((rest : List ℕ) × (line ≡ piece ++ rest)) × AreBegun pieces lines
AreBegun pieces lines = ⊥

-- Lines that are so were written, of some only a beginning, and nothing else. All are whole, and flushed if all before
-- them was, unless a call to write or to flush failed. Here and below a writer is what it took, and the calls to it.
pub record WritesLines (are : List (List ℕ) → Type 0) (old new : Option (List ℕ) × Writes) : Type 0 where
  pub lines : List (List ℕ)
  pub each : All IsNotice lines
  pub so : are lines
  pub pieces : List (List ℕ)
  pub begun : AreBegun pieces lines
  pub writes : Appends old.0 new.0 (joined pieces)
  pub no_fewer : old.1.failed ≤ new.1.failed
  pub whole : (old.1.failed < new.1.failed) ⊎ ((pieces ≡ lines) × (old.1.unflushed ≡ [] → new.1.unflushed ≡ []))

-- a line says which fault a store met, or that memory ran out for that, or for the counts of a shelf
abbrev pub IsOfFault : Occasion → Type 0
IsOfFault (Met asked fault) = Unit {0}
IsOfFault Lost = Unit {0}
IsOfFault other = ⊥

-- a text is the line of such an occasion
abbrev pub IsLineAbout : (Occasion → Type 0) → List ℕ → Type 0
IsLineAbout such line = ∥ ((about : Occasion) × such about × (line ≡ line_of about)) ∥₁

-- there is one such line, or none
abbrev pub AtMostOne : (Occasion → Type 0) → List (List ℕ) → Type 0
AtMostOne such lines = (lines ≡ []) ⊎ ((line : List ℕ) × (lines ≡ line ∷ []) × IsLineAbout such line)

-- a line begins behind these bytes
abbrev pub EndsLine : List ℕ → Type 0
EndsLine front = (front ≡ []) ⊎ ((before : List ℕ) × (front ≡ before ++ line_end ∷ []))

-- no line of a text begins with this word
abbrev pub NoLineBegins : List ℕ → List ℕ → Type 0
NoLineBegins word text = (front rest : List ℕ) → EndsLine front → text ≢ front ++ (word ++ rest)

-- no line of notices is a refusal's
abbrev pub NoneIsRefusal : Type 0
NoneIsRefusal = (text : List ℕ) → AreNotices text → NoLineBegins (codes "goshelf:") text

-- ---- what the notice of an order gives away

-- two names are the same, or each is none
abbrev pub AreNamesAlike : (List ℕ → Type 0) → List ℕ → List ℕ → Type 0
AreNamesAlike is_none one two = (one ≡ two) ⊎ (is_none one × is_none two)

abbrev pub AreGroupsAlike : (List ℕ → Type 0) → Option (List ℕ) → Option (List ℕ) → Type 0
AreGroupsAlike is_none None None = Unit {0}
AreGroupsAlike is_none (Some one) (Some two) = AreNamesAlike is_none one two
AreGroupsAlike is_none one two = ⊥

-- two commands are the same, but for names that are none, and for keys with one fingerprint
abbrev pub AreAlike : (List ℕ → Type 0) → RegistryCommand → RegistryCommand → Type 0
AreAlike is_none (TeamAdd one group) (TeamAdd two other) =
    AreNamesAlike is_none one.now two.now × AreGroupsAlike is_none (option_copied group) (option_copied other)
AreAlike is_none (GroupAdd one) (GroupAdd two) = AreNamesAlike is_none one.now two.now
AreAlike is_none (KeyAdd one key right) (KeyAdd two other right_too) =
    AreNamesAlike is_none one.now two.now × (fingerprint key.now ≡ fingerprint other.now) × (right ≡ right_too)
AreAlike is_none (KeyRevoke key) (KeyRevoke other) = fingerprint key.now ≡ fingerprint other.now
AreAlike is_none (KeysRevoke one) (KeysRevoke two) = AreNamesAlike is_none one.now two.now
AreAlike is_none one two = ⊥

-- no shelf of the world has this name
abbrev pub IsNoShelf : World → List ℕ → Type 0
IsNoShelf w name = map.contains_key w.shelves name ≡ false

-- Of the names of a command that got the machine's reply, its line shows only those that shelves of the world after it
-- have, and of its key only the fingerprint: with others in their place it is the same line.
abbrev pub ShowsOnlyShelves : Type 0
ShowsOnlyShelves = (w : World) (one two : RegistryCommand) → AreAlike (IsNoShelf (after w (event_of one))) one two
    → line_of (Ordered one (Ok (outcome_in w one))) ≡ line_of (Ordered two (Ok (outcome_in w one)))

-- of the names of a command that met a fault it shows none
abbrev pub ShowsNoneAfterFault : Type 0
ShowsNoneAfterFault = (fault : StoreFault) (one two : RegistryCommand) → AreAlike (λ name. Unit {0}) one two
    → line_of (Ordered one (Err fault)) ≡ line_of (Ordered two (Err fault))
