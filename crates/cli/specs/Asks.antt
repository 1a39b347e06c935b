-- Which command the words ask for: for each command, which option gives which field.
use Rattle.std.specs.Prelude.{ℕ, List, [], ◌≡◌, ◌⊎◌, ◌≤◌, Bool, true, false, Option, Some, None, codes, find}
use Rattle.std.specs.Prelude.{if◌then◌else◌, map, option_and_then, option_map}
use Rattle.std.specs.Borrow.{Bor}
use Rattle.std.specs.Str.{bytes_eq}
use Rattle.std.specs.Str.Parse.{IsNumeral, digits_value, without_leading_plus}
use Rattle.clap.specs.Words.{Row, Text, all_of, first_of, one_of}
use Rattle.clap.specs.Kinds.{IsAmong}
use Rattle.clap.specs.declared.error.kind.ErrorKind.{ErrorKind}
use Rattle.clap.specs.declared.error.kind.ErrorKind.TheVariants.{ArgumentConflict, OutOfMemory}
use Rattle.clap.specs.declared.parser.matches.ValueSource.{ValueSource}
use Rattle.clap.specs.declared.parser.matches.ValueSource.TheVariants.{CommandLine}
use Rattle.commands.specs.declared.action.Action.{Action}
use Rattle.commands.specs.declared.action.Action.TheVariants as action
use Rattle.socket.specs.declared.deed.ListenOn.{ListenOn}
use Rattle.socket.specs.declared.deed.ListenOn.TheVariants.{Input, Port}
use Rattle.orders.specs.declared.listing.Listing.{Listing}
use Rattle.orders.specs.declared.listing.Listing.TheVariants.{Keys, Shelves}
use Rattle.orders.specs.declared.order.Order.TheVariants as order
use Rattle.orders.specs.declared.command.RegistryCommand.{RegistryCommand}
use Rattle.orders.specs.declared.command.RegistryCommand.TheVariants.{GroupAdd, KeyAdd, KeyRevoke}
use Rattle.orders.specs.declared.command.RegistryCommand.TheVariants.{KeysRevoke, TeamAdd}
use Rattle.runner.specs.declared.Command.{Command}
use Rattle.runner.specs.declared.Command.TheVariants as command
use Rattle.args.specs.Table.{faults, given}
use Rattle.world.specs.declared.entry.Right.TheVariants.{Publishes, Reads}

-- the words themselves are the source
abbrev pub is_by_words : Option ValueSource → Bool
is_by_words (Some CommandLine) = true
is_by_words other = false

-- the one that is asked for is found, or none is asked for
abbrev pub Finds : {T : Type 0} → Option T → (T → Type 0) → Type 0
Finds {T} None asks = (asked : T) → asks asked → ⊥
Finds {T} (Some found) asks = asks found

-- What the words say of the options of a command: `name` is the name of an option without its dashes.
module _ (rows : List Row) where
  -- the option has this text
  abbrev pub Is : Text → Text → Type 0
  Is name text = first_of name rows ≡ Some text

  -- the option has this text, or is left out
  abbrev pub MayBe : Text → Option (Bor Text) → Type 0
  MayBe name value = first_of name rows ≡ option_map (λ text. text.now) value

  -- the option has these texts, one for each time that it is given
  abbrev pub Are : Text → List (Bor Text) → Type 0
  Are name values = all_of name rows ≡ Some (map (λ text. text.now) values)

  abbrev pub Lacks : Text → Type 0
  Lacks name = first_of name rows ≡ None

  -- the flag is given
  abbrev pub is_flagged : Text → Bool
  is_flagged name = is_by_words (option_and_then (λ row. row.source) (find (λ row. bytes_eq row.id name) rows))

  -- the option has a text that writes this number, which is at most `most`
  pub record IsNumber (name : Text) (most n : ℕ) : Type 0 where
    pub text : Text
    pub has : one_of name rows ≡ Some text
    pub numeral : IsNumeral 10 (without_leading_plus text)
    pub value : n ≡ digits_value 10 (without_leading_plus text)
    pub limit : n ≤ most

  abbrev pub LacksNumber : Text → Type 0
  LacksNumber name = one_of name rows ≡ None

  -- an option that takes a number of at most `most` has this number, or is left out, or has a text that writes none
  abbrev pub ReadsNumber : Text → ℕ → Option (Option ℕ) → Type 0
  ReadsNumber name most (Some (Some n)) = IsNumber name most n
  ReadsNumber name most (Some None) = LacksNumber name
  ReadsNumber name most None = (LacksNumber name → ⊥) × ((n : ℕ) → IsNumber name most n → ⊥)

  -- ---- which command is asked for by its word

  abbrev pub AsksRegistryCommand : Text → RegistryCommand → Type 0
  AsksRegistryCommand word (TeamAdd name group) = (word ≡ codes "team-add") × Is (codes "team") name.now
      × MayBe (codes "group") group
  AsksRegistryCommand word (GroupAdd name) = (word ≡ codes "group-add") × Is (codes "group") name.now
  AsksRegistryCommand word (KeyAdd shelf key right) = (word ≡ codes "key-add") × Is (codes "shelf") shelf.now
      × Is (codes "key") key.now
      × (is_flagged (codes "new") ≡ false) × (right ≡ (if is_flagged (codes "read-only") then Reads else Publishes))
  AsksRegistryCommand word (KeyRevoke key) = (word ≡ codes "key-revoke") × Is (codes "key") key.now
      × Lacks (codes "fingerprint") × Lacks (codes "shelf") × (is_flagged (codes "all") ≡ false)
  AsksRegistryCommand word (KeysRevoke shelf) = (word ≡ codes "key-revoke") × Lacks (codes "key")
      × Lacks (codes "fingerprint") × Is (codes "shelf") shelf.now × (is_flagged (codes "all") ≡ true)

  -- where the connections of `serve` come in: at the port, or at standard input in its place
  abbrev pub AsksEntrance : ListenOn → Type 0
  AsksEntrance (Port port) = IsNumber (codes "port") 65535 port × (is_flagged (codes "stdin") ≡ false)
  AsksEntrance Input = LacksNumber (codes "port") × (is_flagged (codes "stdin") ≡ true)

  -- how many connections it answers: this number, or the largest if none is given
  abbrev pub AsksConnections : ℕ → Type 0
  AsksConnections n = IsNumber (codes "connections") 4294967295 n
      ⊎ (LacksNumber (codes "connections") × (n ≡ 4294967295))

  -- an action of a command, or of a form of one, that only the store of a file can do
  abbrev pub AsksAction : Text → Action → Type 0
  AsksAction word action.Open = ⊥
  AsksAction word (action.Register command) = ⊥
  AsksAction word (action.Catalog key) = ⊥
  AsksAction word (action.List listing) = ⊥
  AsksAction word action.Answer = ⊥
  AsksAction word (action.AddNew shelf right) = (word ≡ codes "key-add")
      × Is (codes "shelf") shelf.now × (is_flagged (codes "new") ≡ true) × Lacks (codes "key") × Lacks (codes "control")
      × (right ≡ (if is_flagged (codes "read-only") then Reads else Publishes))
  AsksAction word (action.RevokeByFingerprint fingerprint) = (word ≡ codes "key-revoke")
      × Is (codes "fingerprint") fingerprint.now × Lacks (codes "shelf") × (is_flagged (codes "all") ≡ false)
      × Lacks (codes "key") × Lacks (codes "control")
  AsksAction word (action.Publish words files) = (word ≡ codes "publish")
      × Is (codes "key") words.key.now × Is (codes "module") words.path.now × Is (codes "version") words.version.now
      × MayBe (codes "time") words.time × Is (codes "mod") files.gomod.now × Is (codes "zip") files.zip.now
  AsksAction word (action.Import key list) = (word ≡ codes "import") × Is (codes "key") key.now
      × Is (codes "list") list.now
  AsksAction word (action.Inventory key) = (word ≡ codes "inventory") × Is (codes "key") key.now
  AsksAction word (action.Requires version) = (word ≡ codes "requires")
      × Is (codes "key") version.key.now × Is (codes "module") version.path.now
      × Is (codes "version") version.version.now
  AsksAction word (action.Serve entrance connections control) = (word ≡ codes "serve")
      × AsksEntrance entrance × AsksConnections connections × MayBe (codes "control") control

  -- a command that names no registry command: an action on the store of a file, a key that is made for a running
  -- server, or a fingerprint whose key that server is to revoke
  abbrev pub AsksOtherCommand : Text → Command → Type 0
  AsksOtherCommand word (command.OnStore db action) = Is (codes "db") db.now × AsksAction word action
  AsksOtherCommand word (command.OrderNew control shelf right) = (word ≡ codes "key-add") × Lacks (codes "db")
      × Is (codes "control") control.now × Is (codes "shelf") shelf.now × (is_flagged (codes "new") ≡ true)
      × Lacks (codes "key") × (right ≡ (if is_flagged (codes "read-only") then Reads else Publishes))
  AsksOtherCommand word (command.Send control (order.RevokeByFingerprint fingerprint)) = (word ≡ codes "key-revoke") × Lacks (codes "db")
      × Is (codes "control") control.now × Is (codes "fingerprint") fingerprint.now × Lacks (codes "shelf")
      × (is_flagged (codes "all") ≡ false) × Lacks (codes "key")
  AsksOtherCommand word other = ⊥

  abbrev pub AsksListing : Text → Listing → Type 0
  AsksListing word Keys = word ≡ codes "key-list"
  AsksListing word Shelves = word ≡ codes "shelf-list"

  abbrev pub AsksCommand : Text → Command → Type 0
  AsksCommand word (command.Init db) = (word ≡ codes "init") × Is (codes "db") db.now
  AsksCommand word (command.AnswerInMemory team key) = (word ≡ codes "answer")
      × Lacks (codes "db") × (is_flagged (codes "mem") ≡ true) × Is (codes "team") team.now × Is (codes "key") key.now
  AsksCommand word (command.OnStore db (action.Register command)) = Is (codes "db") db.now × Lacks (codes "control")
      × AsksRegistryCommand word command
  AsksCommand word (command.OnStore db action.Answer) = (word ≡ codes "answer")
      × Is (codes "db") db.now × (is_flagged (codes "mem") ≡ false) × Lacks (codes "team") × Lacks (codes "key")
  AsksCommand word (command.OnStore db (action.List listing)) = AsksListing word listing
      × Is (codes "db") db.now × Lacks (codes "control")
  AsksCommand word (command.OnStore db (action.Catalog key)) = (word ≡ codes "catalog") × Is (codes "key") key.now
      × Is (codes "db") db.now × Lacks (codes "control")
  AsksCommand word (command.OnStore db action) = AsksOtherCommand word (command.OnStore db action)
  AsksCommand word (command.OrderNew control shelf right) = AsksOtherCommand word (command.OrderNew control shelf right)
  AsksCommand word (command.Send control (order.RevokeByFingerprint fingerprint)) =
      AsksOtherCommand word (command.Send control (order.RevokeByFingerprint fingerprint))
  AsksCommand word (command.Extract db teams to) = (word ≡ codes "extract")
      × Is (codes "db") db.now × Are (codes "team") teams.now × Is (codes "to") to.now
  AsksCommand word (command.Migrate from to) = (word ≡ codes "migrate") × Is (codes "from") from.now
      × Is (codes "to") to.now
  AsksCommand word (command.Send control (order.Registry command)) = Is (codes "control") control.now × Lacks (codes "db")
      × AsksRegistryCommand word command
  AsksCommand word (command.Send control (order.Copy to)) = (word ≡ codes "copy") × Is (codes "control") control.now
      × Is (codes "to") to.now
  AsksCommand word (command.Send control order.Ping) = (word ≡ codes "ping") × Is (codes "control") control.now
  AsksCommand word (command.Send control (order.List listing)) = AsksListing word listing
      × Is (codes "control") control.now × Lacks (codes "db")
  AsksCommand word (command.Send control (order.Catalog key)) = (word ≡ codes "catalog") × Is (codes "key") key.now
      × Is (codes "control") control.now × Lacks (codes "db")
  AsksCommand word (command.Send control order.Stop) = (word ≡ codes "stop") × Is (codes "control") control.now

-- the name of a command and its options ask for it
abbrev pub GivenAsks : Option (Text × List Row) → Command → Type 0
GivenAsks None asked = ⊥
GivenAsks (Some p) asked = AsksCommand p.1 p.0 asked

-- the words ask for this command: the tables of options take them, and its own options give its fields
abbrev pub Asks : List Text → Command → Type 0
Asks words asked = (faults words ≡ []) × GivenAsks (given words) asked

-- the tables take the words, and the options fit no form of their command
abbrev pub FitNoForm : List Text → Type 0
FitNoForm words = (faults words ≡ []) × ((asked : Command) → GivenAsks (given words) asked → ⊥)

-- Why a text is shown in place of a run: a lack of memory for no reason of the words, that the options fit no form of
-- their command if they do not, and every other text only if the tables find this in the words.
abbrev pub IsShownFor : List Text → ErrorKind → Type 0
IsShownFor words OutOfMemory = Unit {0}
IsShownFor words ArgumentConflict = IsAmong ArgumentConflict (faults words) ⊎ FitNoForm words
IsShownFor words other = IsAmong other (faults words)
