-- What the words have to give so that a command is asked for.
use Rattle.std.proofs.Common.{◌≡◌, ◌≤◌, ◌+◌, ◌^◌, ◌∙◌, ℕ, List, Option, None, Some, Ok, Err, ap, arith, codes, inl, inr}
use Rattle.std.proofs.Common.{refl, sym}
use Rattle.std.specs.Prelude.{Result, find, option_and_then, option_map}
use Rattle.std.specs.Result.{result_ok}
use Rattle.std.specs.Str.Parse.{IsNumeral, ParsesUnsigned, digits_value, without_leading_plus}
use Rattle.clap.specs.Words.{TriesOne, one_of}
use Rattle.commands.specs.declared.action.Action.{Action}
use Rattle.commands.specs.declared.action.Action.TheVariants as action
use Rattle.socket.specs.declared.deed.ListenOn.{ListenOn}
use Rattle.socket.specs.declared.deed.ListenOn.TheVariants.{Input, Port}
use Rattle.orders.specs.declared.listing.Listing.TheVariants.{Keys, Shelves}
use Rattle.orders.specs.declared.order.Order.TheVariants as order
use Rattle.orders.specs.declared.command.RegistryCommand.{RegistryCommand}
use Rattle.runner.specs.declared.Command.{Command}
use Rattle.runner.specs.declared.Command.TheVariants as command
use Rattle.cli.specs.Asks.{AsksAction, AsksCommand, AsksConnections, AsksEntrance, AsksOtherCommand}
use Rattle.cli.specs.Asks.{AsksRegistryCommand}
use Rattle.cli.specs.Asks.{Finds, Is, Lacks, ReadsNumber}
use Rattle.std.specs.Str.{bytes_eq}
use Rattle.clap.specs.Words.{Row, Text, matched_of, rows_of}
use Rattle.clap.specs.Facts.{Entry}
use Rattle.clap.specs.Walk.{row_of}
use Rattle.clap.specs.declared.parser.matches.Found.{Found}
use Rattle.clap.specs.declared.parser.matches.MatchedArg.{MatchedArg}
use Rattle.clap.proofs.WalkLemmas.{find_row}

-- where the value of an option comes from
pub source_row : (f : Found) (id : Text) → option_and_then (λ (a : MatchedArg). a.source) (matched_of f id)
    ≡ option_and_then (λ (r : Row). r.source) (find (λ r. bytes_eq r.id id) (rows_of f))
source_row f id = go (find (λ e. bytes_eq e.0.now id) f.entries.items)
    ∙ ap (option_and_then (λ (r : Row). r.source)) (sym (find_row f.entries.items id))
  where
    go : (o : Option Entry) → option_and_then (λ (a : MatchedArg). a.source) (option_map (λ e. e.1) o)
        ≡ option_and_then (λ (r : Row). r.source) (option_map row_of o)
    go None = refl
    go (Some e) = refl

-- what is found is asked for
pub found : {T : Type 0} (o : Option T) (x : T) (asks : T → Type 0) → o ≡ Some x → Finds o asks → asks x
found o x asks is h = rw is at h

pub not_found : {T : Type 0} (o : Option T) (asks : T → Type 0) → o ≡ None → Finds o asks → (x : T) → asks x → ⊥
not_found o asks is h = rw is at h

no_number : {E : Type 0} (k most : ℕ) (t : Text) (x : E) (n : ℕ) (u : Text) → ParsesUnsigned k 10 t (Err x)
    → 2 ^ k ≡ most + 1 → u ≡ t
    → IsNumeral 10 (without_leading_plus u) → n ≡ digits_value 10 (without_leading_plus u) → n ≤ most → ⊥
no_number k most t x n u failed limit same numeral value small =
    let numeral_here : IsNumeral 10 (without_leading_plus t) = rw same at numeral in
    let value_here : n ≡ digits_value 10 (without_leading_plus t) = rw same at value in
    failed (numeral_here, omega (arith, limit, value_here))

-- what the typed getter makes of the text of a number
pub number_read : (rows : List Row) (name : Text) (k most : ℕ) {E : Type 0} (gives : List ℕ → Result ℕ E → Type 0)
    (r : Result (Option ℕ) E)
    → ((t : List ℕ) (x : Result ℕ E) → gives t x → ParsesUnsigned k 10 t x) → 2 ^ k ≡ most + 1
    → (one_of name rows ≡ None → r ≡ Ok None) → ((t : List ℕ) → one_of name rows ≡ Some t → TriesOne gives t r)
    → ReadsNumber rows name most (result_ok r)
number_read rows name k most {E} gives r parses limit none some = go (one_of name rows) refl r none some
  where
    go : (o : Option Text) → one_of name rows ≡ o → (r : Result (Option ℕ) E)
        → (one_of name rows ≡ None → r ≡ Ok None) → ((t : List ℕ) → one_of name rows ≡ Some t → TriesOne gives t r)
        → ReadsNumber rows name most (result_ok r)
    go None e r none some = rw (none e) e
    go (Some t) e (Ok (Some n)) none some =
        let parsed = parses t (Ok n) (some t e) in
        record {
          text = t;
          has = e;
          numeral = parsed.0.0;
          value = parsed.1;
          limit =
              omega (arith, limit, parsed.0.1, parsed.1);
        }
    go (Some t) e (Ok None) none some = absurd (some t e)
    go (Some t) e (Err x) none some =
        let failed = parses t (Err x) (some t e) in (
          (λ lacks. let bad : None ≡ Some t = sym lacks ∙ e in cc),
          (λ n is. no_number k most t x n is.text failed limit (cc (sym is.has ∙ e)) is.numeral is.value is.limit),
        )

pub no_connections : (rows : List Row) (o : Option (Option ℕ)) (r : Option ℕ) → o ≡ None → r ≡ None
    → ReadsNumber rows (codes "connections") 4294967295 o → Finds r (AsksConnections rows)
no_connections rows o r none is h = rw is (go (rw none at h))
  where
    go : ReadsNumber rows (codes "connections") 4294967295 None → (n : ℕ) → AsksConnections rows n → ⊥
    go h n (inl number) = h.1 n number
    go h n (inr lacks) = h.0 lacks.0

pub no_port : (rows : List Row) (o : Option (Option ℕ)) (r : Option ListenOn) → o ≡ None → r ≡ None
    → ReadsNumber rows (codes "port") 65535 o → Finds r (AsksEntrance rows)
no_port rows o r none is h = rw is (go (rw none at h))
  where
    go : ReadsNumber rows (codes "port") 65535 None → (e : ListenOn) → AsksEntrance rows e → ⊥
    go h (Port n) asks = h.1 n asks.0
    go h Input asks = h.0 asks.0

pub no_serve : (rows : List Row) → ((n : ℕ) → AsksConnections rows n → ⊥) → (a : Action)
    → AsksAction rows (codes "serve") a → ⊥
no_serve rows none action.Open asks = asks
no_serve rows none (action.Register command) asks = asks
no_serve rows none action.Answer asks = asks
no_serve rows none (action.AddNew shelf right) asks = cc
no_serve rows none (action.RevokeByFingerprint fingerprint) asks = cc
no_serve rows none (action.Publish words files) asks = cc
no_serve rows none (action.Import key list) asks = cc
no_serve rows none (action.Inventory key) asks = cc
no_serve rows none (action.Catalog key) asks = asks
no_serve rows none (action.Requires version) asks = cc
no_serve rows none (action.List listing) asks = asks
no_serve rows none (action.Serve entrance connections control) asks = none connections asks.2

-- where a file is named, only an action is asked for
pub no_other_command : (rows : List Row) (word db : Text) → Is rows (codes "db") db
    → ((a : Action) → AsksAction rows word a → ⊥) → (asked : Command) → AsksOtherCommand rows word asked → ⊥
no_other_command rows word db is acts (command.OnStore name a) asks = acts a asks.1
no_other_command rows word db is acts (command.OrderNew control shelf right) asks =
    let bad : None ≡ Some db = sym asks.1 ∙ is in cc
no_other_command rows word db is acts (command.Send control (order.RevokeByFingerprint fingerprint)) asks =
    let bad : None ≡ Some db = sym asks.1 ∙ is in cc
no_other_command rows word db is acts (command.Init name) asks = asks
no_other_command rows word db is acts (command.AnswerInMemory team key) asks = asks
no_other_command rows word db is acts (command.Extract name teams to) asks = asks
no_other_command rows word db is acts (command.Migrate from to) asks = asks
no_other_command rows word db is acts (command.Send control (order.Registry o)) asks = asks
no_other_command rows word db is acts (command.Send control (order.Copy to)) asks = asks
no_other_command rows word db is acts (command.Send control order.Ping) asks = asks
no_other_command rows word db is acts (command.Send control (order.List listing)) asks = asks
no_other_command rows word db is acts (command.Send control (order.Catalog key)) asks = asks
no_other_command rows word db is acts (command.Send control order.Stop) asks = asks

-- where no file is named, these two words alone ask for a command that names no registry command
pub no_sent : (rows : List Row) (word : Text) → Lacks rows (codes "db") → (word ≡ codes "key-add" → ⊥)
    → (word ≡ codes "key-revoke" → ⊥) → (asked : Command) → AsksOtherCommand rows word asked → ⊥
no_sent rows word lacks add revoke (command.OnStore db a) asks = let bad : None ≡ Some db.now = sym lacks ∙ asks.0 in cc
no_sent rows word lacks add revoke (command.OrderNew control shelf right) asks = add asks.0
no_sent rows word lacks add revoke (command.Send control (order.RevokeByFingerprint fingerprint)) asks = revoke asks.0
no_sent rows word lacks add revoke (command.Init name) asks = asks
no_sent rows word lacks add revoke (command.AnswerInMemory team key) asks = asks
no_sent rows word lacks add revoke (command.Extract name teams to) asks = asks
no_sent rows word lacks add revoke (command.Migrate from to) asks = asks
no_sent rows word lacks add revoke (command.Send control (order.Registry o)) asks = asks
no_sent rows word lacks add revoke (command.Send control (order.Copy to)) asks = asks
no_sent rows word lacks add revoke (command.Send control order.Ping) asks = asks
no_sent rows word lacks add revoke (command.Send control (order.List listing)) asks = asks
no_sent rows word lacks add revoke (command.Send control (order.Catalog key)) asks = asks
no_sent rows word lacks add revoke (command.Send control order.Stop) asks = asks

-- a word asks for no command that is none of these, and asks for no registry command, and for nothing that is none
pub no_command : (rows : List Row) (word : Text) → (word ≡ codes "init" → ⊥) → (word ≡ codes "answer" → ⊥)
    → (word ≡ codes "extract" → ⊥)
    → (word ≡ codes "migrate" → ⊥) → (word ≡ codes "copy" → ⊥) → (word ≡ codes "ping" → ⊥)
    → (word ≡ codes "key-list" → ⊥) → (word ≡ codes "shelf-list" → ⊥) → (word ≡ codes "catalog" → ⊥)
    → (word ≡ codes "stop" → ⊥)
    → ((o : RegistryCommand) → AsksRegistryCommand rows word o → ⊥)
    → ((c : Command) → AsksOtherCommand rows word c → ⊥)
    → (asked : Command) → AsksCommand rows word asked → ⊥
no_command rows word init answer extract migrate copy ping keys shelves catalog stop registers acts = go
  where
    on_store : (db : _) (a : Action) → AsksCommand rows word (command.OnStore db a) → ⊥
    on_store db action.Open asks = asks.1
    on_store db (action.Register o) asks = registers o asks.2
    on_store db action.Answer asks = answer asks.0
    on_store db (action.AddNew shelf right) asks = acts (command.OnStore db (action.AddNew shelf right)) asks
    on_store db (action.RevokeByFingerprint fingerprint) asks = acts (command.OnStore db
        (action.RevokeByFingerprint fingerprint)) asks
    on_store db (action.Publish words files) asks = acts (command.OnStore db (action.Publish words files)) asks
    on_store db (action.Import key list) asks = acts (command.OnStore db (action.Import key list)) asks
    on_store db (action.Inventory key) asks = acts (command.OnStore db (action.Inventory key)) asks
    on_store db (action.Catalog key) asks = catalog asks.0
    on_store db (action.Requires version) asks = acts (command.OnStore db (action.Requires version)) asks
    on_store db (action.List Keys) asks = keys asks.0
    on_store db (action.List Shelves) asks = shelves asks.0
    on_store db (action.Serve entrance connections control) asks =
        acts (command.OnStore db (action.Serve entrance connections control)) asks

    go : (asked : Command) → AsksCommand rows word asked → ⊥
    go (command.Init db) asks = init asks.0
    go (command.AnswerInMemory team key) asks = answer asks.0
    go (command.OnStore db a) asks = on_store db a asks
    go (command.Extract db teams to) asks = extract asks.0
    go (command.Migrate from to) asks = migrate asks.0
    go (command.Send control (order.Registry o)) asks = registers o asks.2
    go (command.OrderNew control shelf right) asks = acts (command.OrderNew control shelf right) asks
    go (command.Send control (order.RevokeByFingerprint fingerprint)) asks = acts (command.Send control (order.RevokeByFingerprint fingerprint)) asks
    go (command.Send control (order.Copy to)) asks = copy asks.0
    go (command.Send control order.Ping) asks = ping asks.0
    go (command.Send control (order.List Keys)) asks = keys asks.0
    go (command.Send control (order.List Shelves)) asks = shelves asks.0
    go (command.Send control (order.Catalog key)) asks = catalog asks.0
    go (command.Send control order.Stop) asks = stop asks.0

-- a command that names no registry command is a command
is_command : (rows : List Row) (word : Text) (c : Command) → AsksOtherCommand rows word c → AsksCommand rows word c
is_command rows word (command.OnStore db action.Open) asks = absurd asks.1
is_command rows word (command.OnStore db (action.Register o)) asks = absurd asks.1
is_command rows word (command.OnStore db action.Answer) asks = absurd asks.1
is_command rows word (command.OnStore db (action.List listing)) asks = absurd asks.1
is_command rows word (command.OnStore db (action.Catalog key)) asks = absurd asks.1
is_command rows word (command.OnStore db (action.AddNew shelf right)) asks = asks
is_command rows word (command.OnStore db (action.RevokeByFingerprint fingerprint)) asks = asks
is_command rows word (command.OnStore db (action.Publish words files)) asks = asks
is_command rows word (command.OnStore db (action.Import key list)) asks = asks
is_command rows word (command.OnStore db (action.Inventory key)) asks = asks
is_command rows word (command.OnStore db (action.Requires version)) asks = asks
is_command rows word (command.OnStore db (action.Serve entrance connections control)) asks = asks
is_command rows word (command.OrderNew control shelf right) asks = asks
is_command rows word (command.Send control (order.RevokeByFingerprint fingerprint)) asks = asks
is_command rows word (command.Init db) asks = absurd asks
is_command rows word (command.AnswerInMemory team key) asks = absurd asks
is_command rows word (command.Extract db teams to) asks = absurd asks
is_command rows word (command.Migrate from to) asks = absurd asks
is_command rows word (command.Send control (order.Registry o)) asks = absurd asks
is_command rows word (command.Send control (order.Copy to)) asks = absurd asks
is_command rows word (command.Send control order.Ping) asks = absurd asks
is_command rows word (command.Send control (order.List listing)) asks = absurd asks
is_command rows word (command.Send control (order.Catalog key)) asks = absurd asks
is_command rows word (command.Send control order.Stop) asks = absurd asks

-- where a word asks for nothing else, what is found among the commands that name no registry command is asked for
pub other_command : (rows : List Row) (word : Text) (o : Option Command)
    → (((c : Command) → AsksOtherCommand rows word c → ⊥) → (c : Command) → AsksCommand rows word c → ⊥)
    → Finds o (AsksOtherCommand rows word) → Finds o (AsksCommand rows word)
other_command rows word None others none = others none
other_command rows word (Some c) others asks = is_command rows word c asks
