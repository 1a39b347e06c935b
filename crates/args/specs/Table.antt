-- The commands with their options, and what the words after the name of the program give of them.
use Rattle.std.specs.Prelude.{ℕ, Bool, true, false, List, [], ◌∷◌, map, fold, Option, Some, String, is_some, codes}
use Rattle.std.specs.Prelude.{string_bytes}
use Rattle.clap.specs.Words.{App, Row, Rule, Shape, Text, fault_of, new_app, new_rule, subcommand_of, with_rule}
use Rattle.clap.specs.Words.{with_subcommand}
use Rattle.clap.specs.Kinds.{Kinds}
use Rattle.clap.specs.declared.builder.action.ArgAction.TheVariants.{Append, SetTrue}
use Rattle.clap.specs.declared.builder.value_parser.ValueParser.TheVariants.{Unsigned}
use Rattle.args.specs.declared.arguments.CommandRow.{CommandRow}
use Rattle.args.specs.declared.options.OptionRow.{OptionRow}
use Rattle.args.specs.declared.options.Value.{Value}
use Rattle.args.specs.declared.options.Value.TheVariants as value

-- what follows an option: nothing, a text, a text each time that the option is given, or a number of at most this
pub data Follows : Type 0 where
  nothing : Follows
  text : Follows
  texts_each : Follows
  number : ℕ → Follows

-- an option `--name`
pub record Opt : Type 0 where
  pub name : Text
  pub follows : Follows
  pub is_required : Bool

-- a command, with its options; one with forms has options that replace one another
pub record Line : Type 0 where
  pub name : Text
  pub options : List Opt
  pub has_forms : Bool

abbrev pub needs : Text → Opt
needs name = record { name = name; follows = text; is_required = true }

abbrev pub may : Text → Opt
may name = record { name = name; follows = text; is_required = false }

abbrev pub flag : Text → Opt
flag name = record { name = name; follows = nothing; is_required = false }

abbrev pub up_to : Text → ℕ → Opt
up_to name most = record { name = name; follows = number most; is_required = false }

abbrev pub plain : Text → List Opt → Line
plain name options = record { name = name; options = options; has_forms = false }

abbrev pub formed : Text → List Opt → Line
formed name options = record { name = name; options = options; has_forms = true }

-- the commands that work on one store
abbrev pub store_lines : List Line
store_lines =
    plain (codes "init") (needs (codes "db") ∷ [])
    ∷ formed (codes "team-add")
    (may (codes "db") ∷ may (codes "control") ∷ needs (codes "team") ∷ may (codes "group") ∷ [])
    ∷ formed (codes "group-add") (may (codes "db") ∷ may (codes "control") ∷ needs (codes "group") ∷ [])
    ∷ formed (codes "key-add") (may (codes "db") ∷ may (codes "control") ∷ needs (codes "shelf") ∷ may (codes "key")
    ∷ flag (codes "new") ∷ flag (codes "read-only") ∷ [])
    ∷ formed (codes "key-revoke") (may (codes "db") ∷ may (codes "control") ∷ may (codes "key")
    ∷ may (codes "fingerprint") ∷ may (codes "shelf") ∷ flag (codes "all") ∷ [])
    ∷ formed (codes "key-list") (may (codes "db") ∷ may (codes "control") ∷ [])
    ∷ formed (codes "shelf-list") (may (codes "db") ∷ may (codes "control") ∷ [])
    ∷ plain (codes "publish")
    (needs (codes "db") ∷ needs (codes "key") ∷ needs (codes "module") ∷ needs (codes "version")
    ∷ needs (codes "mod") ∷ needs (codes "zip") ∷ may (codes "time") ∷ [])
    ∷ plain (codes "import") (needs (codes "db") ∷ needs (codes "key") ∷ needs (codes "list") ∷ [])
    ∷ plain (codes "inventory") (needs (codes "db") ∷ needs (codes "key") ∷ [])
    ∷ formed (codes "catalog") (may (codes "db") ∷ may (codes "control") ∷ needs (codes "key") ∷ [])
    ∷ plain (codes "requires")
    (needs (codes "db") ∷ needs (codes "key") ∷ needs (codes "module") ∷ needs (codes "version") ∷ [])
    ∷ []

-- the other commands
abbrev pub other_lines : List Line
other_lines =
    plain (codes "extract") (needs (codes "db")
    ∷ record { name = codes "team"; follows = texts_each; is_required = true } ∷ needs (codes "to") ∷ [])
    ∷ plain (codes "migrate") (needs (codes "from") ∷ needs (codes "to") ∷ [])
    ∷ formed (codes "answer") (may (codes "db") ∷ flag (codes "mem") ∷ may (codes "team") ∷ may (codes "key") ∷ [])
    ∷ formed (codes "serve") (needs (codes "db") ∷ up_to (codes "port") 65535 ∷ flag (codes "stdin")
    ∷ up_to (codes "connections") 4294967295 ∷ may (codes "control") ∷ [])
    ∷ plain (codes "copy") (needs (codes "control") ∷ needs (codes "to") ∷ [])
    ∷ plain (codes "ping") (needs (codes "control") ∷ [])
    ∷ plain (codes "stop") (needs (codes "control") ∷ [])
    ∷ []

-- ---- the rows of the code as these lines

abbrev pub follows_of : Value → Follows
follows_of value.Flag = nothing
follows_of (value.Text name) = text
follows_of (value.Texts name) = texts_each
follows_of (value.Number name most) = number most

abbrev pub option_of : OptionRow → Opt
option_of row = record { name = row.name.now; follows = follows_of row.value; is_required = row.is_required }

abbrev pub table_line : CommandRow → Line
table_line row = record { name = row.name.now; options = map option_of row.options.now; has_forms = is_some row.forms }

-- ---- the lines in the words of clap

abbrev pub rule_that_follows : Follows → Rule → Rule
rule_that_follows nothing rule = record rule { action = Some SetTrue }
rule_that_follows text rule = record rule { value_names = 1 }
rule_that_follows texts_each rule = record rule { value_names = 1; action = Some Append }
rule_that_follows (number most) rule = record rule { value_names = 1; parser = Some (Unsigned 0 most) }

abbrev pub rule_of_option : Opt → Rule
rule_of_option option = rule_that_follows option.follows
    (record (new_rule option.name) { long = Some option.name; required = option.is_required })

abbrev pub bare_command : Line → App
bare_command line =
    let made = new_app line.name in
    record made { top = record made.top { arg_required_else_help = line.has_forms } }

abbrev pub shape_of_line : Line → Shape
shape_of_line line = (fold with_rule (bare_command line) (map rule_of_option line.options)).top

abbrev pub with_lines : App → List Line → App
with_lines app lines = fold with_subcommand app (map shape_of_line lines)

abbrev pub named_program : App
named_program =
    let made = new_app (codes "goshelf") in
    record made { top = record made.top { has_version = true } }

abbrev pub bare_program : App
bare_program = record named_program {
  top = record named_program.top { no_binary_name = true; subcommand_required = true };
}

-- the parser of all commands
abbrev pub program : App
program = with_lines (with_lines bare_program store_lines) other_lines

-- ---- what the words give

abbrev pub texts : {Z : Type 0} → List (String Z) → List Text
texts words = map string_bytes words

-- the name of the command that the words name, with what they give of each of its options
abbrev pub given : List Text → Option (Text × List Row)
given words = subcommand_of program words

-- for what the parser refuses the words; nothing, if it takes them
abbrev pub faults : List Text → Kinds
faults words = fault_of program words
