-- Why a text is shown in place of a run, and which command is run.
use Rattle.std.proofs.Common.{◌≡◌, ◌⊎◌, List, Option, None, Ok, Err, inl, inr, subst, sym}
use Rattle.std.specs.Prelude.{IfOk, Result}
use Rattle.clap.specs.Kinds.{FailsBy, IsAmong}
use Rattle.clap.specs.Words.{Text, kind_of, subcommand_rows_of}
use Rattle.clap.specs.declared.error.Error.{Error}
use Rattle.clap.specs.declared.error.kind.ErrorKind.{ErrorKind}
use Rattle.clap.specs.declared.error.kind.ErrorKind.TheVariants.{ArgumentConflict, OutOfMemory}
use Rattle.clap.specs.declared.parser.matches.ArgMatches.{ArgMatches}
use Rattle.runner.specs.declared.Command.{Command}
use Rattle.args.specs.Table.{faults, given}
use Rattle.cli.specs.Asks.{Asks, Finds, FitNoForm, GivenAsks, IsShownFor}

kind_shown : (words : List Text) (k : ErrorKind) → (k ≡ OutOfMemory) ⊎ IsAmong k (faults words) → IsShownFor words k
kind_shown words OutOfMemory why = tt
kind_shown words ArgumentConflict (inl none) = cc
kind_shown words ArgumentConflict (inr among) = inl among
kind_shown words other (inl none) = cc
kind_shown words other (inr among) = among

-- the parser's text
pub error_shown : (words : List Text) (result : Result ArgMatches Error) (error : Error) → result ≡ Err error
    → FailsBy (faults words) result → IsShownFor words (kind_of error)
error_shown words result error is fails = kind_shown words (kind_of error) (rw is at fails)

-- the text on the forms
pub none_shown : (words : List Text) (k : ErrorKind) → (k ≡ ArgumentConflict) ⊎ (k ≡ OutOfMemory) → FitNoForm words
    → IsShownFor words k
none_shown words k (inl is) none = rw is (inr none)
none_shown words k (inr is) none = rw is tt

-- what the matches ask for, the words ask for
pub asked_for : (words : List Text) (result : Result ArgMatches Error) (matches : ArgMatches) (asked : Command)
    → result ≡ Ok matches
    → FailsBy (faults words) result → IfOk result (λ m. subcommand_rows_of m ≡ given words)
    → GivenAsks (subcommand_rows_of matches) asked → Asks words asked
asked_for words result matches asked is fails reads asks =
    let same : subcommand_rows_of matches ≡ given words = rw is at reads in
    (rw is at fails, subst (λ g. GivenAsks g asked) same asks)

-- and nothing else
pub none_asked : (words : List Text) (result : Result ArgMatches Error) (matches : ArgMatches) (found : Option Command)
    → result ≡ Ok matches
    → found ≡ None → FailsBy (faults words) result → IfOk result (λ m. subcommand_rows_of m ≡ given words)
    → Finds found (GivenAsks (subcommand_rows_of matches)) → FitNoForm words
none_asked words result matches found is not fails reads finds =
    let same : subcommand_rows_of matches ≡ given words = rw is at reads in
    let none : (asked : Command) → GivenAsks (subcommand_rows_of matches) asked → ⊥ = rw not at finds in
    (rw is at fails, λ asked asks. none asked (subst (λ g. GivenAsks g asked) (sym same) asks))
