-- Which words ask for help, or for the version.
use Rattle.std.specs.Prelude.{◌≡◌, ◌⊎◌, List, [], ◌∷◌, codes}
use Rattle.clap.specs.Words.{Text}
use Rattle.clap.specs.declared.error.kind.ErrorKind.TheVariants.{DisplayHelp, DisplayVersion}
use Rattle.args.specs.Table.{Line, faults}

abbrev pub IsHelp : Text → Type 0
IsHelp word = (word ≡ codes "--help") ⊎ (word ≡ codes "-h")

abbrev pub IsVersion : Text → Type 0
IsVersion word = (word ≡ codes "--version") ⊎ (word ≡ codes "-V")

-- the parser shows help for these words, and cannot take them or refuse them for another reason
abbrev pub ShowHelp : List Text → Type 0
ShowHelp words = faults words ≡ DisplayHelp ∷ []

-- the parser shows the version for these words, and cannot take them or refuse them for another reason
abbrev pub ShowVersion : List Text → Type 0
ShowVersion words = faults words ≡ DisplayVersion ∷ []

-- `--help` or `-h` comes first, and any words follow
abbrev pub HelpComesFirst : Type 0
HelpComesFirst = (word : Text) (rest : List Text) → IsHelp word → ShowHelp (word ∷ rest)

-- `--version` or `-V` comes first, and any words follow
abbrev pub VersionComesFirst : Type 0
VersionComesFirst = (word : Text) (rest : List Text) → IsVersion word → ShowVersion (word ∷ rest)

-- `--help` or `-h` comes after the name of this command, and any words follow
abbrev pub HelpFollows : Text → Type 0
HelpFollows name = (word : Text) (rest : List Text) → IsHelp word → ShowHelp (name ∷ word ∷ rest)

-- so it is for each of these commands
abbrev pub HelpFollowsEach : List Line → Type 0
HelpFollowsEach [] = Unit {0}
HelpFollowsEach (line ∷ lines) = HelpFollows line.name × HelpFollowsEach lines
