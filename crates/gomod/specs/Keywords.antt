-- The keywords of a go.mod file, and the profiles, which say which of them are read.
use Rattle.std.specs.Prelude.{ℕ, Bool, true, false, List, [], ◌∷◌, ◌++◌, codes, Option, Some, None, if◌then◌else◌}
use Rattle.std.specs.Str.{bytes_eq}
use Rattle.modlex.specs.declared.lexer.TokenKind.{TokenKind}
use Rattle.modlex.specs.declared.lexer.TokenKind.TheVariants as kinds
use Rattle.gomod.specs.declared.keyword.Keyword.{Keyword}
use Rattle.gomod.specs.declared.keyword.Keyword.TheVariants.{Module, Go, Toolchain, Require, Exclude}
use Rattle.gomod.specs.declared.keyword.Keyword.TheVariants.{Replace, Retract, Tool, Godebug, Ignore}

-- how a keyword is spelled
abbrev pub spelling : Keyword → List ℕ
spelling Module = codes "module"
spelling Go = codes "go"
spelling Toolchain = codes "toolchain"
spelling Require = codes "require"
spelling Exclude = codes "exclude"
spelling Replace = codes "replace"
spelling Retract = codes "retract"
spelling Tool = codes "tool"
spelling Godebug = codes "godebug"
spelling Ignore = codes "ignore"

-- the keywords that a profile has
abbrev pub Keywords : Type 0
Keywords = List Keyword

-- the keyword of this name, if the profile has one
unfoldable pub keyword_named : Keywords → List ℕ → Option Keyword
keyword_named [] name = None
keyword_named (k ∷ ks) name = if bytes_eq name (spelling k) then Some k else keyword_named ks name

-- the first profile
abbrev pub profile_1 : Keywords
profile_1 = Module ∷ Go ∷ Require ∷ Exclude ∷ Replace ∷ Retract ∷ []

-- the second profile: the first, and four more keywords
abbrev pub profile_2 : Keywords
profile_2 = profile_1 ++ Toolchain ∷ Tool ∷ Godebug ∷ Ignore ∷ []

-- the profile in force: the keywords that files are read by
abbrev pub profile_in_force : Keywords
profile_in_force = profile_2

abbrev pub is_module : Keyword → Bool
is_module Module = true
is_module _ = false

-- whether a directive may be a block
abbrev pub has_block : Keyword → Bool
has_block Go = false
has_block Toolchain = false
has_block _ = true

-- whether an entry of the keyword is one word, which may be any word
abbrev pub takes_any_word : Keyword → Bool
takes_any_word Toolchain = true
takes_any_word Tool = true
takes_any_word Godebug = true
takes_any_word Ignore = true
takes_any_word _ = false

-- whether a token opens a block, and whether it closes one
abbrev pub opens_block_kind : TokenKind → Bool
opens_block_kind kinds.ParenLeft = true
opens_block_kind _ = false

abbrev pub closes_block_kind : TokenKind → Bool
closes_block_kind kinds.ParenRight = true
closes_block_kind _ = false
