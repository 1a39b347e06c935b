-- The texts of words behind others.
use Rattle.std.proofs.Common.{ℕ, List, [], ◌∷◌, arith}
use Rattle.std.proofs.lemmas.Str.{IsUtf8-append, IsUtf8-from_ascii}
use Rattle.std.proofs.lemmas.Str.Ascii.{IsAscii-cons, IsAscii-nil}
use Rattle.std.specs.Str.{IsUtf8}
use Rattle.orders.specs.Words.{behind, space}

space_text : IsUtf8 (space ∷ [])
space_text = IsUtf8-from_ascii (space ∷ []) (IsAscii-cons space [] (omega arith) IsAscii-nil)

pub behind_text : (word : List ℕ) → IsUtf8 word → IsUtf8 (behind word)
behind_text word is = IsUtf8-append (space ∷ []) word space_text is
