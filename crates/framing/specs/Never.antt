-- Bytes that no message can begin with.
use Rattle.std.specs.Prelude.{ℕ, List, ◌++◌}
use Rattle.httparse.specs.Grammar.{RequestHead}
use Rattle.framing.specs.Message.{BeginsWith}

-- however the bytes go on, they begin with no good head
abbrev pub NeverBegins : List ℕ → Type 0
NeverBegins bytes =
    (more : List ℕ) (head : RequestHead) (n : ℕ) (rest : List ℕ) → ¬ (BeginsWith (bytes ++ more) head n rest)
