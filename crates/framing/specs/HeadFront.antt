-- Where in a head some bytes end.
use Rattle.std.specs.Prelude.{◌≡◌, ℕ, ◌≤◌, List, [], ◌∷◌, ◌++◌, length, take, Option, ⊤}
use Rattle.std.specs.Option.{ForSome}
use Rattle.httparse.specs.Ascii.{line_feed, carriage_return, colon}
use Rattle.httparse.specs.Grammar.{is_value_byte, AllPass, LineEnd, IsToken, Field, EndsInTarget, HasNoRequest}
use Rattle.httparse.specs.Grammar.{print_blank}
use Rattle.httparse.specs.Pieces.{Then, RequestStart, FieldLines}
use Rattle.framing.specs.declared.head_front.HeadState.{HeadState}
use Rattle.framing.specs.declared.head_front.HeadState.TheVariants as state
use Rattle.framing.specs.declared.head_front.Scan.{Scan}

-- the bytes are empty lines, a request line, some headers, and then rest
abbrev pub HasLines : List ℕ → List ℕ → Type 0
HasLines bytes rest =
    (lines : (List LineEnd × (List ℕ × (List ℕ × (ℕ × LineEnd)))) × List Field)
    × Then RequestStart FieldLines lines bytes rest

-- the bytes end there in a head
abbrev pub EndsIn : HeadState → List ℕ → Type 0
EndsIn state.Blank bytes = (ends : List LineEnd) × (bytes ≡ print_blank ends)
EndsIn state.BlankReturn bytes = (ends : List LineEnd) × (bytes ≡ print_blank ends ++ carriage_return ∷ [])
EndsIn state.Method bytes = (ends : List LineEnd) × (method : List ℕ) × IsToken method
    × (bytes ≡ print_blank ends ++ method)
EndsIn state.Target bytes = EndsInTarget bytes
EndsIn state.Line bytes = HasLines bytes []
EndsIn state.HeaderName bytes = (name : List ℕ) × IsToken name × HasLines bytes name
EndsIn state.HeaderValue bytes = (name raw : List ℕ) × IsToken name × AllPass is_value_byte raw
    × HasLines bytes (name ++ colon ∷ raw)
EndsIn state.Return bytes =
    (name raw : List ℕ) × IsToken name × AllPass is_value_byte raw
    × HasLines bytes (name ++ colon ∷ raw ++ carriage_return ∷ [])

-- the bytes end there in a head, and no whole head begins them
abbrev pub Stands : HeadState → List ℕ → Type 0
Stands state bytes = EndsIn state bytes × HasNoRequest bytes

-- it is a scan of the first bytes: they end there in a head, and no whole head begins them
pub record IsScanOf (bytes : List ℕ) (scan : Scan) : Type 0 where
  pub fits : scan.len ≤ length bytes
  pub stands : Stands scan.state (take scan.len bytes)

-- if there is a scan, it is one of the first bytes
pub record HoldsScan (bytes : List ℕ) (scan : Option Scan) : Type 0 where
  pub scanned : ForSome scan (IsScanOf bytes)

-- there are no bytes, or the last is a line feed
abbrev pub EndsLine : List ℕ → Type 0
EndsLine [] = ⊤
EndsLine (b ∷ []) = b ≡ line_feed
EndsLine (b ∷ c ∷ bytes) = EndsLine (c ∷ bytes)
