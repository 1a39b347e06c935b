-- What is found at the front of the bytes, by spans.
use Rattle.std.specs.Prelude.{◌≡◌, ℕ, ◌≤◌, List, [], ◌∷◌, length, map}
use Rattle.httparse.specs.Grammar.{RequestHead}
use Rattle.httparse.specs.Spans.{IsWithin, span_bytes, IsRequestWithin, IsRequestAt, header_bytes}
use Rattle.httparse.specs.declared.spans.HeaderSpan.{HeaderSpan}
use Rattle.framing.specs.Message.{body_limit, IsGoodHead, values_of}
use Rattle.framing.specs.Framing.{IsBad, MayBeginHead}
use Rattle.framing.specs.declared.head.Occurs.{Occurs}
use Rattle.framing.specs.declared.head.Occurs.TheVariants.{Never, Once, Several}
use Rattle.framing.specs.declared.head.Head.{Head}
use Rattle.framing.specs.declared.head.Front.{Front}
use Rattle.framing.specs.declared.head.Front.TheVariants as front

-- how often a header occurs, and where the value of one that occurs once is
abbrev pub Counts : List ℕ → Occurs → List (List ℕ) → Type 0
Counts bytes Never values = values ≡ []
Counts bytes (Once span) values = IsWithin (length bytes) span × (values ≡ span_bytes bytes span ∷ [])
Counts bytes Several values = (a b : List ℕ) × (more : List (List ℕ)) × (values ≡ a ∷ b ∷ more)

-- the values of the headers of that name, where the spans say
abbrev pub values_at : List ℕ → List ℕ → List HeaderSpan → List (List ℕ)
values_at name bytes headers = values_of name (map (header_bytes bytes) headers)

-- the spans are those of a good head at the front of the bytes
pub record IsHeadAt (bytes : List ℕ) (headers : List HeaderSpan) (found : Head) : Type 0 where
  pub head : RequestHead
  pub within : IsRequestWithin bytes headers found.spans
  pub at : IsRequestAt bytes headers found.spans head
  pub good : IsGoodHead head found.body
  pub small : found.body ≤ body_limit

-- what the bytes begin with
abbrev pub IsFront : List ℕ → List HeaderSpan → Front → Type 0
IsFront bytes headers (front.Begun found) = IsHeadAt bytes headers found
IsFront bytes headers front.Unfinished = MayBeginHead bytes
IsFront bytes headers (front.Failed failure) = IsBad bytes failure
