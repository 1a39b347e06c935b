-- Messages of an HTTP/1.1 byte stream: a head in the grammar of `httparse`, then a body of the length that it
-- announces.
use Rattle.std.specs.Prelude.{◌≡◌, ◌≢◌, ℕ, ◌≤◌, ◌<◌, List, [], ◌∷◌, ◌++◌, length, map, if◌then◌else◌, codes, Some}
use Rattle.std.specs.Str.{str_eq_ignore_ascii_case}
use Rattle.httparse.specs.Grammar.{RequestHead, ReadsRequest, print_request}
use Rattle.httparse.specs.Spans.{name_and_value}
use Rattle.framing.specs.Length.{length_value}

-- the values of the headers of that name, in any case, in their order
abbrev pub values_of : List ℕ → List (List ℕ × List ℕ) → List (List ℕ)
values_of name [] = []
values_of name (header ∷ headers) =
    if str_eq_ignore_ascii_case header.0 name then header.1 ∷ values_of name headers else values_of name headers

-- the values of the headers of that name in a head
abbrev pub header_values : List ℕ → RequestHead → List (List ℕ)
header_values name head = values_of name (map name_and_value head.fields)

-- the most bytes of a head
abbrev pub head_limit : ℕ
head_limit = 16384

-- the most headers of a head
abbrev pub header_limit : ℕ
header_limit = 64

-- the most bytes of a body
abbrev pub body_limit : ℕ
body_limit = 17825792

-- the length that the values of `Content-Length` announce: that of the only value, or 0 without a value
abbrev pub Announces : List (List ℕ) → ℕ → Type 0
Announces [] n = n ≡ 0
Announces (text ∷ []) n = length_value text ≡ Some n
Announces (text ∷ other ∷ more) n = ⊥

-- a good head, which announces a body of n bytes
pub record IsGoodHead (head : RequestHead) (n : ℕ) : Type 0 where
  pub short : length (print_request head) ≤ head_limit
  pub few : length head.fields ≤ header_limit
  pub unencoded : header_values (codes "transfer-encoding") head ≡ []
  pub announces : Announces (header_values (codes "content-length") head) n

-- the bytes begin with this good head, and rest follows it
pub record BeginsWith (bytes : List ℕ) (head : RequestHead) (n : ℕ) (rest : List ℕ) : Type 0 where
  pub reads : ReadsRequest bytes head rest
  pub good : IsGoodHead head n

-- what the server reads of a message
pub record MessageView : Type 0 where
  pub method : List ℕ
  pub target : List ℕ
  pub body : List ℕ
  pub mod_lengths : List (List ℕ)
  pub version_times : List (List ℕ)

abbrev pub message_view : RequestHead → List ℕ → MessageView
message_view head body = record {
  method = head.method;
  target = head.target;
  body = body;
  mod_lengths = header_values (codes "mod-length") head;
  version_times = header_values (codes "version-time") head;
}

-- the bytes are a message and then rest
abbrev pub ReadsMessage : List ℕ → MessageView → List ℕ → Type 0
ReadsMessage bytes message rest =
    (head : RequestHead) × (n : ℕ) × BeginsWith bytes head n (message.body ++ rest)
    × (n ≤ body_limit) × (length message.body ≡ n) × (message ≡ message_view head message.body)

-- the bytes begin with a good head whose body would be too large
abbrev pub IsTooLarge : List ℕ → Type 0
IsTooLarge bytes = (head : RequestHead) × (n : ℕ) × (rest : List ℕ) × BeginsWith bytes head n rest × (body_limit < n)

-- how a stream ends after its messages: with nothing, with a good head whose body would be too large, or with any other
-- rest
pub data End : Type 0 where
  clean too_large bad : End

abbrev pub Ends : List ℕ → End → Type 0
Ends rest clean = rest ≡ []
Ends rest too_large = IsTooLarge rest
Ends rest bad =
    (rest ≢ []) × ((message : MessageView) (more : List ℕ) → ¬ (ReadsMessage rest message more)) × (¬ (IsTooLarge rest))

-- the bytes are these messages and then rest
abbrev pub ReadsMessages : List ℕ → List MessageView → List ℕ → Type 0
ReadsMessages bytes [] rest = bytes ≡ rest
ReadsMessages bytes (message ∷ messages) rest =
    (after : List ℕ) × ReadsMessage bytes message after × ReadsMessages after messages rest

-- the bytes are these messages, as many as there are, and then this end
abbrev pub IsStream : List ℕ → List MessageView → End → Type 0
IsStream bytes messages end = (rest : List ℕ) × ReadsMessages bytes messages rest × Ends rest end
