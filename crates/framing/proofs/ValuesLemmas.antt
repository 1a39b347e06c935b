-- The values of a header, one header at a time.
use Rattle.std.proofs.Common.{◌≡◌, ℕ, ◌+◌, ◌<◌, Bool, true, false, cond, List, [], ◌∷◌, ◌++◌, length, map, take, get_or}
use Rattle.std.proofs.Common.{refl, ap, sym, ◌≢◌, ◌∙◌, append-nil}
use Rattle.std.specs.Str.{str_eq_ignore_ascii_case}
use Rattle.std.proofs.lemmas.List.{take_more, map-append}
use Rattle.httparse.specs.Spans.{header_bytes, span_bytes}
use Rattle.httparse.specs.declared.spans.HeaderSpan.{HeaderSpan}
use Rattle.framing.specs.Message.{values_of}
use Rattle.framing.specs.Values.{values_at, Counts}
use Rattle.framing.specs.declared.head.Occurs.{Occurs}
use Rattle.framing.specs.declared.head.Occurs.TheVariants.{Never, Once, Several}

-- a header's own value, where it has the name
abbrev pub value_of : List ℕ → List ℕ × List ℕ → List (List ℕ)
value_of name header = cond (str_eq_ignore_ascii_case header.0 name) (header.1 ∷ []) []

-- one more header at the end adds its value at the end, if it has the name
pub values_of-push : (name : List ℕ) (xs : List (List ℕ × List ℕ)) (y : List ℕ × List ℕ)
    → values_of name (xs ++ y ∷ []) ≡ values_of name xs ++ value_of name y
values_of-push name [] y = by (str_eq_ignore_ascii_case y.0 name)
  where
    by : (b : Bool) → cond b (y.1 ∷ []) [] ≡ cond b (y.1 ∷ []) []
    by b = refl
values_of-push name (x ∷ xs) y = by (str_eq_ignore_ascii_case x.0 name) (values_of-push name xs y)
  where
    by : (b : Bool) → values_of name (xs ++ y ∷ []) ≡ values_of name xs ++ value_of name y
        → cond b (x.1 ∷ values_of name (xs ++ y ∷ [])) (values_of name (xs ++ y ∷ []))
        ≡ cond b (x.1 ∷ values_of name xs) (values_of name xs) ++ value_of name y
    by true e = ap (λ vs. x.1 ∷ vs) e
    by false e = e

pub values_at_more : (name bytes : List ℕ) (headers : List HeaderSpan) (i : ℕ) (d : HeaderSpan) → i < length headers
    → values_at name bytes (take (i + 1) headers) ≡ values_at name bytes (take i headers)
    ++ value_of name (header_bytes bytes (get_or headers i d))
values_at_more name bytes headers i d h =
    rw (take_more headers i d h, map-append (header_bytes bytes) (take i headers) (get_or headers i d ∷ []))
    (values_of-push name (map (header_bytes bytes) (take i headers)) (header_bytes bytes (get_or headers i d)))

pub values_at_hit : (name bytes : List ℕ) (headers : List HeaderSpan) (i : ℕ) (d : HeaderSpan) → i < length headers
    → true ≡ str_eq_ignore_ascii_case (header_bytes bytes (get_or headers i d)).0 name
    → values_at name bytes (take (i + 1) headers) ≡ values_at name bytes (take i headers)
    ++ (header_bytes bytes (get_or headers i d)).1 ∷ []
values_at_hit name bytes headers i d h e =
    values_at_more name bytes headers i d h
    ∙ ap (λ b. values_at name bytes (take i headers) ++ cond b ((header_bytes bytes (get_or headers i d)).1 ∷ []) [])
    (sym e)

pub values_at_miss : (name bytes : List ℕ) (headers : List HeaderSpan) (i : ℕ) (d : HeaderSpan) → i < length headers
    → false ≡ str_eq_ignore_ascii_case (header_bytes bytes (get_or headers i d)).0 name
    → values_at name bytes (take (i + 1) headers) ≡ values_at name bytes (take i headers)
values_at_miss name bytes headers i d h e =
    values_at_more name bytes headers i d h
    ∙ ap (λ b. values_at name bytes (take i headers) ++ cond b ((header_bytes bytes (get_or headers i d)).1 ∷ []) [])
    (sym e)
    ∙ append-nil (values_at name bytes (take i headers))

-- a value more, after one or several
pub Counts_more : (bytes : List ℕ) (found : Occurs) (values : List (List ℕ)) (value : List ℕ) → (found ≢ Never)
    → Counts bytes found values → Counts bytes Several (values ++ value ∷ [])
Counts_more bytes Never values value some counts = absurd (some refl)
Counts_more bytes (Once span) values value some counts = (span_bytes bytes span, value, [], rw counts.1 refl)
Counts_more bytes Several values value some (a, b, more, e) = (a, b, more ++ value ∷ [], rw e refl)
