-- Good heads: at most one begins some bytes, and when none can.
use Rattle.std.proofs.Common.{◌≡◌, ◌≢◌, ℕ, ◌<◌, ◌≤◌, List, [], ◌∷◌, ◌++◌, length, take, drop, refl, sym, ap, ◌∙◌, subst}
use Rattle.std.proofs.Common.{arith, codes, length-take}
use Rattle.std.proofs.lemmas.List.{length-map, take_at, take-append-le, take-append-drop}
use Rattle.httparse.specs.Grammar.{RequestHead, ReadsRequest, HasNoRequest, print_request}
use Rattle.httparse.specs.Spans.{IsRequestAt, RequestOverflows}
use Rattle.httparse.specs.declared.spans.HeaderSpan.{HeaderSpan}
use Rattle.httparse.specs.declared.spans.RequestSpans.{RequestSpans}
use Rattle.httparse.proofs.GrammarLemmas.{request_unique, ReadsRequest-append}
use Rattle.framing.specs.Message.{values_of, header_values, head_limit, header_limit, Announces, IsGoodHead, BeginsWith}
use Rattle.framing.specs.Never.{NeverBegins}
use Rattle.framing.specs.Values.{values_at}

-- the values announce one length at most
pub Announces_unique : (values : List (List ℕ)) (m n : ℕ) → Announces values m → Announces values n → m ≡ n
Announces_unique [] m n a b = a ∙ sym b
Announces_unique (text ∷ []) m n a b = cc (a, b)
Announces_unique (text ∷ other ∷ more) m n a b = absurd a

-- some bytes begin with one good head at most
pub head_unique : (bytes : List ℕ) (h k : RequestHead) (m n : ℕ) (r q : List ℕ)
    → BeginsWith bytes h m r → BeginsWith bytes k n q → (h ≡ k) × (m ≡ n) × (r ≡ q)
head_unique bytes h k m n r q x y =
    let same = request_unique bytes h k r q x.reads y.reads in
    let again = subst (λ head. Announces (header_values (codes "content-length") head) m) same.0 x.good.announces in
    (same.0, Announces_unique (header_values (codes "content-length") k) m n again y.good.announces, same.1)

-- and still begin with it when more bytes come
pub BeginsWith-append : (bytes : List ℕ) (h : RequestHead) (n : ℕ) (rest more : List ℕ)
    → BeginsWith bytes h n rest → BeginsWith (bytes ++ more) h n (rest ++ more)
BeginsWith-append bytes h n rest more x =
    record { reads = ReadsRequest-append bytes h rest more x.reads; good = x.good }

-- a whole head that is not good stays so
pub never_from_head : (bytes : List ℕ) (h : RequestHead) (rest : List ℕ) → ReadsRequest bytes h rest
    → ((n : ℕ) → ¬ (IsGoodHead h n)) → NeverBegins bytes
never_from_head bytes h rest reads not_good more k n q x =
    let same = request_unique (bytes ++ more) h k (rest ++ more) q (ReadsRequest-append bytes h rest more reads)
    x.reads in
    not_good n (subst (λ head. IsGoodHead head n) (sym same.0) x.good)

-- no head has room
pub never_from_room : (bytes : List ℕ) (room : ℕ) → room ≡ header_limit → RequestOverflows room bytes
    → NeverBegins bytes
never_from_room bytes room is over more k n q x =
    let many = over more k q x.reads in
    let few = x.good.few in
    absurd (omega arith)

-- a front that is no shorter than a text that begins the whole begins with that text
pub front_begins : (bytes more text rest : List ℕ) → bytes ++ more ≡ text ++ rest → length text ≤ length bytes
    → bytes ≡ text ++ drop (length text) bytes
front_begins bytes more text rest e fits =
    let first = sym (take-append-le (length text) bytes more fits) ∙ ap (take (length text)) e
    ∙ take_at text rest (length text) refl in
    sym (take-append-drop (length text) bytes) ∙ ap (λ front. front ++ drop (length text) bytes) first

-- no head is whole in the bytes that a head may have
pub never_from_length : (bytes : List ℕ) → HasNoRequest bytes → head_limit ≤ length bytes → NeverBegins bytes
never_from_length bytes none long more k n q x =
    let short = x.good.short in
    let fits : length (print_request k) ≤ length bytes = omega arith in
    none k (drop (length (print_request k)) bytes)
    (x.reads.0, front_begins bytes more (print_request k) q x.reads.1 fits)

module _ (bytes : List ℕ) (headers : List HeaderSpan) (spans : RequestSpans) (h : RequestHead)
    (at : IsRequestAt bytes headers spans h) where
  -- the values where the spans say are the head's
  pub values_at_head : (name : List ℕ) → values_at name bytes (take spans.headers headers) ≡ header_values name h
  values_at_head name = ap (values_of name) at.fields

  pub never_from_long : head_limit < spans.len → NeverBegins bytes
  never_from_long long = never_from_head bytes h _ at.reads
      (λ n good. let len = at.len in let short = good.short in absurd (omega arith))

  pub never_from_encoded : values_at (codes "transfer-encoding") bytes (take spans.headers headers) ≢ []
      → NeverBegins bytes
  never_from_encoded some =
      never_from_head bytes h _ at.reads (λ n good. some (values_at_head (codes "transfer-encoding") ∙ good.unencoded))

  pub never_from_unannounced : ((n : ℕ)
      → ¬ (Announces (values_at (codes "content-length") bytes (take spans.headers headers)) n)) → NeverBegins bytes
  never_from_unannounced none =
      never_from_head bytes h _ at.reads
      (λ n good. none n (subst (λ values. Announces values n) (sym (values_at_head (codes "content-length")))
      good.announces))

  -- a whole head of at most `head_limit` bytes without a transfer encoding that announces n is a good head
  pub good_head : (n : ℕ) → length headers ≡ header_limit → spans.len ≤ head_limit
      → values_at (codes "transfer-encoding") bytes (take spans.headers headers) ≡ []
      → Announces (values_at (codes "content-length") bytes (take spans.headers headers)) n
      → IsGoodHead h n
  good_head n room short plain announces =
      let count = sym (length-map (take spans.headers headers) _) ∙ ap length at.fields ∙ length-map h.fields _ in
      let len = at.len in
      record {
        short = omega arith;
        few = omega (arith, count, length-take spans.headers headers);
        unencoded = sym (values_at_head (codes "transfer-encoding")) ∙ plain;
        announces = subst (λ values. Announces values n) (values_at_head (codes "content-length")) announces;
      }
