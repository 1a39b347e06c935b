-- Where in a head bytes end, with one byte more, and that a head may begin so.
use Rattle.std.proofs.Common.{◌≡◌, ◌≢◌, ℕ, ◌<◌, ◌≤◌, ◌||◌, ◌==◌, Bool, true, false, inl, inr, List, [], ◌∷◌, ◌++◌}
use Rattle.std.proofs.Common.{length, drop, take}
use Rattle.std.proofs.Common.{refl, sym, ap, ◌∙◌, subst, arith, append_assoc, append-nil, length-append, codes, Option}
use Rattle.std.proofs.lemmas.Grind.{flat_map-append}
use Rattle.std.proofs.lemmas.List.{length_push, take_all, take-append-drop, take-append-le}
use Rattle.std.proofs.lemmas.List.Elements.{All-nil, All-push}
use Rattle.std.specs.Char.{is_ascii_alphanumeric}
use Rattle.std.specs.List.{list_any}
use Rattle.httparse.specs.Grammar.{RequestHead, HasNoRequest, MayBecomeRequest, LineEnd, crlf, lf, Field, AllPass}
use Rattle.httparse.specs.Grammar.{IsToken, is_token_byte}
use Rattle.httparse.specs.Grammar.{is_uri_byte, is_value_byte, print_request, print_blank, print_end, print_version}
use Rattle.httparse.specs.Grammar.{print_section}
use Rattle.httparse.specs.Pieces.{Completes, Stops, is_newline, FieldLine}
use Rattle.httparse.proofs.GrammarLemmas.{print_request-append, cons-append}
use Rattle.httparse.proofs.PieceLemmas.{RequestStart_deterministic, FieldLines-append, Stops_token, print_end_unique}
use Rattle.httparse.proofs.PieceLemmas.{newline_not_stopped}
use Rattle.httparse.proofs.OpenLemmas.{BlankLines_after, Newline_after_cr, some_newline, some_section, some_text}
use Rattle.httparse.proofs.OpenLemmas.{Word_cut, letter_is_token, line_blank, line_method}
use Rattle.httparse.proofs.OpenLemmas.{request_may, request_may_from_line, Completes_first, Completes_next}
use Rattle.httparse.proofs.OpenLemmas.{Section_after_lines, Section_of_line, FieldLine_of_row}
use Rattle.framing.specs.Framing.{MayBeginHead}
use Rattle.framing.specs.Message.{head_limit}
use Rattle.framing.specs.HeadFront.{HasLines, EndsIn, Stands, IsScanOf, HoldsScan, EndsLine}
use Rattle.framing.specs.declared.head_front.Scan.{Scan}
use Rattle.framing.specs.declared.head_front.HeadState.{HeadState}
use Rattle.framing.specs.declared.head_front.HeadState.TheVariants as state
use Rattle.framing.proofs.HeadLemmas.{front_begins}
use Rattle.framing.proofs.StreamLemmas.{same_front}

-- ---- one byte more

-- the lines stay what they are
lines_more : (bytes rest more : List ℕ) → HasLines bytes rest → HasLines (bytes ++ more) (rest ++ more)
lines_more bytes rest more ((s, fs), (middle, start, lines)) = (
  (s, fs),
  (
    middle ++ more,
    RequestStart_deterministic.append s bytes middle more start,
    FieldLines-append fs middle rest more lines,
  ),
)

token_more : (word : List ℕ) (b : ℕ) → AllPass is_token_byte word → is_token_byte b ≡ true → IsToken (word ++ b ∷ [])
token_more word b all token =
    (omega (arith, length_push word b), All-push (λ v. is_token_byte v ≡ true) word b all token)

pub blank_feed : (bytes : List ℕ) → EndsIn state.Blank bytes → EndsIn state.Blank (bytes ++ 10 ∷ [])
blank_feed bytes (ends, e) =
    (ends ++ lf ∷ [], ap (λ (t : List ℕ). t ++ 10 ∷ []) e ∙ sym (flat_map-append print_end ends (lf ∷ [])))

pub blank_return : (bytes : List ℕ) → EndsIn state.Blank bytes → EndsIn state.BlankReturn (bytes ++ 13 ∷ [])
blank_return bytes (ends, e) = (ends, ap (λ (t : List ℕ). t ++ 13 ∷ []) e)

pub return_feed : (bytes : List ℕ) → EndsIn state.BlankReturn bytes → EndsIn state.Blank (bytes ++ 10 ∷ [])
return_feed bytes (ends, e) = (
  ends ++ crlf ∷ [],
  ap (λ (t : List ℕ). t ++ 10 ∷ []) e ∙ append_assoc (print_blank ends) (13 ∷ []) (10 ∷ [])
      ∙ sym (flat_map-append print_end ends (crlf ∷ [])),
)

pub blank_token : (bytes : List ℕ) (b : ℕ) → is_token_byte b ≡ true → EndsIn state.Blank bytes
    → EndsIn state.Method (bytes ++ b ∷ [])
blank_token bytes b token (ends, e) =
    (ends, b ∷ [], token_more [] b (All-nil _) token, ap (λ (t : List ℕ). t ++ b ∷ []) e)

pub method_token : (bytes : List ℕ) (b : ℕ) → is_token_byte b ≡ true → EndsIn state.Method bytes
    → EndsIn state.Method (bytes ++ b ∷ [])
method_token bytes b token (ends, m, word, e) = (
  ends,
  m ++ b ∷ [],
  token_more m b word.1 token,
  ap (λ (t : List ℕ). t ++ b ∷ []) e ∙ append_assoc (print_blank ends) m (b ∷ []),
)

pub method_space : (bytes : List ℕ) → EndsIn state.Method bytes → EndsIn state.Target (bytes ++ 32 ∷ [])
method_space bytes (ends, m, word, e) = (ends, m, [], word, All-nil _, ap (λ (t : List ℕ). t ++ 32 ∷ []) e)

-- bytes that end in a target still do after one more byte of a target
pub target_more : (bytes : List ℕ) (b : ℕ) → is_uri_byte b ≡ true → EndsIn state.Target bytes
    → EndsIn state.Target (bytes ++ b ∷ [])
target_more bytes b uri (ends, m, t, word, all, e) = (
  ends,
  m,
  t ++ b ∷ [],
  word,
  All-push (λ v. is_uri_byte v ≡ true) t b all uri,
  ap (λ (t : List ℕ). t ++ b ∷ []) e ∙ regroup (print_blank ends) m t (b ∷ []),
)
  where
    regroup : (x m t y : List ℕ) → (x ++ m ++ 32 ∷ t) ++ y ≡ x ++ m ++ 32 ∷ (t ++ y)
    regroup x m t y = simp (append_assoc, cons-append)

pub line_token : (bytes : List ℕ) (b : ℕ) → is_token_byte b ≡ true → EndsIn state.Line bytes
    → EndsIn state.HeaderName (bytes ++ b ∷ [])
line_token bytes b token lines = (b ∷ [], token_more [] b (All-nil _) token, lines_more bytes [] (b ∷ []) lines)

pub name_token : (bytes : List ℕ) (b : ℕ) → is_token_byte b ≡ true → EndsIn state.HeaderName bytes
    → EndsIn state.HeaderName (bytes ++ b ∷ [])
name_token bytes b token (name, word, lines) =
    (name ++ b ∷ [], token_more name b word.1 token, lines_more bytes name (b ∷ []) lines)

pub name_colon : (bytes : List ℕ) → EndsIn state.HeaderName bytes → EndsIn state.HeaderValue (bytes ++ 58 ∷ [])
name_colon bytes (name, word, lines) = (name, [], word, All-nil _, lines_more bytes name (58 ∷ []) lines)

value_behind : (name raw : List ℕ) (b : ℕ) → (name ++ 58 ∷ raw) ++ b ∷ [] ≡ name ++ 58 ∷ (raw ++ b ∷ [])
value_behind name raw b = append_assoc name (58 ∷ raw) (b ∷ [])

pub value_more : (bytes : List ℕ) (b : ℕ) → is_value_byte b ≡ true → EndsIn state.HeaderValue bytes
    → EndsIn state.HeaderValue (bytes ++ b ∷ [])
value_more bytes b value (name, raw, word, all, lines) = (
  name,
  raw ++ b ∷ [],
  word,
  All-push (λ v. is_value_byte v ≡ true) raw b all value,
  subst (HasLines (bytes ++ b ∷ [])) (value_behind name raw b) (lines_more bytes _ (b ∷ []) lines),
)

pub value_return : (bytes : List ℕ) → EndsIn state.HeaderValue bytes → EndsIn state.Return (bytes ++ 13 ∷ [])
value_return bytes (name, raw, word, all, lines) =
    (name, raw, word, all, lines_more bytes (name ++ 58 ∷ raw) (13 ∷ []) lines)

-- ---- no head is whole

-- a head ends in a line feed
section_feed : (fields : List Field) (last : LineEnd)
    → (front : List ℕ) × (print_section fields last ≡ front ++ 10 ∷ [])
section_feed fields lf = (_, refl)
section_feed fields crlf = (_, sym (append_assoc _ (13 ∷ []) (10 ∷ [])))

-- the text of a head ends in a line feed
head_feed : (h : RequestHead) → (front : List ℕ) × (print_request h ≡ front ++ 10 ∷ [])
unfolding print_request
head_feed h =
    let section = section_feed h.fields h.last in (
      _,
      ap (λ (s : List ℕ). print_blank h.blank ++ h.method ++ 32 ∷ h.target ++ 32 ∷ print_version h.minor
          ++ print_end h.line_end ++ s) section.1
          ∙ regroup (print_blank h.blank) h.method h.target (print_version h.minor) (print_end h.line_end) section.0,
    )
  where
    regroup : (a b c d e x : List ℕ)
        → a ++ b ++ 32 ∷ c ++ 32 ∷ d ++ e ++ (x ++ 10 ∷ []) ≡ (a ++ b ++ 32 ∷ c ++ 32 ∷ d ++ e ++ x) ++ 10 ∷ []
    regroup a b c d e x = simp (append_assoc, cons-append)

-- so no other byte makes one whole
pub none_more : (bytes : List ℕ) (b : ℕ) → b ≢ 10 → HasNoRequest bytes → HasNoRequest (bytes ++ b ∷ [])
none_more bytes b other none h [] reads =
    let feed = head_feed h in
    let same = reads.1 ∙ append-nil (print_request h) ∙ feed.1 in
    let lengths = ap length same in
    let ends = same_front bytes feed.0 (b ∷ []) (10 ∷ [])
    (omega (arith, lengths, length-append bytes (b ∷ []), length-append feed.0 (10 ∷ []))) same in
    other (ap (λ (xs : List ℕ). first xs) ends.1)
  where
    first : List ℕ → ℕ
    first [] = 0
    first (x ∷ xs) = x
none_more bytes b other none h (r ∷ rest) reads =
    let lengths = ap length reads.1 in
    let fits : length (print_request h) ≤ length bytes =
    omega (arith, lengths, length-append bytes (b ∷ []), length-append (print_request h) (r ∷ rest)) in
    none h _ (reads.0, front_begins bytes (b ∷ []) (print_request h) (r ∷ rest) reads.1 fits)

-- empty lines are not a head's other lines
no_blank : (ends blank : List LineEnd) (q : List ℕ) → Stops is_newline q → print_blank ends ≡ print_blank blank ++ q → ⊥
no_blank [] [] q stops e = subst (Stops is_newline) (sym e) stops
no_blank [] (lf ∷ bs) q stops e = cc
no_blank [] (crlf ∷ bs) q stops e = cc
no_blank (x ∷ es) [] q stops e = newline_not_stopped x (print_blank es) q e stops
no_blank (x ∷ es) (y ∷ bs) q stops e =
    no_blank es bs q stops (print_end_unique x y (print_blank es) (print_blank bs ++ q)
    (e ∙ append_assoc (print_end y) (print_blank bs) q)).1

pub blank_none : (bytes : List ℕ) → EndsIn state.Blank bytes → HasNoRequest bytes
blank_none bytes (ends, e) h rest reads =
    no_blank ends h.blank _ (Stops_token h.method _ reads.0.method.0 reads.0.method.1)
    (sym e ∙ reads.1 ∙ print_request-append h rest)

-- ---- what a step says

pub token_then : (r : Bool) (b : ℕ) → true ≡ is_ascii_alphanumeric b → r ≡ is_ascii_alphanumeric b → r ≡ is_token_byte b
unfolding is_token_byte
token_then r b letter is = is ∙ sym letter
    ∙ ap (λ (x : Bool). x || list_any (λ c. c == b) (codes "!#$%&'*+-.^_`|~")) letter

pub token_else : (r : Bool) (b : ℕ) → false ≡ is_ascii_alphanumeric b
    → r ≡ list_any (λ c. c == b) (codes "!#$%&'*+-.^_`|~") → r ≡ is_token_byte b
unfolding is_token_byte
token_else r b other is = is ∙ ap (λ (x : Bool). x || list_any (λ c. c == b) (codes "!#$%&'*+-.^_`|~")) other

token_feed : is_token_byte 10 ≡ false
unfolding is_token_byte
token_feed = refl

pub token_other : (b : ℕ) → true ≡ is_token_byte b → b ≢ 10
token_other b token e = cc (token ∙ ap is_token_byte e, token_feed)

pub uri_other : (b : ℕ) → true ≡ is_uri_byte b → b ≢ 10
uri_other b uri e = cc (uri ∙ ap is_uri_byte e)

pub value_other : (b : ℕ) → true ≡ is_value_byte b → b ≢ 10
value_other b value e = cc (value ∙ ap is_value_byte e)

-- a byte that is no line feed
pub step : (self p q : HeadState) (bytes : List ℕ) (b v : ℕ) → self ≡ p → b ≡ v → v ≢ 10
    → (EndsIn p bytes → EndsIn q (bytes ++ v ∷ [])) → Stands self bytes → Stands q (bytes ++ b ∷ [])
step self p q bytes b v is same other f stands =
    subst (λ (x : ℕ). Stands q (bytes ++ x ∷ [])) (sym same)
    (f (subst (λ (s : HeadState). EndsIn s bytes) is stands.0), none_more bytes v other stands.1)

-- the line feed of an empty line
pub step_feed : (self p : HeadState) (bytes : List ℕ) (b : ℕ) → self ≡ p → b ≡ 10
    → (EndsIn p bytes → EndsIn state.Blank (bytes ++ 10 ∷ [])) → Stands self bytes
    → Stands state.Blank (bytes ++ b ∷ [])
step_feed self p bytes b is same f stands =
    let ends = f (subst (λ (s : HeadState). EndsIn s bytes) is stands.0) in
    subst (λ (x : ℕ). Stands state.Blank (bytes ++ x ∷ [])) (sym same) (ends, blank_none (bytes ++ 10 ∷ []) ends)

-- ---- a head may begin so

field_line : (name raw : List ℕ) → IsToken name → AllPass is_value_byte raw → Completes FieldLine (name ++ 58 ∷ raw)
field_line name raw word all = record {
  more = 10 ∷ [];
  tree = record { name = name; raw = raw; end = lf };
  reads = λ rest. (record { name = word; raw = all }, regroup name raw rest);
}
  where
    regroup : (n r rest : List ℕ) → (n ++ 58 ∷ r) ++ (10 ∷ rest) ≡ (n ++ 58 ∷ r ++ 10 ∷ []) ++ rest
    regroup n r rest = simp (append_assoc, cons-append)

field_return : (name raw : List ℕ) → IsToken name → AllPass is_value_byte raw
    → Completes FieldLine (name ++ 58 ∷ raw ++ 13 ∷ [])
field_return name raw word all = record {
  more = 10 ∷ [];
  tree = record { name = name; raw = raw; end = crlf };
  reads = λ rest. (record { name = word; raw = all }, regroup name raw rest);
}
  where
    regroup : (n r rest : List ℕ) → (n ++ 58 ∷ r ++ 13 ∷ []) ++ (10 ∷ rest) ≡ (n ++ 58 ∷ r ++ 13 ∷ 10 ∷ []) ++ rest
    regroup n r rest = simp (append_assoc, cons-append)

-- lines whose rest may become a line
lines_may : (bytes rest : List ℕ) → HasLines bytes rest → Completes FieldLine rest → MayBecomeRequest bytes
lines_may bytes rest ((s, fs), (middle, start, lines)) line =
    request_may (Completes_next RequestStart_deterministic {a = s} start
    (Section_after_lines fs lines (Section_of_line (inr line))))

-- bytes that end within a head may become a head
pub state_may : (p : HeadState) (bytes : List ℕ) → EndsIn p bytes → MayBecomeRequest bytes
state_may state.Blank bytes (ends, e) =
    request_may_from_line (inl
    (line_blank (BlankLines_after ends (e ∙ sym (append-nil (print_blank ends))) some_newline)))
state_may state.BlankReturn bytes (ends, e) =
    request_may_from_line (inl (line_blank (BlankLines_after ends e (Newline_after_cr refl))))
state_may state.Method bytes (ends, m, word, e) =
    let stops = subst (Stops is_newline) (append-nil m) (Stops_token m [] word.0 word.1) in
    request_may_from_line (inl (line_method ends (e, stops) (Word_cut is_token_byte 32 65 letter_is_token word.1)))
state_may state.Target bytes target = inr target
state_may state.Line bytes ((s, fs), (middle, start, lines)) =
    request_may (Completes_next RequestStart_deterministic {a = s} start (Section_after_lines fs lines some_section))
state_may state.HeaderName bytes (name, word, lines) =
    lines_may bytes name lines
    (FieldLine_of_row (Completes_first (Word_cut is_token_byte 58 65 letter_is_token word.1) some_text))
state_may state.HeaderValue bytes (name, raw, word, all, lines) = lines_may bytes _ lines (field_line name raw word all)
state_may state.Return bytes (name, raw, word, all, lines) = lines_may bytes _ lines (field_return name raw word all)

-- ---- what was scanned

-- all of the bytes, where they end in that state
all_scanned : (p : HeadState) (bytes : List ℕ) → Stands p bytes
    → IsScanOf bytes (record { state = p; len = length bytes })
all_scanned p bytes at =
    record { fits = omega arith; stands = subst (Stands p) (sym (take_all (length bytes) bytes (omega arith))) at }

-- the bytes that have come since lead to that state
pub scan_advances : (bytes more : List ℕ) (scan : Scan) (p : HeadState) → IsScanOf bytes scan
    → more ≡ drop scan.len bytes
    → ((front : List ℕ) → Stands scan.state front → Stands p (front ++ more)) → length bytes < head_limit
    → IsScanOf bytes (record { state = p; len = length bytes }) × MayBeginHead bytes
scan_advances bytes more scan p was is leads short =
    let whole = ap (λ (t : List ℕ). take scan.len bytes ++ t) is ∙ take-append-drop scan.len bytes in
    let at = subst (Stands p) whole (leads (take scan.len bytes) was.stands) in
    (all_scanned p bytes at, (at.1, state_may p bytes at.0, short))

-- a scan is one of the bytes with more after them
pub scan_more : (bytes more : List ℕ) (scan : Scan) → IsScanOf bytes scan → IsScanOf (bytes ++ more) scan
scan_more bytes more scan was =
    let fits = was.fits in
    record {
      fits = omega (arith, fits, length-append bytes more);
      stands = subst (Stands scan.state) (sym (take-append-le scan.len bytes more fits)) was.stands;
    }

pub holds_scan_more : (bytes more : List ℕ) (scan : Option Scan) → HoldsScan bytes scan → HoldsScan (bytes ++ more) scan
holds_scan_more bytes more scan has = record { scanned = λ one some. scan_more bytes more one (has.scanned one some) }

-- the state in which the lines at the front end, and the state after the last line
pub scan_begins : (bytes front tail : List ℕ) (q p : HeadState) → MayBeginHead bytes → front ++ tail ≡ bytes
    → EndsLine front
    → ((rest : List ℕ) → EndsLine front → MayBeginHead (front ++ rest) → Stands q front)
    → ((bs : List ℕ) → Stands q bs → Stands p (bs ++ tail)) → IsScanOf bytes (record { state = p; len = length bytes })
scan_begins bytes front tail q p may whole ends first leads =
    all_scanned p bytes (subst (Stands p) whole (leads front (first tail ends (subst MayBeginHead (sym whole) may))))
