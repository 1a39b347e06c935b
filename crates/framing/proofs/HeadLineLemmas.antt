-- Bytes that may become a head: up to the end of a line they are empty lines, or a request line and headers.
use Prim.Native.Nat.{zero, suc}
use Rattle.std.proofs.Common.{◌≡◌, ◌≢◌, ℕ, ◌+◌, ◌<◌, ◌≤◌, ◌⊎◌, ◌==◌, not, Bool, true, false, inl, inr, List, [], ◌∷◌}
use Rattle.std.proofs.Common.{◌++◌}
use Rattle.std.proofs.Common.{length, drop, take, get_or, refl, sym, ap, ◌∙◌, subst, arith, append_assoc, append-nil}
use Rattle.std.proofs.Common.{All}
use Rattle.std.specs.List.{list_all, flat_map}
use Rattle.std.proofs.lemmas.Bool.{and_parts, and_from, eqb-true}
use Rattle.std.proofs.lemmas.List.{take_more}
use Rattle.std.proofs.lemmas.List.Folds.{list_all-append}
use Rattle.std.proofs.lemmas.List.Elements.{All-nil, All-head, All-tail, All-cons}
use Rattle.httparse.specs.Grammar.{RequestHead, IsRequestHead, HasNoRequest, MayBecomeRequest, LineEnd, crlf, lf, Field}
use Rattle.httparse.specs.Grammar.{IsField, AllPass, is_token_byte}
use Rattle.httparse.specs.Grammar.{is_uri_byte, is_value_byte, print_request, print_blank, print_end, print_version}
use Rattle.httparse.specs.Grammar.{print_section, print_field}
use Rattle.httparse.specs.Pieces.{Stops, is_newline, RequestStart, FieldLines}
use Rattle.httparse.proofs.GrammarLemmas.{print_request-append, cons-append, ReadsRequest-append}
use Rattle.httparse.proofs.PieceLemmas.{Stops_token, front-append}
use Rattle.framing.specs.Framing.{MayBeginHead}
use Rattle.framing.specs.HeadFront.{EndsIn, EndsLine, Stands}
use Rattle.framing.specs.declared.head_front.HeadState.TheVariants as state

-- ---- lines

-- any byte but a line feed
abbrev pub is_inside : ℕ → Bool
is_inside b = not (b == 10)

abbrev Inside : List ℕ → Type 0
Inside bytes = list_all is_inside bytes ≡ true

inside_append : (xs ys : List ℕ) → Inside xs → Inside ys → Inside (xs ++ ys)
inside_append xs ys p q = rw (list_all-append is_inside xs ys, p, q) refl

-- bytes of a class without the line feed
inside_pass : (test : ℕ → Bool) → test 10 ≡ false → (xs : List ℕ) → AllPass test xs → Inside xs
inside_pass test out [] all = refl
inside_pass test out (x ∷ xs) all =
    and_from _ _ (other x (x == 10) refl (All-head (λ v. test v ≡ true) x xs all))
    (inside_pass test out xs (All-tail (λ v. test v ≡ true) x xs all))
  where
    other : (x : ℕ) (same : Bool) → same ≡ (x == 10) → test x ≡ true → not same ≡ true
    other x false e p = refl
    other x true e p = let ten : x ≡ 10 = eqb-true x 10 (sym e) in cc (subst (λ (v : ℕ). test v ≡ true) ten p, out)

pub token_inside : is_token_byte 10 ≡ false
unfolding is_token_byte
token_inside = refl

abbrev first : List ℕ → ℕ
first [] = 0
first (x ∷ xs) = x

feed_outside : (b : ℕ) → b ≡ 10 → is_inside b ≡ true → ⊥
feed_outside b e p = cc (subst (λ (v : ℕ). is_inside v ≡ true) e p)

-- what is left of bytes behind a line of theirs
abbrev Behind : List ℕ → List ℕ → List ℕ → List ℕ → Type 0
Behind line front rest after = (f : List ℕ) × (front ≡ line ++ f) × EndsLine f × (f ++ rest ≡ after)

cut_more : (b x : ℕ) (front body rest after : List ℕ) → b ≡ x
    → (front ≢ []) → (front ≡ []) ⊎ Behind (body ++ 10 ∷ []) front rest after
    → Behind (x ∷ body ++ 10 ∷ []) (b ∷ front) rest after
cut_more b x front body rest after e some (inl none) = absurd (some none)
cut_more b x front body rest after e some (inr (f, is, ends, others)) = (f, (λ i. e i ∷ is i), ends, others)

-- bytes that end in a line feed, and begin as a line: there are none, or they begin with it
cut : (front body rest after : List ℕ) → EndsLine front → Inside body → front ++ rest ≡ (body ++ 10 ∷ []) ++ after
    → (front ≡ []) ⊎ Behind (body ++ 10 ∷ []) front rest after
cut [] body rest after ends inside e = inl refl
cut (b ∷ []) [] rest after ends inside e = inr ([], ap (λ (x : ℕ). x ∷ []) ends, tt, ap (drop 1) e)
cut (b ∷ c ∷ f) [] rest after ends inside e = inr (c ∷ f, ap (λ (x : ℕ). x ∷ c ∷ f) (ap first e), ends, ap (drop 1) e)
cut (b ∷ []) (x ∷ body) rest after ends inside e =
    let same : b ≡ x = ap first e in
    absurd (feed_outside x (sym same ∙ ends) (and_parts (is_inside x) (list_all is_inside body) inside).0)
cut (b ∷ c ∷ f) (x ∷ body) rest after ends inside e =
    inr (cut_more b x (c ∷ f) body rest after (ap first e) (λ none. cc)
    (cut (c ∷ f) body rest after ends (and_parts (is_inside x) (list_all is_inside body) inside).1 (ap (drop 1) e)))

-- bytes without a line feed begin with no line
cut_none : (front rest whole : List ℕ) → EndsLine front → Inside whole → front ++ rest ≡ whole → front ≡ []
cut_none [] rest whole ends inside e = refl
cut_none (b ∷ []) rest whole ends inside e =
    absurd (feed_outside b ends (and_parts (is_inside b) (list_all is_inside rest) (subst Inside (sym e) inside)).0)
cut_none (b ∷ c ∷ f) rest whole ends inside e =
    let behind = (and_parts (is_inside b) (list_all is_inside (c ∷ (f ++ rest))) (subst Inside (sym e) inside)).1 in
    let none : (c ∷ f) ≡ [] = cut_none (c ∷ f) rest (c ∷ (f ++ rest)) ends behind refl in
    absurd (cc none)

-- ---- the lines of a head

abbrev BlankOr : List LineEnd → List ℕ → List ℕ → List ℕ → Type 0
BlankOr ends front rest after = ((es : List LineEnd) × (front ≡ print_blank es))
    ⊎ Behind (print_blank ends) front rest after

blank_line : (x : LineEnd) (es : List LineEnd) (front f rest after : List ℕ) → front ≡ print_end x ++ f
    → BlankOr es f rest after → BlankOr (x ∷ es) front rest after
blank_line x es front f rest after is (inl (others, e)) = inl (x ∷ others, is ∙ ap (λ (t : List ℕ). print_end x ++ t) e)
blank_line x es front f rest after is (inr (g, e, ends, e2)) =
    inr (
      g,
      is ∙ ap (λ (t : List ℕ). print_end x ++ t) e
          ∙ sym (append_assoc (print_end x) (print_blank es) g),
      ends,
      e2,
    )

blank_next : (x : LineEnd) (es : List LineEnd) (front rest after : List ℕ)
    → ((f : List ℕ) → EndsLine f → f ++ rest ≡ print_blank es ++ after → BlankOr es f rest after)
    → (front ≡ []) ⊎ Behind (print_end x) front rest (print_blank es ++ after) → BlankOr (x ∷ es) front rest after
blank_next x es front rest after again (inl none) = inl ([], none)
blank_next x es front rest after again (inr (f, is, ends, e)) = blank_line x es front f rest after is (again f ends e)

cut_blank : (ends : List LineEnd) (front rest after : List ℕ) → EndsLine front
    → front ++ rest ≡ print_blank ends ++ after
    → BlankOr ends front rest after
cut_blank [] front rest after ends e = inr (front, refl, ends, e)
cut_blank (lf ∷ es) front rest after ends e =
    blank_next lf es front rest after (λ f. cut_blank es f rest after)
    (cut front [] rest (print_blank es ++ after) ends refl e)
cut_blank (crlf ∷ es) front rest after ends e =
    blank_next crlf es front rest after (λ f. cut_blank es f rest after)
    (cut front (13 ∷ []) rest (print_blank es ++ after) ends refl e)

-- a line without its line feed
abbrev LineOf : List ℕ → Type 0
LineOf line = (body : List ℕ) × Inside body × (line ≡ body ++ 10 ∷ [])

end_line : (x : LineEnd) → LineOf (print_end x)
end_line lf = ([], refl, refl)
end_line crlf = (13 ∷ [], refl, refl)

-- what ends in a line end is a line, where the rest is inside one
ended_line : (text : List ℕ) (x : LineEnd) → Inside text → LineOf (text ++ print_end x)
ended_line text x inside =
    let end = end_line x in (
      text ++ end.0,
      inside_append text end.0 inside end.1,
      ap (λ (t : List ℕ). text ++ t) end.2
          ∙ sym (append_assoc text end.0 (10 ∷ [])),
    )

cut_line : (line front rest after : List ℕ) → LineOf line → EndsLine front → front ++ rest ≡ line ++ after
    → (front ≡ []) ⊎ Behind line front rest after
cut_line line front rest after (body, inside, is) ends e =
    subst (λ (l : List ℕ). (front ≡ []) ⊎ Behind l front rest after) (sym is)
    (cut front body rest after ends inside (e ∙ ap (λ (l : List ℕ). l ++ after) is))

field_line : (f : Field) → IsField f → LineOf (print_field f)
field_line f is =
    ended_line (f.name ++ 58 ∷ f.raw) f.end
    (inside_append f.name (58 ∷ f.raw) (inside_pass is_token_byte token_inside f.name is.name.1)
    (inside_pass is_value_byte refl f.raw is.raw))

-- the request line
abbrev start_text : RequestHead → List ℕ
start_text h = h.method ++ 32 ∷ (h.target ++ 32 ∷ print_version h.minor)

version_inside : (minor : ℕ) → minor ≤ 1 → Inside (print_version minor)
version_inside zero small = refl
version_inside (suc zero) small = refl
version_inside (suc (suc n)) small = absurd (omega arith)

start_line : (h : RequestHead) → IsRequestHead h → LineOf (start_text h ++ print_end h.line_end)
start_line h is =
    ended_line (start_text h) h.line_end
    (inside_append h.method (32 ∷ (h.target ++ 32 ∷ print_version h.minor))
    (inside_pass is_token_byte token_inside h.method is.method.1)
    (inside_append h.target (32 ∷ print_version h.minor) (inside_pass is_uri_byte refl h.target is.target.1)
    (version_inside h.minor is.minor)))

-- bytes up to the end of a line of a section: some of its headers, or all of it
abbrev HeadersOr : List Field → LineEnd → List ℕ → Type 0
HeadersOr fs last front =
    ((gs : List Field) × FieldLines gs front []) ⊎ ((q : List ℕ) × (front ≡ print_section fs last ++ q))

-- a header and then some or all headers of a section are some or all headers of the section with that header in front
headers_line : (f : Field) (fs : List Field) (last : LineEnd) (front g : List ℕ) → IsField f
    → front ≡ print_field f ++ g
    → HeadersOr fs last g → HeadersOr (f ∷ fs) last front
headers_line f fs last front g good is (inl (gs, (all, e))) =
    inl (
      f ∷ gs,
      (
        All-cons IsField f gs good all,
        is ∙ ap (λ (t : List ℕ). print_field f ++ t) e
            ∙ sym (append_assoc (print_field f) (flat_map print_field gs) []),
      ),
    )
headers_line f fs last front g good is (inr (q, e)) =
    inr (
      q,
      is ∙ ap (λ (t : List ℕ). print_field f ++ t) e
          ∙ regroup (print_field f) (flat_map print_field fs) (print_end last) q,
    )
  where
    regroup : (a b c q : List ℕ) → a ++ ((b ++ c) ++ q) ≡ ((a ++ b) ++ c) ++ q
    regroup a b c q = simp append_assoc

headers_next : (f : Field) (fs : List Field) (last : LineEnd) (front rest after : List ℕ) → IsField f
    → ((g : List ℕ) → EndsLine g → g ++ rest ≡ print_section fs last ++ after → HeadersOr fs last g)
    → (front ≡ []) ⊎ Behind (print_field f) front rest (print_section fs last ++ after) → HeadersOr (f ∷ fs) last front
headers_next f fs last front rest after good again (inl none) = inl ([], (All-nil IsField, none))
headers_next f fs last front rest after good again (inr (g, is, ends, e)) =
    headers_line f fs last front g good is (again g ends e)

headers_end : (last : LineEnd) (front rest after : List ℕ) → (front ≡ []) ⊎ Behind (print_end last) front rest after
    → HeadersOr [] last front
headers_end last front rest after (inl none) = inl ([], (All-nil IsField, none))
headers_end last front rest after (inr (q, is, ends, e)) = inr (q, is)

-- bytes up to the end of a line of a section are some of its headers, or all of it and more
cut_headers : (fs : List Field) (last : LineEnd) (front rest after : List ℕ) → All IsField fs → EndsLine front
    → front ++ rest ≡ print_section fs last ++ after → HeadersOr fs last front
cut_headers [] last front rest after all ends e =
    headers_end last front rest after (cut_line (print_end last) front rest after (end_line last) ends e)
cut_headers (f ∷ fs) last front rest after all ends e =
    headers_next f fs last front rest after (All-head IsField f fs all)
    (λ g. cut_headers fs last g rest after (All-tail IsField f fs all))
    (cut_line (print_field f) front rest (print_section fs last ++ after) (field_line f (All-head IsField f fs all))
    ends
    (e ∙ regroup (print_field f) (flat_map print_field fs) (print_end last) after))
  where
    regroup : (a b c q : List ℕ) → ((a ++ b) ++ c) ++ q ≡ a ++ ((b ++ c) ++ q)
    regroup a b c q = simp append_assoc

-- ---- what may become a head

abbrev BlankOrLines : List ℕ → Type 0
BlankOrLines front = EndsIn state.Blank front ⊎ EndsIn state.Line front

-- the bytes of a head that may come, cut behind its empty lines
start_regroup : (m t v e s : List ℕ) → m ++ 32 ∷ (t ++ 32 ∷ (v ++ (e ++ s))) ≡ ((m ++ 32 ∷ (t ++ 32 ∷ v)) ++ e) ++ s
start_regroup m t v e s = simp (append_assoc, cons-append)

-- bytes that begin with the empty lines and the request line of a head are read as these
start_at : (h : RequestHead) (bytes rest : List ℕ) → IsRequestHead h
    → bytes ≡ print_blank h.blank ++ ((start_text h ++ print_end h.line_end) ++ rest)
    → RequestStart (h.blank, (h.method, (h.target, (h.minor, h.line_end)))) bytes rest
start_at h bytes rest is e = (
  _,
  (
    e ∙ ap (λ (t : List ℕ). print_blank h.blank ++ t)
        (sym (start_regroup h.method h.target (print_version h.minor) (print_end h.line_end) rest)),
    Stops_token h.method _ is.method.0 is.method.1,
  ),
  (
    _,
    (is.method.0, is.method.1, refl),
    (_, ((is.target.0, is.target.1, refl), is.target_text), (_, (is.minor, refl), refl)),
  ),
)

module _ (h : RequestHead) (is : IsRequestHead h) (front tail : List ℕ) (none : HasNoRequest (front ++ tail)) where
  -- bytes that begin with the empty lines and the request line of a head, and then some or all of its headers, end in
  -- a line
  behind_start : (g : List ℕ) → front ≡ print_blank h.blank ++ ((start_text h ++ print_end h.line_end) ++ g)
      → HeadersOr h.fields h.last g → BlankOrLines front
  behind_start g e (inl (gs, lines)) =
      inr (((h.blank, (h.method, (h.target, (h.minor, h.line_end)))), gs), (g, start_at h front g is e, lines))
  behind_start g e (inr (q, all)) =
      absurd (none h (q ++ tail) (is, front-append front (print_request h) q tail (e ∙ whole)))
    where
      whole : print_blank h.blank ++ ((start_text h ++ print_end h.line_end) ++ g) ≡ print_request h ++ q
      whole =
          ap (λ (t : List ℕ). print_blank h.blank ++ t)
          (ap (λ (t : List ℕ). (start_text h ++ print_end h.line_end) ++ t) all
          ∙ sym (start_regroup h.method h.target (print_version h.minor) (print_end h.line_end)
          (print_section h.fields h.last ++ q)))
          ∙ sym (print_request-append h q)

  behind_blank : (f rest after : List ℕ) → front ≡ print_blank h.blank ++ f
      → (f ≡ []) ⊎ Behind (start_text h ++ print_end h.line_end) f rest (print_section h.fields h.last ++ after)
      → BlankOrLines front
  behind_blank f rest after e (inl empty) =
      inl (h.blank, e ∙ ap (λ (t : List ℕ). print_blank h.blank ++ t) empty ∙ append-nil (print_blank h.blank))
  behind_blank f rest after e (inr (g, fis, ends, others)) =
      behind_start g (e ∙ ap (λ (t : List ℕ). print_blank h.blank ++ t) fis)
      (cut_headers h.fields h.last g rest after is.fields ends others)

  lines_of_head : (rest after : List ℕ)
      → BlankOr h.blank front rest ((start_text h ++ print_end h.line_end) ++ (print_section h.fields h.last ++ after))
      → BlankOrLines front
  lines_of_head rest after (inl blank) = inl blank
  lines_of_head rest after (inr (f, e, ends, others)) =
      behind_blank f rest after e
      (cut_line (start_text h ++ print_end h.line_end) f rest (print_section h.fields h.last ++ after)
      (start_line h is) ends others)

target_line : (ends : List LineEnd) (m t front tail : List ℕ) → Inside (m ++ 32 ∷ t)
    → BlankOr ends front tail (m ++ 32 ∷ t) → BlankOrLines front
target_line ends m t front tail inside (inl blank) = inl blank
target_line ends m t front tail inside (inr (f, e, closed, others)) =
    inl (
      ends,
      e ∙ ap (λ (x : List ℕ). print_blank ends ++ x) (cut_none f tail _ closed inside others)
          ∙ append-nil (print_blank ends),
    )

-- what may become a head and has no whole one
pub lines_of : (front tail : List ℕ) → EndsLine front → HasNoRequest (front ++ tail) → MayBecomeRequest (front ++ tail)
    → BlankOrLines front
lines_of front tail ends none (inl (more, h, (is, e))) =
    let all = sym (append_assoc front tail more) ∙ e ∙ print_request-append h []
    ∙ ap (λ (t : List ℕ). print_blank h.blank ++ t)
    (start_regroup h.method h.target (print_version h.minor) (print_end h.line_end)
    (print_section h.fields h.last ++ [])) in
    lines_of_head h is front tail none (tail ++ more) [] (cut_blank h.blank front (tail ++ more) _ ends all)
lines_of front tail ends none (inr (blank, m, t, word, uri, e)) =
    let inside = inside_append m (32 ∷ t) (inside_pass is_token_byte token_inside m word.1)
    (inside_pass is_uri_byte refl t uri) in
    target_line blank m t front tail inside
    (cut_blank blank front tail (m ++ 32 ∷ t) ends (e ∙ append_assoc (print_blank blank) m (32 ∷ t)))

-- ---- which of the two

-- empty lines are line ends alone
pub blank_newlines : (ends : List LineEnd) → list_all is_newline (print_blank ends) ≡ true
blank_newlines [] = refl
blank_newlines (lf ∷ es) = blank_newlines es
blank_newlines (crlf ∷ es) = blank_newlines es

stops_not : (q : List ℕ) → Stops is_newline q → list_all is_newline q ≡ true → ⊥
stops_not [] stops all = stops
stops_not (b ∷ q) stops all = cc (stops, (and_parts (is_newline b) (list_all is_newline q) all).0)

pub newlines_blank : (front : List ℕ) → list_all is_newline front ≡ true → BlankOrLines front → EndsIn state.Blank front
newlines_blank front all (inl blank) = blank
newlines_blank front all (inr ((s, fs), (middle, (q, (e, stops), start), lines))) =
    absurd
    (stops_not q stops (and_parts (list_all is_newline (print_blank s.0)) (list_all is_newline q)
    (sym (list_all-append is_newline (print_blank s.0) q) ∙ ap (list_all is_newline) (sym e) ∙ all)).1)

pub others_lines : (front : List ℕ) → list_all is_newline front ≡ false → BlankOrLines front → EndsIn state.Line front
others_lines front some (inl (ends, e)) = absurd (cc (ap (list_all is_newline) e ∙ blank_newlines ends, some))
others_lines front some (inr lines) = lines

front_none : (front tail : List ℕ) → HasNoRequest (front ++ tail) → HasNoRequest front
front_none front tail none h rest reads = none h (rest ++ tail) (ReadsRequest-append front h rest tail reads)

-- the front of what may become a head stands behind empty lines, or behind others
pub first_blank : (front tail : List ℕ) → true ≡ list_all is_newline front → EndsLine front
    → MayBeginHead (front ++ tail) → Stands state.Blank front
first_blank front tail all ends may =
    (newlines_blank front (sym all) (lines_of front tail ends may.0 may.1), front_none front tail may.0)

pub first_line : (front tail : List ℕ) → false ≡ list_all is_newline front → EndsLine front
    → MayBeginHead (front ++ tail) → Stands state.Line front
first_line front tail some ends may =
    (others_lines front (sym some) (lines_of front tail ends may.0 may.1), front_none front tail may.0)

-- ---- where the last line begins

ends_push : (xs : List ℕ) → EndsLine (xs ++ 10 ∷ [])
ends_push [] = refl
ends_push (x ∷ []) = refl
ends_push (x ∷ y ∷ xs) = ends_push (y ∷ xs)

-- behind a line feed
pub ends_behind : (bytes : List ℕ) (at : ℕ) → at < length bytes → get_or bytes at 0 ≡ 10
    → EndsLine (take (at + 1) bytes)
ends_behind bytes at inside is =
    subst EndsLine (sym (take_more bytes at 0 inside ∙ ap (λ (x : ℕ). take at bytes ++ x ∷ []) is))
    (ends_push (take at bytes))
