-- A stream is one list of messages, and has one end.
use Rattle.std.proofs.Common.{◌≡◌, ◌≢◌, ℕ, inl, inr, List, [], ◌∷◌, ◌++◌, length, take, drop, refl, sym, ap, ◌∙◌, subst}
use Rattle.std.proofs.Common.{arith, length-append, ◌-◌, ◌==◌, true, false}
use Rattle.std.proofs.lemmas.Bool.{eqb-true, eqb-false}
use Rattle.std.proofs.lemmas.List.{nil_from_length, take_at, drop_at, append_assoc, append-nil}
use Rattle.std.proofs.lemmas.List.Elements.{All-nil}
use Rattle.std.proofs.lemmas.List.Sums.{AllPass-from_list_all}
use Rattle.std.proofs.lemmas.Str.{IsUtf8-from_ascii}
use Rattle.std.proofs.lemmas.Str.Ascii.{IsAscii-nil, IsAscii-cons}
use Rattle.httparse.specs.Grammar.{RequestHead, ReadsRequest, HasNoRequest, MayBecomeRequest, is_token_byte}
use Rattle.httparse.specs.Grammar.{is_uri_byte, lf, print_request, print_blank, print_version, print_end, print_section}
use Rattle.httparse.proofs.GrammarLemmas.{print_request-append}
use Rattle.framing.specs.Message.{MessageView, message_view, BeginsWith, ReadsMessage, ReadsMessages, IsTooLarge, End}
use Rattle.framing.specs.Message.{clean}
use Rattle.framing.specs.Message.{too_large, bad, Ends, IsStream}
use Rattle.framing.specs.Never.{NeverBegins}
use Rattle.framing.specs.Framing.{MayBeginHead, IsOpen, IsBad, IsUnfinished}
use Rattle.framing.specs.declared.framer.Bad.TheVariants.{BadRequest, TooLarge}
use Rattle.framing.proofs.HeadLemmas.{head_unique, BeginsWith-append}

-- a head is not empty
pub nothing_reads : (h : RequestHead) (rest : List ℕ) → [] ≡ print_request h ++ rest → ⊥
nothing_reads h rest e =
    let long = ap length (e ∙ print_request-append h rest) in
    absurd (omega (
      arith,
      long,
      length-append (print_blank h.blank)
          (h.method ++ 32 ∷ (h.target ++ 32
          ∷ (print_version h.minor ++ (print_end h.line_end ++ (print_section h.fields h.last ++ rest))))),
      length-append h.method (32
          ∷ (h.target ++ 32 ∷ (print_version h.minor
          ++ (print_end h.line_end ++ (print_section h.fields h.last ++ rest))))),
    ))

pub no_request_in_nothing : HasNoRequest []
no_request_in_nothing h rest reads = nothing_reads h rest reads.1

-- two texts of one length that begin the same bytes are equal
pub same_front : (a b x y : List ℕ) → length a ≡ length b → a ++ x ≡ b ++ y → (a ≡ b) × (x ≡ y)
same_front a b x y long e = (
  sym (take_at a x (length a) refl) ∙ ap (take (length a)) e ∙ take_at b y (length a) (sym long),
  sym (drop_at a x (length a) refl) ∙ ap (drop (length a)) e ∙ drop_at b y (length a) (sym long),
)

-- some bytes begin with one message at most
pub message_unique : (bytes : List ℕ) (a b : MessageView) (r q : List ℕ) → ReadsMessage bytes a r
    → ReadsMessage bytes b q
    → (a ≡ b) × (r ≡ q)
message_unique bytes a b r q (h, m, x, _, long_a, is_a) (k, n, y, _, long_b, is_b) =
    let heads = head_unique bytes h k m n (a.body ++ r) (b.body ++ q) x y in
    let fronts = same_front a.body b.body r q (long_a ∙ heads.1 ∙ sym long_b) heads.2 in
    (is_a ∙ (λ i. message_view (heads.0 i) (fronts.0 i)) ∙ sym is_b, fronts.1)

pub ReadsMessage-append : (bytes more : List ℕ) (a : MessageView) (rest : List ℕ) → ReadsMessage bytes a rest
    → ReadsMessage (bytes ++ more) a (rest ++ more)
ReadsMessage-append bytes more a rest (h, n, x, small, long, is) = (
  h,
  n,
  subst (λ all. BeginsWith (bytes ++ more) h n all) (append_assoc a.body rest more)
      (BeginsWith-append bytes h n (a.body ++ rest) more x),
  small,
  long,
  is,
)

pub no_message_begins_another : (bytes more : List ℕ) (a b : MessageView) → ReadsMessage bytes a []
    → ReadsMessage (bytes ++ more) b [] → more ≡ []
no_message_begins_another bytes more a b x y =
    (message_unique (bytes ++ more) a b more [] (ReadsMessage-append bytes more a [] x) y).1

-- what ends a stream begins with no message
pub no_message_at_end : (bytes : List ℕ) (end : End) → Ends bytes end → (a : MessageView) (rest : List ℕ)
    → ReadsMessage bytes a rest → ⊥
no_message_at_end bytes clean empty a rest (h, n, x, small, long, is) =
    nothing_reads h (a.body ++ rest) (sym empty ∙ x.reads.1)
no_message_at_end bytes too_large (k, m, q, y, large) a rest (h, n, x, small, long, is) =
    let heads = head_unique bytes h k n m (a.body ++ rest) q x y in
    let same = heads.1 in
    absurd (omega arith)
no_message_at_end bytes bad ends a rest x = ends.1 a rest x

-- a rest has at most one end
pub end_unique : (bytes : List ℕ) (x y : End) → Ends bytes x → Ends bytes y → x ≡ y
end_unique bytes clean clean p q = refl
end_unique bytes clean too_large p (h, n, rest, x, large) = absurd (nothing_reads h rest (sym p ∙ x.reads.1))
end_unique bytes clean bad p q = absurd (q.0 p)
end_unique bytes too_large clean (h, n, rest, x, large) q = absurd (nothing_reads h rest (sym q ∙ x.reads.1))
end_unique bytes too_large too_large p q = refl
end_unique bytes too_large bad p q = absurd (q.2 p)
end_unique bytes bad clean p q = absurd (p.0 q)
end_unique bytes bad too_large p q = absurd (p.2 q)
end_unique bytes bad bad p q = refl

-- a stream has at most one list of messages and one end
pub stream_unique : (bytes : List ℕ) (a b : List MessageView) (x y : End) → IsStream bytes a x → IsStream bytes b y
    → (a ≡ b) × (x ≡ y)
stream_unique bytes [] [] x y (r, e, p) (q, f, s) =
    (refl, end_unique r x y p (subst (λ rest. Ends rest y) (sym f ∙ e) s))
stream_unique bytes [] (b ∷ bs) x y (r, e, p) (q, (after, f, more), s) =
    absurd (no_message_at_end r x p b after (subst (λ all. ReadsMessage all b after) e f))
stream_unique bytes (a ∷ as') [] x y (r, (after, f, more), p) (q, e, s) =
    absurd (no_message_at_end q y s a after (subst (λ all. ReadsMessage all a after) e f))
stream_unique bytes (a ∷ as') (b ∷ bs) x y (r, (after, e, more), p) (q, (behind, f, others), s) =
    let first = message_unique bytes a b after behind e f in
    let rest = stream_unique behind as' bs x y (r, subst (λ all. ReadsMessages all as' r) first.1 more, p)
    (q, others, s) in
    ((λ i. first.0 i ∷ rest.0 i), rest.1)

-- ---- what the framer's answers say of the stream

front_empty : (xs ys : List ℕ) → xs ++ ys ≡ [] → xs ≡ []
front_empty [] ys e = refl
front_empty (x ∷ xs) ys e = cc

-- a head whose length is too large ends the stream, however it goes on
pub too_large_ends : (bytes : List ℕ) → IsTooLarge bytes → IsBad bytes TooLarge
too_large_ends bytes (h, n, rest, x, large) =
    record { ends = λ more. (h, n, rest ++ more, BeginsWith-append bytes h n rest more x, large) }

-- bytes that can never begin with a good head end the stream, however it goes on
pub never_ends : (bytes : List ℕ) → bytes ≢ [] → NeverBegins bytes → IsBad bytes BadRequest
never_ends bytes some never = record {
  ends = λ more. (
    (λ e. some (front_empty bytes more e)),
    (λ a rest x. never more x.0 x.1 (a.body ++ rest) x.2),
    (λ x. never more x.0 x.1 x.2 x.3),
  );
}

-- bytes that wait for more are a bad end if no more come
open_ends : (bytes : List ℕ) → IsOpen bytes → bytes ≢ [] → Ends bytes bad
open_ends bytes (inl none) some =
    (some, (λ a rest x. none.0 x.0 (a.body ++ rest) x.2.reads), λ x. none.0 x.0 x.2 x.3.reads)
open_ends bytes (inr (h, n, rest, x, small, short)) some =
    (some, no_message, no_large)
  where
    no_message : (a : MessageView) (more : List ℕ) → ReadsMessage bytes a more → ⊥
    no_message a more (k, m, y, _, long, is) =
        let heads = head_unique bytes h k n m rest (a.body ++ more) x y in
        let lengths = ap length heads.2 ∙ length-append a.body more in
        let same = heads.1 in
        absurd (omega arith)

    no_large : ¬ (IsTooLarge bytes)
    no_large (k, m, q, y, large) =
        let heads = head_unique bytes h k n m rest q x y in
        let same = heads.1 in
        absurd (omega arith)

pub unfinished : (bytes : List ℕ) → IsOpen bytes → IsUnfinished bytes
unfinished bytes begun = record { begun = begun; ends = open_ends bytes begun }

-- `A / HTTP/1.0` and two line ends
abbrev shortest : RequestHead
shortest = record { blank = []; method = 65 ∷ []; target = 47 ∷ []; minor = 0; line_end = lf; fields = []; last = lf }

-- a head may begin where there are no bytes yet
nothing_may_become : MayBecomeRequest []
unfolding is_token_byte
nothing_may_become =
    inl (
      print_request shortest,
      shortest,
      (
        record {
          method = (omega arith, AllPass-from_list_all is_token_byte (65 ∷ []) refl);
          target = (omega arith, AllPass-from_list_all is_uri_byte (47 ∷ []) refl);
          target_text = IsUtf8-from_ascii (47 ∷ []) (IsAscii-cons 47 [] (omega arith) IsAscii-nil);
          minor = omega arith;
          fields = All-nil _;
        },
        sym (append-nil (print_request shortest)),
      ),
    )

pub nothing_may_begin : (bytes : List ℕ) → bytes ≡ [] → MayBeginHead bytes
nothing_may_begin bytes e = (rw e no_request_in_nothing, rw e nothing_may_become, omega (arith, ap length e))

pub unfinished_nothing : (bytes : List ℕ) → bytes ≡ [] → IsUnfinished bytes
unfinished_nothing bytes e = unfinished bytes (inl (nothing_may_begin bytes e))

-- a whole head that is not good
pub bad_head : (bytes : List ℕ) (h : RequestHead) (rest : List ℕ) → ReadsRequest bytes h rest → NeverBegins bytes
    → IsBad bytes BadRequest
bad_head bytes h rest reads never = never_ends bytes (λ e. nothing_reads h rest (sym e ∙ reads.1)) never

-- what `is_empty` says
pub some_bytes : (bytes : List ℕ) → false ≡ (length bytes == 0) → bytes ≢ []
some_bytes bytes h e = eqb-false (length bytes) 0 (sym h) (ap length e)

pub no_bytes : (bytes : List ℕ) → true ≡ (length bytes == 0) → bytes ≡ []
no_bytes bytes h = nil_from_length bytes (eqb-true (length bytes) 0 (sym h))
