-- What is written of what happened.
use Rattle.std.proofs.Common.{◌≡◌, ◌≢◌, ◌≤◌, ◌<◌, ◌⊎◌, ℕ, nat_eq, Bool, true, false, IsTrue, not, List, [], ◌∷◌, ◌++◌, All}
use Rattle.std.proofs.Common.{refl, sym}
use Rattle.std.proofs.Common.{ap, ◌∙◌, subst, Option, None, Some, Result, Ok, Err, inl, inr, append_assoc, append-nil}
use Rattle.std.proofs.Common.{arith}
use Rattle.std.proofs.KnownBytes.{Appends-kept, Appends-nil, Appends-trans}
use Rattle.std.proofs.lemmas.Bool.{false≢true, and_parts, eq-eqb}
use Rattle.std.proofs.lemmas.List.Elements.{All-append, All-cons, All-head, All-nil, All-tail}
use Rattle.std.specs.Prelude.{codes, decimal, option_copied}
use Rattle.std.specs.List.{list_all}
use Rattle.std.specs.Io.KnownBytes.{Appends, Keeps}
use mathlib.Core.HLevel.{⊥_prop}
use mathlib.Core.Logic.{∥∥₁_elim}
use Rattle.histories.specs.Calls.{CallsFlush}
use Rattle.histories.specs.Calls as calls
use Rattle.engine.specs.Causes.{FailsWith}
use Rattle.engine.specs.Written.{Writes}
use Rattle.engine.specs.declared.fault.Io.{Io}
use Rattle.keyring.specs.KeyList.{fingerprint}
use Rattle.modver.specs.SemanticVersion.{version_text}
use Rattle.control.specs.Notices.{Answer, Occasion, Opened, Uncounted, Ordered, Copied, Catalogued, Answered, Reserved, Met}
use Rattle.control.specs.Notices.{AreBegun, Ended, Lost, EndsLine, IsNotice, IsPiece, NoneIsRefusal}
use Rattle.control.specs.Notices.{WritesLines, WritesNotices}
use Rattle.control.specs.Notices.{behind_team, errand_words}
use Rattle.control.specs.Notices.{has_group, has_shelf, joined, line_of, name_if, plain, right_words, shown_words}
use Rattle.control.specs.Outcome.{outcome_of, outcome_of_catalog, outcome_of_copy}
use Rattle.orders.specs.Outcome as outcome
use Rattle.orders.specs.Words.{line_end}
use Rattle.control.specs.declared.store_call.StoreCall.{StoreCall}
use Rattle.control.specs.declared.store_call.StoreCall.TheVariants as errand
use Rattle.orders.specs.declared.outcome.Outcome.{Outcome}
use Rattle.orders.specs.declared.outcome.Outcome.TheVariants as case
use Rattle.orders.specs.declared.command.RegistryCommand.{RegistryCommand}
use Rattle.orders.specs.declared.command.RegistryCommand.TheVariants.{TeamAdd, GroupAdd, KeyAdd}
use Rattle.orders.specs.declared.command.RegistryCommand.TheVariants.{KeyRevoke, KeysRevoke}
use Rattle.control.proofs.PlainLemmas.{decimal_no_end, fingerprint_no_end, is_no_end, no_end_both, plain_text}
use Rattle.world.specs.declared.entry.Right.{Right}
use Rattle.world.specs.declared.entry.Right.TheVariants.{Reads, Publishes}
use Rattle.world.specs.declared.registry.RegistryReply.TheVariants as registered
use Rattle.world.specs.declared.registry.StoreFault.TheVariants as fault

-- ---- writing

pub notices_none : (a : Option (List ℕ)) → WritesNotices a a
notices_none a = record {
  text = [];
  lines = record { pieces = []; each = All-nil IsPiece; is = refl };
  writes = Appends-nil a;
}

joined_both : (xs ys : List (List ℕ)) → joined (xs ++ ys) ≡ joined xs ++ joined ys
joined_both [] ys = refl
joined_both (x ∷ xs) ys = ap (λ more. x ++ more) (joined_both xs ys) ∙ sym (append_assoc x (joined xs) (joined ys))

pub notices_more : (a b c : Option (List ℕ)) → WritesNotices a b → WritesNotices b c → WritesNotices a c
notices_more a b c first next =
    let one = first.lines in
    let two = next.lines in
    record {
      text = first.text ++ next.text;
      lines = record {
        pieces = one.pieces ++ two.pieces;
        each = All-append IsPiece one.pieces two.pieces one.each two.each;
        is = ap (λ t. t ++ next.text) one.is ∙ ap (λ t. joined one.pieces ++ t) two.is
            ∙ sym (joined_both one.pieces two.pieces);
      };
      writes = Appends-trans a b c first.text next.text first.writes next.writes;
    }

one_piece : (a b : Option (List ℕ)) (piece : List ℕ) → IsPiece piece → Appends a b piece → WritesNotices a b
one_piece a b piece is writes = record {
  text = piece;
  lines = record {
    pieces = piece ∷ [];
    each = All-cons IsPiece piece [] is (All-nil IsPiece);
    is = sym (append-nil piece);
  };
  writes = writes;
}

-- a line was written, or a beginning of it
pub notice_written : (a b : Option (List ℕ)) (line : List ℕ) (result : Result (Unit {0}) Io) → IsNotice line
    → Writes a b line result → WritesNotices a b
notice_written a b line (Ok done) is writes =
    one_piece a b line ([], subst IsNotice (sym (append-nil line)) is) writes
notice_written a b line (Err e) is writes =
    let begun = writes.1 in
    one_piece a b begun.0 (begun.1.0, subst IsNotice begun.1.2 is) begun.2

pub notices_kept : (a b c : Option (List ℕ)) → WritesNotices a b → Keeps b c → WritesNotices a c
notices_kept a b c written kept =
    record { text = written.text; lines = written.lines; writes = Appends-kept a b c written.text written.writes kept }

-- ---- writing lines

begun_both : (ps qs xs ys : List (List ℕ)) → AreBegun ps xs → AreBegun qs ys → AreBegun (ps ++ qs) (xs ++ ys)
begun_both [] qs [] ys one two = two
begun_both (p ∷ ps) qs (x ∷ xs) ys one two = (one.0, begun_both ps qs xs ys one.1 two)
begun_both [] qs (x ∷ xs) ys one two = absurd one
begun_both (p ∷ ps) qs [] ys one two = absurd one

-- one line, whole or not
one_line : (line piece rest : List ℕ) (a b : Option (List ℕ) × calls.Writes) → IsNotice line → line ≡ piece ++ rest
    → Appends a.0 b.0 piece → a.1.failed ≤ b.1.failed
    → (a.1.failed < b.1.failed) ⊎ ((piece ≡ line) × (a.1.unflushed ≡ [] → b.1.unflushed ≡ []))
    → WritesLines (λ lines. lines ≡ line ∷ []) a b
one_line line piece rest a b is front writes fewer whole = record {
  lines = line ∷ [];
  each = All-cons IsNotice line [] is (All-nil IsNotice);
  so = refl;
  pieces = piece ∷ [];
  begun = ((rest, front), tt);
  writes = subst (Appends a.0 b.0) (sym (append-nil piece)) writes;
  no_fewer = fewer;
  whole = elim whole [
    | inl failed ↦ inl failed
    | inr all ↦ inr (ap (λ p. p ∷ []) all.0, all.1)
  ];
}

-- a line was written and flushed, or a call failed
pub line_written : {F : Type 0} (line : List ℕ) (a b c : Option (List ℕ)) (u v w : calls.Writes)
    (wrote : Result (Unit {0}) Io) (flushed : Result (Unit {0}) F) → IsNotice line → Writes a b line wrote
    → FailsWith u.failed v.failed wrote → Keeps b c → CallsFlush v w flushed
    → WritesLines (λ lines. lines ≡ line ∷ []) (a, u) (c, w)
line_written line a b c u v w (Ok done) (Ok settled) is writes fails kept flush =
    one_line line line [] (a, u) (c, w) is (sym (append-nil line)) (Appends-kept a b c line writes kept)
    (omega (arith, fails, flush.1)) (inr (refl, λ before. flush.0))
line_written line a b c u v w (Ok done) (Err e) is writes fails kept flush =
    one_line line line [] (a, u) (c, w) is (sym (append-nil line)) (Appends-kept a b c line writes kept)
    (omega (arith, fails, flush.1)) (inl (omega (arith, fails, flush.1)))
line_written line a b c u v w (Err why) (Ok settled) is writes fails kept flush =
    let begun = writes.1 in
    one_line line begun.0 begun.1.0 (a, u) (c, w) is begun.1.2 (Appends-kept a b c begun.0 begun.2 kept)
    (omega (arith, fails, flush.1)) (inl (omega (arith, fails, flush.1)))
line_written line a b c u v w (Err why) (Err e) is writes fails kept flush =
    let begun = writes.1 in
    one_line line begun.0 begun.1.0 (a, u) (c, w) is begun.1.2 (Appends-kept a b c begun.0 begun.2 kept)
    (omega (arith, fails, flush.1)) (inl (omega (arith, fails, flush.1)))

-- nothing was written
pub none_written : (are : List (List ℕ) → Type 0) (a : Option (List ℕ) × calls.Writes) → are [] → WritesLines are a a
none_written are a so = record {
  lines = [];
  each = All-nil IsNotice;
  so = so;
  pieces = [];
  begun = tt;
  writes = Appends-nil a.0;
  no_fewer = omega arith;
  whole = inr (refl, λ before. before);
}

-- lines, and then others
pub written_then : (one two both : List (List ℕ) → Type 0) (a b c : Option (List ℕ) × calls.Writes)
    → ((xs ys : List (List ℕ)) → one xs → two ys → both (xs ++ ys)) → WritesLines one a b → WritesLines two b c
    → WritesLines both a c
written_then one two both a b c join xs ys = record {
  lines = xs.lines ++ ys.lines;
  each = All-append IsNotice xs.lines ys.lines xs.each ys.each;
  so = join xs.lines ys.lines xs.so ys.so;
  pieces = xs.pieces ++ ys.pieces;
  begun = begun_both xs.pieces ys.pieces xs.lines ys.lines xs.begun ys.begun;
  writes = subst (Appends a.0 c.0) (sym (joined_both xs.pieces ys.pieces))
      (Appends-trans a.0 b.0 c.0 (joined xs.pieces) (joined ys.pieces) xs.writes ys.writes);
  no_fewer = omega (arith, xs.no_fewer, ys.no_fewer);
  whole = elim xs.whole [
    | inl failed ↦ inl (omega (arith, failed, ys.no_fewer))
    | inr first ↦ elim ys.whole [
      | inl failed ↦ inl (omega (arith, xs.no_fewer, failed))
      | inr next ↦ inr (
        ap (λ p. p ++ ys.pieces) first.0 ∙ ap (λ p. xs.lines ++ p) next.0,
        λ before. next.1 (first.1 before),
      )
    ]
  ];
}

-- what is so of the lines may be said otherwise
pub written_so : (one two : List (List ℕ) → Type 0) (a b : Option (List ℕ) × calls.Writes)
    → ((lines : List (List ℕ)) → one lines → two lines) → WritesLines one a b → WritesLines two a b
written_so one two a b other first = record {
  lines = first.lines;
  each = first.each;
  so = other first.lines first.so;
  pieces = first.pieces;
  begun = first.begun;
  writes = first.writes;
  no_fewer = first.no_fewer;
  whole = first.whole;
}

-- ---- no line begins with a `g`

-- No line of the text begins with a `g`. The flag says whether a line begins with the text.
abbrev Calm : Bool → List ℕ → Type 0
Calm begins [] = Unit {0}
Calm begins (b ∷ bs) = (IsTrue begins → b ≢ 103) × Calm (nat_eq b line_end) bs

calm_any : (begins : Bool) (text : List ℕ) → Calm true text → Calm begins text
calm_any begins [] calm = tt
calm_any begins (b ∷ bs) calm = (λ is. calm.0 refl, calm.1)

calm_then : (begins : Bool) (xs ys : List ℕ) → Calm begins xs → Calm true ys → Calm begins (xs ++ ys)
calm_then begins [] ys calm next = calm_any begins ys next
calm_then begins (x ∷ xs) ys calm next = (calm.0, calm_then (nat_eq x line_end) xs ys calm.1 next)

calm_front : (begins : Bool) (xs ys : List ℕ) → Calm begins (xs ++ ys) → Calm begins xs
calm_front begins [] ys calm = tt
calm_front begins (x ∷ xs) ys calm = (calm.0, calm_front (nat_eq x line_end) xs ys calm.1)

calm_behind : (begins : Bool) (xs ys : List ℕ) → Calm begins (xs ++ line_end ∷ ys) → Calm true ys
calm_behind begins [] ys calm = calm.1
calm_behind begins (x ∷ xs) ys calm = calm_behind (nat_eq x line_end) xs ys calm.1

-- ---- a line of an occasion is calm

on_false : (b : Bool) (text : List ℕ) → not b ≡ true → Calm false text → Calm b text
on_false true text never calm = absurd (false≢true never)
on_false false text is calm = calm

-- before a calm text, bytes that end no line
calm_within : (word rest : List ℕ) → list_all is_no_end word ≡ true → Calm false rest → Calm false (word ++ rest)
calm_within [] rest no_end calm = calm
calm_within (b ∷ bs) rest no_end calm =
    let parts = and_parts (is_no_end b) (list_all is_no_end bs) no_end in (
      λ never. absurd (false≢true never),
      on_false (nat_eq b line_end) (bs ++ rest) parts.0 (calm_within bs rest parts.1 calm),
    )

calm_line : (b : ℕ) (word rest : List ℕ) → nat_eq b 103 ≡ false → is_no_end b ≡ true → list_all is_no_end word ≡ true
    → Calm false rest → Calm true (b ∷ (word ++ rest))
calm_line b word rest other no_end all calm = (
  λ is e. false≢true (sym other ∙ eq-eqb b 103 e),
  on_false (nat_eq b line_end) (word ++ rest) no_end (calm_within word rest all calm),
)

-- ---- the words end no line

no_end_name : (has : Bool) (name : List ℕ) → list_all is_no_end (name_if has name) ≡ true
no_end_name true name = plain_text name
no_end_name false name = refl

no_end_group : (told : Answer) (group : Option (List ℕ)) → list_all is_no_end (behind_team told group) ≡ true
no_end_group told None = refl
no_end_group told (Some group) =
    no_end_both (codes " ") (name_if (has_group told) group) refl (no_end_name (has_group told) group)

no_end_right : (right : Right) → list_all is_no_end (right_words right) ≡ true
no_end_right Reads = refl
no_end_right Publishes = refl

no_end_shown : (command : RegistryCommand) (told : Answer) → list_all is_no_end (shown_words command told) ≡ true
no_end_shown (TeamAdd name group) told =
    let named = name_if (has_shelf told) name.now in
    let behind = behind_team told (option_copied group) in
    no_end_both (codes "team-add ") (named ++ behind) refl
    (no_end_both named behind (no_end_name (has_shelf told) name.now) (no_end_group told (option_copied group)))
no_end_shown (GroupAdd name) told =
    no_end_both (codes "group-add ") (name_if (has_shelf told) name.now) refl (no_end_name (has_shelf told) name.now)
no_end_shown (KeyAdd shelf key right) told =
    let named = name_if (has_shelf told) shelf.now in
    let behind = right_words right ++ fingerprint key.now in
    no_end_both (codes "key-add ") (named ++ behind) refl
    (no_end_both named behind (no_end_name (has_shelf told) shelf.now)
    (no_end_both (right_words right) (fingerprint key.now) (no_end_right right) (fingerprint_no_end key.now)))
no_end_shown (KeyRevoke key) told =
    no_end_both (codes "key-revoke ") (fingerprint key.now) refl (fingerprint_no_end key.now)
no_end_shown (KeysRevoke shelf) told =
    no_end_both (codes "keys-revoke ") (name_if (has_shelf told) shelf.now) refl
    (no_end_name (has_shelf told) shelf.now)

no_end_version : (verb path version : List ℕ) → list_all is_no_end verb ≡ true
    → list_all is_no_end (verb ++ (plain path ++ (codes " " ++ plain version))) ≡ true
no_end_version verb path version is =
    no_end_both verb (plain path ++ (codes " " ++ plain version)) is
    (no_end_both (plain path) (codes " " ++ plain version) (plain_text path)
    (no_end_both (codes " ") (plain version) refl (plain_text version)))

no_end_errand : (asked : StoreCall) → list_all is_no_end (errand_words asked) ≡ true
no_end_errand errand.Key = refl
no_end_errand (errand.Fetch path) = no_end_both (codes "fetch ") (plain path.now) refl (plain_text path.now)
no_end_errand (errand.FetchVersion path version) =
    no_end_version (codes "fetch ") path.now (version_text version.now) refl
no_end_errand (errand.Publish path) = no_end_both (codes "publish ") (plain path.now) refl (plain_text path.now)
no_end_errand (errand.PublishVersion path version) =
    no_end_version (codes "publish ") path.now (version_text version.now) refl
no_end_errand errand.Modules = refl

calm_outcome : (told : Outcome) → Calm false (outcome.line_of told)
calm_outcome told = calm_within (outcome.word_of told) (line_end ∷ []) (word told)
    (λ never. absurd (false≢true never), tt)
  where
    word : (told : Outcome) → list_all is_no_end (outcome.word_of told) ≡ true
    word (case.RegistryReply registered.Done) = refl
    word (case.RegistryReply registered.Name) = refl
    word (case.RegistryReply registered.Taken) = refl
    word (case.RegistryReply registered.NoTeam) = refl
    word (case.RegistryReply registered.NoGroup) = refl
    word (case.RegistryReply registered.NoKey) = refl
    word (case.Failed fault.Device) = refl
    word (case.Failed fault.Memory) = refl
    word case.NotEmpty = refl
    word case.Busy = refl
    word case.Ended = refl
    word case.Stopping = refl
    word case.Bad = refl

calm_told : (text : List ℕ) (told : Outcome) → list_all is_no_end text ≡ true
    → Calm false (text ++ (codes ": " ++ outcome.line_of told))
calm_told text told is =
    calm_within text (codes ": " ++ outcome.line_of told) is
    (calm_within (codes ": ") (outcome.line_of told) refl (calm_outcome told))

calm_opened : (file : List ℕ) (n : ℕ)
    → Calm false (plain file ++ (codes ": " ++ (decimal n ++ codes " versions\n")))
calm_opened file n =
    calm_within (plain file) (codes ": " ++ (decimal n ++ codes " versions\n")) (plain_text file)
    (calm_within (codes ": ") (decimal n ++ codes " versions\n") refl
    (calm_within (decimal n) (codes " versions\n") (decimal_no_end n)
    (calm_within (codes " versions") (codes "\n") refl (λ never. absurd (false≢true never), tt))))

calm_end : (text : List ℕ) → Calm false (plain text ++ codes "\n")
calm_end text = calm_within (plain text) (codes "\n") (plain_text text) (λ never. absurd (false≢true never), tt)

calm_about : (about : Occasion) → Calm true (line_of about)
calm_about (Opened file n) = calm_line 111 (codes "pened: ") _ refl refl refl (calm_opened file n)
calm_about (Uncounted file met) =
    calm_line 111 (codes "pened: ") _ refl refl refl (calm_told (plain file) (case.Failed met) (plain_text file))
calm_about (Ordered command told) =
    calm_line 111 (codes "rder: ") _ refl refl refl
    (calm_told (shown_words command told) (outcome_of told) (no_end_shown command told))
calm_about (Copied path told) =
    let words = codes "copy " ++ plain path in
    calm_line 111 (codes "rder: ") (words ++ (codes ": " ++ outcome.line_of (outcome_of_copy told)))
    refl refl refl
    (calm_told words (outcome_of_copy told) (no_end_both (codes "copy ") (plain path) refl (plain_text path)))
calm_about (Catalogued key told) =
    let words = codes "catalog " ++ fingerprint key in
    calm_line 111 (codes "rder: ") (words ++ (codes ": " ++ outcome.line_of (outcome_of_catalog told)))
    refl refl refl
    (calm_told words (outcome_of_catalog told)
    (no_end_both (codes "catalog ") (fingerprint key) refl (fingerprint_no_end key)))
calm_about (Answered told) = calm_line 111 (codes "rder: ") _ refl refl refl (calm_outcome told)
calm_about (Reserved told) = calm_line 114 (codes "eserve: ") _ refl refl refl (calm_outcome told)
calm_about (Met asked met) =
    calm_line 102 (codes "ault: ") _ refl refl refl
    (calm_told (errand_words asked) (case.Failed met) (no_end_errand asked))
calm_about (Ended file) = calm_line 101 (codes "nded: ") _ refl refl refl (calm_end file)
calm_about Lost =
    calm_line 108 (codes "ost: memory") (codes "\n") refl refl refl (λ never. absurd (false≢true never), tt)

-- ---- all pieces

calm_pieces : (pieces : List (List ℕ)) → All IsPiece pieces → ¬ ¬ Calm true (joined pieces)
calm_pieces [] each none = none tt
calm_pieces (piece ∷ pieces) each none =
    let first = All-head IsPiece piece pieces each in
    absurd (∥∥₁_elim first.1 ⊥_prop (λ it.
    let calm = calm_front true piece first.0 (subst (Calm true) (sym it.1) (calm_about it.0)) in
    calm_pieces pieces (All-tail IsPiece piece pieces each)
    (λ more. none (calm_then true piece (joined pieces) calm more))))

no_refusal_begins : (rest : List ℕ) → Calm true (codes "goshelf:" ++ rest) → ⊥
no_refusal_begins rest calm = calm.0 refl refl

begins_none : (text front rest : List ℕ) → Calm true text → EndsLine front → text ≡ front ++ (codes "goshelf:" ++ rest)
    → ⊥
begins_none text front rest calm (inl none) is =
    no_refusal_begins rest (subst (Calm true) (is ∙ ap (λ f. f ++ (codes "goshelf:" ++ rest)) none) calm)
begins_none text front rest calm (inr (before, ends)) is =
    no_refusal_begins rest (calm_behind true before (codes "goshelf:" ++ rest)
    (subst (Calm true) (is ∙ ap (λ f. f ++ (codes "goshelf:" ++ rest)) ends
    ∙ append_assoc before (line_end ∷ []) (codes "goshelf:" ++ rest)) calm))

pub none_is_refusal : NoneIsRefusal
none_is_refusal text are front rest ends is =
    calm_pieces are.pieces are.each
    (λ calm. begins_none text front rest (subst (Calm true) (sym are.is) calm) ends is)
