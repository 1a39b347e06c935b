-- A message that has begun.
use Rattle.std.proofs.Common.{◌≡◌, ℕ, ◌+◌, ◌≤◌, ◌<◌, inr, Option, subst, List, ◌++◌, length, take, drop, ◌-◌, sym, ap}
use Rattle.std.proofs.Common.{◌∙◌, arith, length-append, length-drop}
use Rattle.std.proofs.lemmas.List.{drop-append-le, drop-drop, drop-take, take_all}
use Rattle.std.specs.List.{slice_range}
use Rattle.httparse.specs.declared.spans.HeaderSpan.{HeaderSpan}
use Rattle.framing.specs.Framing.{Framing, IsUnfinished, HasBegun, Awaits}
use Rattle.framing.specs.declared.framer.Bad.{Bad}
use Rattle.framing.specs.Values.{IsHeadAt}
use Rattle.framing.specs.declared.head.Head.{Head}
use Rattle.framing.proofs.HeadLemmas.{BeginsWith-append}
use Rattle.framing.proofs.StreamLemmas.{unfinished}

-- a message that has begun has still begun when more bytes come
pub HasBegun-append : (bytes more : List ℕ) (wanted : ℕ) → HasBegun bytes wanted → HasBegun (bytes ++ more) wanted
HasBegun-append bytes more wanted begun =
    let sum = begun.sum in
    record {
      head = begun.head;
      body = begun.body;
      rest = begun.rest ++ more;
      begins = BeginsWith-append bytes begun.head begun.body begun.rest more begun.begins;
      small = begun.small;
      sum = omega (arith, sum, length-append begun.rest more, length-append bytes more);
    }

-- it is not whole yet
pub unfinished_begun : (bytes : List ℕ) (wanted : ℕ) → Awaits bytes wanted → length bytes < wanted → IsUnfinished bytes
unfinished_begun bytes wanted awaits short =
    let some : 0 < wanted = omega (arith, short) in
    let begun = awaits some in
    let sum = begun.sum in
    unfinished bytes (inr (begun.head, begun.body, begun.rest, begun.begins, begun.small, omega (arith, sum, short)))

-- a good head at the front begins one
pub begun_at : (bytes : List ℕ) (headers : List HeaderSpan) (found : Head) → IsHeadAt bytes headers found
    → Awaits bytes (found.spans.len + found.body)
begun_at bytes headers found at some =
    let fits = at.within.section.len_fits in
    record {
      head = at.head;
      body = found.body;
      rest = drop found.spans.len bytes;
      begins = record { reads = at.at.reads; good = at.good };
      small = at.small;
      sum = omega (arith, fits, length-drop found.spans.len bytes);
    }

-- what is held once more bytes came
pub held_more : (start : ℕ) (old new more : List ℕ) → start ≤ length old → new ≡ old ++ more
    → drop start new ≡ drop start old ++ more
held_more start old new more fits is = ap (drop start) is ∙ drop-append-le start old more fits

-- the slice from start to the end
pub slice_to_end : (start : ℕ) (xs : List ℕ) → take (length xs - start) (drop start xs) ≡ drop start xs
slice_to_end start xs = ap (λ n. take n (drop start xs)) (sym (length-drop start xs))
    ∙ take_all _ (drop start xs) (omega arith)

-- fewer bytes than are missing of a message that has begun leave it unfinished
pub unfinished_more : (start wanted : ℕ) (items held more : List ℕ) → drop start items ≡ held
    → Awaits (drop start items) wanted
    → length more < wanted - (length items - start) → IsUnfinished (held ++ more)
unfinished_more start wanted items held more is awaits few =
    let some : 0 < wanted = omega arith in
    subst (λ (bytes : List ℕ). IsUnfinished (bytes ++ more)) is
    (unfinished_begun (drop start items ++ more) wanted
    (λ _. HasBegun-append (drop start items) more wanted (awaits some))
    (omega (arith, length-append (drop start items) more, length-drop start items)))

-- two framings with equal bytes and equal failures are equal
pub same_framing : (held others : List ℕ) (f g : Option Bad) → held ≡ others → f ≡ g
    → let one : Framing = record { held = held; failure = f } in let two : Framing =
    record { held = others; failure = g } in one ≡ two
same_framing held others f g p q = λ i. record { held = p i; failure = q i }

-- the bytes held after the first `n`
pub left_behind : (start n at : ℕ) (items held : List ℕ) → drop start items ≡ held → at ≡ start + n
    → drop at items ≡ drop n held
left_behind start n at items held is here =
    ap (λ (k : ℕ). drop k items) here ∙ sym (drop-drop n start items) ∙ ap (drop n) is

-- the body behind a head of the bytes held
pub body_behind : (start head body at : ℕ) (items held : List ℕ) → drop start items ≡ held → at ≡ start + head
    → drop at (take (at + body) items) ≡ slice_range held head (head + body)
body_behind start head body at items held is here =
    let count : body ≡ (head + body) - head = omega arith in
    drop-take at body items ∙ ap (take body) (left_behind start head at items held is here)
    ∙ ap (λ (n : ℕ). take n (drop head held)) count
