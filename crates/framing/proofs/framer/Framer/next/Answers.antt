use Rattle.std.proofs.Common.{Result, Ok, Err, OnErr, rules, ℕ, ◌+◌, ◌<◌, List, length, drop, refl, sym, ap, ◌∙◌, subst}
use Rattle.std.proofs.Common.{arith}
use Rattle.framing.specs.Message.{ReadsMessage}
use Rattle.framing.specs.Framing.{Framing, IsUnfinished, view, with_body}
use Rattle.framing.specs.Values.{IsHeadAt}
use Rattle.std.specs.List.{slice_range}
use Rattle.framing.proofs.FramingLemmas.{whole_message}
use Rattle.framing.proofs.BegunLemmas.{unfinished_begun, begun_at, slice_to_end}
use Rattle.framing.proofs.framer.Framer.next.Goals as goal

pub returns-then-held-self-clause-answer : goal.returns-then-held-self-clause-answer
returns-then-held-self-clause-answer c =
    let held = ap (λ (f : Framing). f.held) c.self.view_is in
    let is = slice_to_end c.self.inside.start c.deref.result.now
    ∙ ap (λ (xs : List ℕ). drop c.self.inside.start xs) c.deref.ensures.value in
    let short : length (drop c.self.inside.start c.self.inside.bytes.items) < c.self.inside.wanted =
    omega (arith, c.if-held-self.true, ap length is) in (
      subst IsUnfinished held (unfinished_begun _ c.self.inside.wanted c.self.invariant.2 short),
      refl,
    )

pub returns-then-held-len-clause-answer : goal.returns-then-held-len-clause-answer
returns-then-held-len-clause-answer c =
    let held = slice_to_end c.self-2.inside.start c.deref-2.result.now
    ∙ ap (λ (xs : List ℕ). drop c.self-2.inside.start xs) c.deref-2.ensures.value
    ∙ ap (λ (f : Framing). f.held) (c.self-2.view_is ∙ c.stays_open.ensures.same) in
    let at : IsHeadAt c.args.self.now.held c.front_of.new.headers c.in-Begun.head =
    subst (λ (bytes : List ℕ). IsHeadAt bytes c.front_of.new.headers c.in-Begun.head) held c.in-Begun.ensures in
    let short : length c.args.self.now.held < c.in-Begun.head.spans.len + c.in-Begun.head.body =
    omega (arith, c.if-held-len.true, ap length held) in (
      unfinished_begun c.args.self.now.held _ (begun_at _ _ _ at) short,
      c.self-2.view_is ∙ c.stays_open.ensures.same,
    )

pub returns-in_ok-body-in-Begun-clause-answer : goal.returns-in_ok-body-in-Begun-clause-answer
returns-in_ok-body-in-Begun-clause-answer c =
    let old = c.stays_open.new.self in
    let held = slice_to_end c.self-2.inside.start c.deref-2.result.now
    ∙ ap (λ (xs : List ℕ). drop c.self-2.inside.start xs) c.deref-2.ensures.value
    ∙ ap (λ (f : Framing). f.held) c.self-2.view_is in
    let head = c.in-Begun.head in
    let message = c.in_ok-message-in-Begun.message in
    let len = head.spans.len + head.body in
    let reads : ReadsMessage old.held (with_body (slice_range old.held head.spans.len len) (view message))
    (drop len old.held) =
    subst (λ (bytes : List ℕ).
    ReadsMessage bytes (with_body (slice_range bytes head.spans.len len) (view message)) (drop len bytes)) held
    c.in_ok-message-in-Begun.ensures in
    let whole : ReadsMessage old.held (with_body c.in_ok-body-in-Begun.body.items (view message)) (drop len old.held) =
    subst (λ (body : List ℕ). ReadsMessage old.held (with_body body (view message)) (drop len old.held))
    (sym c.in_ok-body-in-Begun.ensures.body) reads in
    let left : ReadsMessage c.args.self.now.held (with_body c.in_ok-body-in-Begun.body.items (view message))
    (drop len old.held) =
    subst (λ (f : Framing). ReadsMessage f.held (with_body c.in_ok-body-in-Begun.body.items (view message))
    (drop len old.held)) c.stays_open.ensures.same whole in
    rw c.in_ok-body-in-Begun.ensures.rest (left, search (c, rules))

on_err : {A E : Type 0} (r : Result A E) (P : Type 0) → P → OnErr r P
on_err (Ok x) P p = tt
on_err (Err e) P p = p

pub returns-in_err-message-in-Begun-clause-whole : goal.returns-in_err-message-in-Begun-clause-whole
returns-in_err-message-in-Begun-clause-whole c =
    let held = slice_to_end c.self-2.inside.start c.deref-2.result.now
    ∙ ap (λ (xs : List ℕ). drop c.self-2.inside.start xs) c.deref-2.ensures.value
    ∙ ap (λ (f : Framing). f.held) (c.self-2.view_is ∙ c.stays_open.ensures.same) in
    let at : IsHeadAt c.args.self.now.held c.front_of.new.headers c.in-Begun.head =
    subst (λ (bytes : List ℕ). IsHeadAt bytes c.front_of.new.headers c.in-Begun.head) held c.in-Begun.ensures in
    on_err _ _ (whole_message c.args.self.now.held c.front_of.new.headers
    c.in-Begun.head at (omega (arith, c.if-held-len.false, ap length held)))

pub returns-in_err-body-in-Begun-clause-whole : goal.returns-in_err-body-in-Begun-clause-whole
returns-in_err-body-in-Begun-clause-whole c =
    let held = slice_to_end c.self-2.inside.start c.deref-2.result.now
    ∙ ap (λ (xs : List ℕ). drop c.self-2.inside.start xs) c.deref-2.ensures.value
    ∙ ap (λ (f : Framing). f.held) (c.self-2.view_is ∙ c.stays_open.ensures.same) in
    let at : IsHeadAt c.args.self.now.held c.front_of.new.headers c.in-Begun.head =
    subst (λ (bytes : List ℕ). IsHeadAt bytes c.front_of.new.headers c.in-Begun.head) held c.in-Begun.ensures in
    on_err _ _ (whole_message c.args.self.now.held c.front_of.new.headers
    c.in-Begun.head at (omega (arith, c.if-held-len.false, ap length held)))
