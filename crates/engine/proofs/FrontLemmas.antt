-- The front of a run, and the front of what remains of it.
use Rattle.std.proofs.Common.{◌≡◌, ◌⊎◌, ℕ, List, [], ◌∷◌, ◌++◌, Bool, true, false, refl, ◌∙◌, sym, ap, inl, inr}
use Rattle.std.specs.Prelude.{map}
use Rattle.framing.specs.Message.{MessageView}
use Rattle.world.specs.World.{World}
use Rattle.machine.specs.declared.reply.Answer.TheVariants.{Replied, Failed}
use Rattle.machine.specs.Machine.{Run, after}
use Rattle.machine.specs.Isolation.{is_remaining, remaining, marked}
use Rattle.engine.specs.Request as spec
use Rattle.engine.specs.Exchange.{Exchange, message_of, event_of, answer_of}
use Rattle.engine.specs.Reply.{text_of}
use Rattle.engine.specs.Calls.{NoneUnavailable}
use Rattle.engine.proofs.PurgedLemmas.{remaining_messages, remaining_texts}

-- the front of a run is a run
pub run_front : (w new : World) (xs more : List Exchange)
    → Run w (map event_of (xs ++ more)) (map answer_of (xs ++ more)) new
    → (mid : World) × Run w (map event_of xs) (map answer_of xs) mid
run_front w new [] more run = (w, refl)
run_front w new (x ∷ xs) more run =
    elim (answer_of x) as (λ a. Run w (event_of x ∷ map event_of (xs ++ more)) (a ∷ map answer_of (xs ++ more)) new
    → (mid : World) × Run w (event_of x ∷ map event_of xs) (a ∷ map answer_of xs) mid) [
      | Replied r ↦ λ so. let front = run_front (after w (event_of x)) new xs more so.1 in (front.0, (so.0, front.1))
      | Failed fault ↦ λ so. let front = run_front w new xs more so in (front.0, front.1)
    ] run

pub none_front : (texts more : List (List ℕ)) → NoneUnavailable (texts ++ more) → NoneUnavailable texts
none_front [] more none = tt
none_front (t ∷ texts) more none = (none.0, none_front texts more none.1)

pub texts_front : (xs more : List Exchange) → map text_of (xs ++ more) ≡ map text_of xs ++ map text_of more
texts_front [] more = refl
texts_front (x ∷ xs) more = ap (λ texts. text_of x ∷ texts) (texts_front xs more)

-- ---- what remains

marked_nothing : {A : Type 0} (marks : List Bool) → marked {A = A} marks [] ≡ []
marked_nothing [] = refl
marked_nothing (true ∷ marks) = refl
marked_nothing (false ∷ marks) = refl

-- the marks of more messages leave the same texts of the first ones
pub marks_front : (w : World) (ss : List (List ℕ)) (xs : List Exchange) (left : List MessageView)
    → marked (remaining w ss (map spec.event_of_message (map message_of xs ++ left))) (map text_of xs)
    ≡ remaining_texts w ss xs
marks_front w ss [] left = marked_nothing (remaining w ss (map spec.event_of_message left))
marks_front w ss (x ∷ xs) left =
    let next = after w (event_of x) in
    elim (is_remaining w ss (event_of x))
    as (λ b. marked (b ∷ remaining next ss (map spec.event_of_message (map message_of xs ++ left)))
    (text_of x ∷ map text_of xs)
    ≡ marked (b ∷ remaining next ss (map event_of xs)) (text_of x ∷ map text_of xs)) [
      | true ↦ ap (λ texts. text_of x ∷ texts) (marks_front next ss xs left)
      | false ↦ marks_front next ss xs left
    ]

-- the texts remaining of more exchanges begin with those of the first ones
pub remaining_front : (w : World) (ss : List (List ℕ)) (xs ys : List Exchange)
    → (others : List (List ℕ)) × (remaining_texts w ss (xs ++ ys) ≡ remaining_texts w ss xs ++ others)
remaining_front w ss [] ys = (remaining_texts w ss ys, refl)
remaining_front w ss (x ∷ xs) ys =
    let next = after w (event_of x) in
    let front = remaining_front next ss xs ys in (
      front.0,
      elim (is_remaining w ss (event_of x))
          as (λ b. marked (b ∷ remaining next ss (map event_of (xs ++ ys))) (text_of x ∷ map text_of (xs ++ ys))
          ≡ marked (b ∷ remaining next ss (map event_of xs)) (text_of x ∷ map text_of xs) ++ front.0) [
            | true ↦ ap (λ texts. text_of x ∷ texts) front.1
            | false ↦ front.1
          ],
    )

-- ---- if one ends before the other

-- the second list begins with all that remains of the first
abbrev pub GoesAsFar : World → List (List ℕ) → List Exchange → List Exchange → Type 0
GoesAsFar w ss xs ys = (front more : List Exchange) × (ys ≡ front ++ more)
    × (map message_of front ≡ remaining_messages w ss xs)

-- the second list is what remains of a front of the first
abbrev pub EndsBefore : World → List (List ℕ) → List Exchange → List Exchange → Type 0
EndsBefore w ss xs ys = (front more : List Exchange) × (xs ≡ front ++ more)
    × (map message_of ys ≡ remaining_messages w ss front)

-- the remaining messages among these, if the mark of the first is b
abbrev headed : World → List (List ℕ) → Exchange → List Exchange → Bool → List MessageView
headed w ss x xs b = marked (b ∷ remaining (after w (event_of x)) ss (map event_of xs))
    (message_of x ∷ map message_of xs)

-- of the exchanges with a stream and those with what remains of it, one list ends before the other or both end together
pub either_ends : (w : World) (ss : List (List ℕ)) (xs ys : List Exchange) (left rest : List MessageView)
    → marked (remaining w ss (map spec.event_of_message (map message_of xs ++ left))) (map message_of xs ++ left)
    ≡ map message_of ys ++ rest
    → GoesAsFar w ss xs ys ⊎ EndsBefore w ss xs ys
either_ends w ss [] ys left rest same = inl ([], ys, refl, refl)
either_ends w ss (x ∷ xs) [] left rest same = inr ([], x ∷ xs, refl, refl)
either_ends w ss (x ∷ xs) (y ∷ ys) left rest same =
    let next = after w (event_of x) in
    let ms = map message_of xs ++ left in
    elim (is_remaining w ss (event_of x))
    as (λ b. is_remaining w ss (event_of x) ≡ b
    → marked (b ∷ remaining next ss (map spec.event_of_message ms)) (message_of x ∷ ms) ≡ message_of y
    ∷ (map message_of ys ++ rest)
    → GoesAsFar w ss (x ∷ xs) (y ∷ ys) ⊎ EndsBefore w ss (x ∷ xs) (y ∷ ys)) [
      | true ↦ λ near is.
          let first : message_of y ≡ message_of x = cc is in
          let others : marked (remaining next ss (map spec.event_of_message ms)) ms ≡ map message_of ys ++ rest =
          cc is in
          elim (either_ends next ss xs ys left rest others) [
            | inl h ↦ inl (y ∷ h.0, h.1, ap (λ l. y ∷ l) h.2, (λ i. first i ∷ h.3 i) ∙ sym (ap (headed w ss x xs) near))
            | inr h ↦ inr (
              x ∷ h.0,
              h.1,
              ap (λ l. x ∷ l) h.2,
              (λ i. first i ∷ h.3 i)
                  ∙ sym (ap (headed w ss x h.0) near),
            )
          ]
      | false ↦ λ far is. elim (either_ends next ss xs (y ∷ ys) left rest is) [
        | inl h ↦ inl (h.0, h.1, h.2, h.3 ∙ sym (ap (headed w ss x xs) far))
        | inr h ↦ inr (x ∷ h.0, h.1, ap (λ l. x ∷ l) h.2, h.3 ∙ sym (ap (headed w ss x h.0) far))
      ]
    ] refl same
