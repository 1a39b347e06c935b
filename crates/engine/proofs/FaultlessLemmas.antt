-- The answered events that met no fault, by their events and their replies.
use Rattle.std.proofs.Common.{◌≡◌, List, [], ◌∷◌, Bool, true, false, refl, ◌∙◌, sym, ap}
use Rattle.std.specs.Prelude.{ℕ, map}
use Rattle.world.specs.World.{World}
use Rattle.machine.specs.declared.request.Event.{Event}
use Rattle.machine.specs.declared.reply.Reply.{Reply}
use Rattle.machine.specs.declared.reply.Answer.{Answer}
use Rattle.machine.specs.declared.reply.Answer.TheVariants.{Replied, Failed}
use Rattle.machine.specs.Machine.{Run, replies, replies_of, answered, after, after_all, reply_to}
use Rattle.machine.specs.Isolation.{marked}
use Rattle.engine.specs.AnsweredEvent.{EventOrigin, AnsweredEvent, event_in, origin_of, event_at, answer_at, faultless}

pub events_are : (xs : List AnsweredEvent) → map event_at xs ≡ map event_in (map origin_of xs)
events_are [] = refl
events_are (x ∷ xs) = ap (λ es. event_at x ∷ es) (events_are xs)

abbrev EventsAgree : List AnsweredEvent → Type 0
EventsAgree xs = answered (map event_at xs) (map answer_at xs) ≡ map event_at (faultless xs)

pub faultless_events : (xs : List AnsweredEvent) → EventsAgree xs
faultless_events [] = refl
faultless_events (x ∷ xs) = go x.answer refl (faultless_events xs)
  where
    go : (a : Answer) → x.answer ≡ a → EventsAgree xs → EventsAgree (x ∷ xs)
    go (Failed fault) is rest = rw is rest
    go (Replied r) is rest = rw is (ap (λ es. event_at x ∷ es) rest)

-- ---- the marked events

pub marked_events : (marks : List Bool) (cs : List EventOrigin)
    → marked marks (map event_in cs) ≡ map event_in (marked marks cs)
marked_events [] cs = refl
marked_events (true ∷ marks) [] = refl
marked_events (false ∷ marks) [] = refl
marked_events (true ∷ marks) (c ∷ cs) = ap (λ es. event_in c ∷ es) (marked_events marks cs)
marked_events (false ∷ marks) (c ∷ cs) = marked_events marks cs

-- ---- the texts for what came, by the answers

module _ (text_for : EventOrigin → Answer → List ℕ) where
  abbrev pub text_to : AnsweredEvent → List ℕ
  text_to h = text_for h.origin h.answer

  -- the texts for what came, by the replies
  abbrev pub texts : List EventOrigin → List Reply → List (List ℕ)
  texts (c ∷ cs) (r ∷ rs) = text_for c (Replied r) ∷ texts cs rs
  texts cs rs = []

  abbrev TextsAgree : List AnsweredEvent → Type 0
  TextsAgree xs = map text_to (faultless xs) ≡ texts (map origin_of (faultless xs)) (replies_of (map answer_at xs))

  pub faultless_texts : (xs : List AnsweredEvent) → TextsAgree xs
  faultless_texts [] = refl
  faultless_texts (x ∷ xs) = go x.answer refl (faultless_texts xs)
    where
      go : (a : Answer) → x.answer ≡ a → TextsAgree xs → TextsAgree (x ∷ xs)
      go (Failed fault) is rest = rw is rest
      go (Replied r) is rest = rw is (ap (λ ts. text_for x.origin (Replied r) ∷ ts) rest)

  none : (cs : List EventOrigin) → texts cs [] ≡ []
  none [] = refl
  none (c ∷ cs) = refl

  pub marked_texts : (marks : List Bool) (cs : List EventOrigin) (rs : List Reply)
      → marked marks (texts cs rs) ≡ texts (marked marks cs) (marked marks rs)
  marked_texts [] cs rs = refl
  marked_texts (true ∷ marks) [] rs = refl
  marked_texts (false ∷ marks) [] rs = refl
  marked_texts (true ∷ marks) (c ∷ cs) [] = refl
  marked_texts (false ∷ marks) (c ∷ cs) [] = sym (none (marked marks cs))
  marked_texts (true ∷ marks) (c ∷ cs) (r ∷ rs) = ap (λ ts. text_for c (Replied r) ∷ ts) (marked_texts marks cs rs)
  marked_texts (false ∷ marks) (c ∷ cs) (r ∷ rs) = marked_texts marks cs rs

-- ---- a run, by the events that were answered in it

-- the replies are those of the machine to these events, and the run ends in the world after them
pub record IsExact (w new : World) (es : List Event) (rs : List Reply) : Type 0 where
  pub replies_are : rs ≡ replies w es
  pub ends : new ≡ after_all w es

pub exact : (w new : World) (es : List Event) (answers : List Answer) → Run w es answers new
    → IsExact w new (answered es answers) (replies_of answers)
exact w new [] [] run = record { replies_are = refl; ends = run }
exact w new [] (a ∷ answers) run = absurd run
exact w new (e ∷ es) [] run = absurd run
exact w new (e ∷ es) (Failed fault ∷ answers) run = exact w new es answers run
exact w new (e ∷ es) (Replied r ∷ answers) run =
    let rest = exact (after w e) new es answers run.1 in
    record {
      replies_are = ap (λ a. a ∷ replies_of answers) run.0
          ∙ ap (λ rs. reply_to w e ∷ rs) rest.replies_are;
      ends = rest.ends;
    }
