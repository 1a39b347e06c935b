-- Peers and operators learn nothing about the messages of others, because the callers of a store don't.
use Rattle.std.proofs.Common.{◌≡◌, ℕ, List, [], ◌∷◌, Ok, Err, refl, ◌∙◌, sym, ap, subst}
use Rattle.std.specs.Prelude.{map}
use Rattle.world.specs.World.{World, IsWorld, chain}
use Rattle.world.specs.Store.{Shown}
use Rattle.machine.specs.declared.reply.Answer.{Answer}
use Rattle.machine.specs.declared.reply.Answer.TheVariants.{Replied, Failed}
use Rattle.machine.specs.declared.reply.Reply.TheVariants.{Registry}
use Rattle.machine.specs.Isolation.{remaining, marked}
use Rattle.machine.specs.Machine.{Run}
use Rattle.engine.specs.AnsweredEvent as by_event
use Rattle.engine.specs.AnsweredEvent.{EventOrigin, Message, Command, AnsweredEvent, origin_of, event_at, answer_at}
use Rattle.engine.specs.Reply.{bytes_of}
use Rattle.engine.proofs.HeadlineLemmas.{alike_by}
use Rattle.engine.proofs.FaultlessLemmas.{text_to}
use Rattle.control.specs.Isolated.{origin_at, text_at, if_faultless, faultless, TasksAreAnsweredAlike}
use Rattle.control.specs.Outcome.{outcome_of}
use Rattle.orders.specs.Outcome.{line_of}
use Rattle.control.specs.Tasks.{Task, Asked, Ordered, answered_of, task_event, task_answer, world_at}

-- ---- what is written, by the machine's answer

abbrev line_for : Answer → List ℕ
line_for (Replied (Registry r)) = line_of (outcome_of (Ok r))
line_for (Replied r) = []
line_for (Failed fault) = line_of (outcome_of (Err fault))

abbrev text_for : EventOrigin → Answer → List ℕ
text_for (Message m) a = bytes_of m a
text_for (Command e) a = line_for a

text_is : (t : Task) → text_to text_for (answered_of t) ≡ text_at t
text_is (Asked x) = refl
text_is (Ordered command (Ok r)) = refl
text_is (Ordered command (Err fault)) = refl

-- ---- tasks as answered events

fused : {X : Type 0} (f : AnsweredEvent → X) (g : Task → X) → ((t : Task) → f (answered_of t) ≡ g t) → (ts : List Task)
    → map f (map answered_of ts) ≡ map g ts
fused f g same [] = refl
fused f g same (t ∷ ts) = let one = same t in let rest = fused f g same ts in λ i. one i ∷ rest i

faultless_step : (t : Task) (a : Answer) (hs : List AnsweredEvent) (ts : List Task) → hs ≡ map answered_of ts
    → by_event.if_faultless (answered_of t) a hs ≡ map answered_of (if_faultless t a ts)
faultless_step t (Failed fault) hs ts same = same
faultless_step t (Replied r) hs ts same = ap (λ rest. answered_of t ∷ rest) same

faultless_is : (ts : List Task) → by_event.faultless (map answered_of ts) ≡ map answered_of (faultless ts)
faultless_is [] = refl
faultless_is (t ∷ ts) = faultless_step t (task_answer t) (by_event.faultless (map answered_of ts)) (faultless ts)
    (faultless_is ts)

-- what holds of each answered event that met no fault holds of each task that met none
said_of : {X : Type 0} (f : AnsweredEvent → X) (g : Task → X) → ((t : Task) → f (answered_of t) ≡ g t)
    → (ts : List Task)
    → map f (by_event.faultless (map answered_of ts)) ≡ map g (faultless ts)
said_of f g same ts = ap (map f) (faultless_is ts) ∙ fused f g same (faultless ts)

ran : (w new : World) (ts : List Task) → Run w (map task_event ts) (map task_answer ts) new
    → Run w (map event_at (map answered_of ts)) (map answer_at (map answered_of ts)) new
ran w new ts run =
    subst (λ es. Run w es (map answer_at (map answered_of ts)) new) (sym (fused event_at task_event (λ t. refl) ts))
    (subst (λ answers. Run w (map task_event ts) answers new) (sym (fused answer_at task_answer (λ t. refl) ts)) run)

-- ---- two runs

-- two runs whose tasks without faults are all, and the remaining ones, write alike
pub tasks_are_answered_alike : (old new old_too new_too : Shown) → ((w : World) → old.stands w → IsWorld w)
    → TasksAreAnsweredAlike old new old_too new_too
tasks_are_answered_alike old new old_too new_too sound w x s full purged two same =
    let ss : List (List ℕ) = chain (world_at w full) s in
    let first : List AnsweredEvent = map answered_of full in
    let second : List AnsweredEvent = map answered_of purged in
    let run = two.through.runs.at two.honest w two.stands in
    let again = two.through_too.runs.at two.honest_too x two.stands_too in
    let events = said_of event_at task_event (λ t. refl) full in
    let text = text_to text_for in
    let came = said_of origin_of origin_at (λ t. refl) in
    let left = came purged ∙ same
    ∙ sym (ap (marked (remaining w ss (map task_event (faultless full)))) (came full))
    ∙ sym (ap (λ es. marked (remaining w ss es) (map origin_of (by_event.faultless first))) events) in
    let alike = alike_by text_for w x (world_at w full) (world_at x purged) s first second (sound w two.stands)
    two.agree
    (ran w (world_at w full) full run.run) (ran x (world_at x purged) purged again.run) left in
    record {
      texts = sym (said_of text text_at text_is purged) ∙ alike.0
          ∙ ap (λ es. marked (remaining w ss es) (map text (by_event.faultless first))) events
          ∙ ap (marked (remaining w ss (map task_event (faultless full)))) (said_of text text_at text_is full);
      stands = run.ends;
      stands_too = again.ends;
      agree = alike.1;
    }
