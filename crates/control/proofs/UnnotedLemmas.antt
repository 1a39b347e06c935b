-- A store that noted what was published, seen without the notes.
use Rattle.std.specs.Prelude.{Bool, true, false}
use Rattle.std.proofs.Common.{◌≡◌, ℕ, List, [], ◌∷◌, Option, Ok, Err, subst, sym}
use Rattle.std.proofs.lemmas.Bool.{false≢true}
use Rattle.std.specs.FinSet as set
use Rattle.histories.specs.Account.{Account}
use Rattle.histories.specs.Calls.{Reads, Writes}
use Rattle.world.specs.Store.{Shown}
use Rattle.world.specs.World.{World, place_cmp}
use Rattle.interleave.specs.Interleave.{IsSince, Notes}
use Rattle.interleave.specs.Noted.{IsNoted, with_said}
use Rattle.socket.specs.History.{Door, Known}
use Rattle.control.specs.Copying.{Making, Step, OfTask, Made, Counted, Listed, LookedUp, AllRead}
use Rattle.control.specs.Reserve.{Lent}
use Rattle.control.specs.Serving.{Serves}
use Rattle.control.specs.Tasks.{Task, GoesThroughTasks, StandsIf, world_at}
use Rattle.control.specs.Traces.{Log}
use Rattle.control.specs.Visits.{steps_with}
use Rattle.socket.specs.declared.callers.Caller.{Caller}
use Rattle.control.specs.declared.progress.Progress.{Progress}
use Rattle.control.proofs.CrashLemmas.{leaves_still}

stands_with : (read : Bool) (old : Shown) (said : World → Type 0) → ((w : World) → old.stands w → said w)
    → StandsIf read old
    → StandsIf read (with_said old said)
stands_with false old said all some = tt
stands_with true old said all some = (some.0, (some.1, all some.0 some.1))

goes_unnoted : (old new : Shown) (said said_new : World → Type 0) (ts : List Task) (read : Bool)
    → ((w : World) → old.stands w → said w)
    → GoesThroughTasks (with_said old said) (with_said new said_new) ts read
    → GoesThroughTasks old new ts read
goes_unnoted old new said said_new ts read all through = record {
  runs = record {
    honest = through.runs.honest;
    at = λ h w stands.
        let runs = through.runs.at h w (stands, all w stands) in
        record {
          run = runs.run;
          ends = runs.ends.0;
          left = runs.left;
          settled = runs.settled;
          beside = runs.beside;
        };
  };
  left = λ h w stands was.
      leaves_still (with_said new said_new) new (λ x y left. left) w ts (through.left h w (stands, all w stands) was);
  settled = λ h w stands calm was. through.settled h w (stands, all w stands) calm was;
  untouched = λ none some. through.untouched none (stands_with read old said all some);
  no_fewer = through.no_fewer;
  device = through.device;
}

module _ {S T : Type 0} (shown : S → Shown) (made : S → S → Making → Type 0)
    (counted : S → S → ℕ → Type 0) (inside : T → S) (said : T → World → Type 0) where
  abbrev Shown_too : T → Shown
  Shown_too t = with_said (shown (inside t)) (said t)

  abbrev Made_too : T → T → Making → Type 0
  Made_too s t making = made (inside s) (inside t) making

  abbrev Counted_too : T → T → ℕ → Type 0
  Counted_too s t n = counted (inside s) (inside t) n

  read_unnoted : (w : World) (steps : List Step) → AllRead Shown_too Made_too Counted_too w steps
      → AllRead shown made counted w steps
  read_unnoted w [] all = tt
  read_unnoted w (OfTask t ∷ steps) all = read_unnoted (world_at w (t ∷ [])) steps all
  read_unnoted w (Made making ∷ steps) all = (
    record {
      source = inside all.0.source;
      source_new = inside all.0.source_new;
      honest = all.0.honest;
      stands = all.0.stands.0;
      came = all.0.came;
    },
    read_unnoted w steps all.1,
  )
  read_unnoted w (Counted (Ok health) ∷ steps) all = (
    record {
      source = inside all.0.source;
      source_new = inside all.0.source_new;
      honest = all.0.honest;
      stands = all.0.stands.0;
      failures_now = all.0.failures_now;
      came = all.0.came;
    },
    read_unnoted w steps all.1,
  )
  read_unnoted w (Counted (Err fault) ∷ steps) all = read_unnoted w steps all
  read_unnoted w (Listed listing (Ok text) ∷ steps) all = (all.0, read_unnoted w steps all.1)
  read_unnoted w (Listed listing (Err fault) ∷ steps) all = read_unnoted w steps all
  read_unnoted w (LookedUp f (Ok found) ∷ steps) all = (all.0, read_unnoted w steps all.1)
  read_unnoted w (LookedUp f (Err fault) ∷ steps) all = read_unnoted w steps all

  module _ {P O : Type 0} (heeded : O → Account × Reads) (told : O → Option (List ℕ) × Writes)
      (heard : P → Account × Reads) (written : P → Option (List ℕ) × Writes) (known : Known P O)
      (door end : Door (Caller P O)) (p q : Progress) (log log_new : Log)
      (room room_new : Lent) (s t : T)
      (all : (w : World) → (shown (inside s)).stands w → said s w)
      (next : Serves heeded told heard written known Shown_too Made_too Counted_too true door end p q log log_new
      room room_new s t) where
    -- the callers were served so
    pub serves_unnoted : Serves heeded told heard written known shown made counted true door end p q log log_new
        room room_new (inside s) (inside t)
    unfolding goes_unnoted read_unnoted
    serves_unnoted = record {
      calls = next.calls;
      came = next.came;
      happened = next.happened;
      begun = next.begun;
      closed = next.closed;
      there = next.there;
      through = goes_unnoted (shown (inside s)) (shown (inside t)) (said s) (said t) _ _ all next.through;
      reads = λ h w stands. read_unnoted w (steps_with next.calls) (next.reads h w (stands, all w stands));
      tally = next.tally;
      tallies = next.tallies;
      left = next.left;
      taken = next.taken;
      ends = next.ends;
      traces = next.traces;
    }

-- what is said at first of each world that a store stands for
pub noted_first : (was : World → Type 0) (before : set.FinSet place_cmp) (news : set.FinSet place_cmp) (lost : Bool)
    → before ≡ news → (w : World) → was w → IsNoted lost was before news w
noted_first was before news true same w stood = tt
noted_first was before news false same w stood =
    record { first = w; stood = stood; since = λ v since. subst (λ n. IsSince v w n) same since }

-- what came of the worlds of before is what the newcomers tell, if no place was lost
pub newcomers_noted : (old new : Shown) (said was : World → Type 0) (before first after : set.FinSet place_cmp)
    (lost : Bool) (ts : List Task) (read : Bool) → ((w : World) → old.stands w → said w)
    → ((w : World) → was w → old.stands w) → first ≡ before
    → GoesThroughTasks (with_said old said) (with_said new (IsNoted lost was first after)) ts read → lost ≡ false
    → Notes old new before after
newcomers_noted old new said was before first after true ts read all stood same through kept =
    absurd (false≢true (sym kept))
newcomers_noted old new said was before first after false ts read all stood same through kept = λ h w stands.
    let ends = (through.runs.at h w (stands, all w stands)).ends in
    record {
      was = ends.1.first;
      stood = stood ends.1.first ends.1.stood;
      later = world_at w ts;
      stands = ends.0;
      since = λ v since. ends.1.since v (subst (λ n. IsSince v ends.1.first n) (sym same) since);
    }
