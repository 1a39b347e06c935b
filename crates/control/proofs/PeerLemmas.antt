-- What is known of the store that a peer is answered from, with what is said of its worlds and without.
use Rattle.std.proofs.Common.{◌≡◌, ℕ, Bool, List, [], ◌∷◌, Option, Result, Ok, Err, refl, subst, sym}
use Rattle.histories.specs.Account.{Account}
use Rattle.histories.specs.Calls.{Reads as Calls, Writes}
use Rattle.interleave.specs.Noted.{with_said}
use Rattle.engine.specs.Exchange.{Exchange}
use Rattle.engine.specs.Store.{GoesThrough, LeavesTwo, world_at}
use Rattle.world.specs.declared.registry.StoreFault.{StoreFault}
use Rattle.world.specs.Store.{AfterCrash, DoesWhere, Reads, Shown}
use Rattle.world.specs.World.{World}
use Rattle.socket.specs.Connections.{AnswersOne, exchanges_of}
use Rattle.control.specs.Counted.{CountsPublishes, HasCounted, HoldsBack}
use Rattle.control.specs.Health.{Answered}
use Rattle.control.specs.Noted.{Noted}
use Rattle.control.specs.declared.traffic.Traffic.{Traffic}
use Rattle.control.proofs.CountedLemmas.{counted_first}

-- ---- calls

module _ {T : Type 0} (old new : Shown) (said said_new : World → Type 0) where
  -- a read leaves what is said of each world
  pub said_reads : (result : Result T StoreFault) (value : World → T) → ((w : World) → said w → said_new w)
      → Reads old new result value → Reads (with_said old said) (with_said new said_new) result value
  said_reads result value still reads = record {
    honest = reads.honest;
    at = λ h w stands. record {
      answer = (reads.at h w stands.0).answer;
      stays = ((reads.at h w stands.0).stays, still w stands.1);
      left = (reads.at h w stands.0).left;
    };
    cause = record { no_fewer = reads.cause.no_fewer; device = reads.cause.device };
  }

  crashed : (w : World) (result : Result T StoreFault) (next : World) → AfterCrash old new w result next
      → AfterCrash (with_said old said) (with_said new said_new) w result next
  crashed w result next crash =
      record { either = crash.either; alone = crash.alone; settled = crash.settled; failed = crash.failed }

  -- a change that is done leads from worlds of which it is said to such worlds, and one that fails leaves it
  pub said_does : (fits : World → Type 0) (result : Result T StoreFault) (value : World → T) (next : World → World)
      → ((x : T) → result ≡ Ok x → (w : World) → fits w → said w → said_new (next w))
      → ((fault : StoreFault) → result ≡ Err fault → (w : World) → fits w → said w → said_new w)
      → DoesWhere fits old new result value next
      → DoesWhere fits (with_said old said) (with_said new said_new) result value next
  unfolding crashed
  said_does fits (Ok x) value next later still does = record {
    honest = does.honest;
    at = λ h w stands may.
        let one = does.at h w stands.0 may in
        record {
          answer = one.answer;
          ok = (one.ok, later x refl w may stands.1);
          err = tt;
          crash = crashed w (Ok x) (next w) one.crash;
        };
    cause = record { no_fewer = does.cause.no_fewer; device = does.cause.device };
  }
  said_does fits (Err fault) value next later still does = record {
    honest = does.honest;
    at = λ h w stands may.
        let one = does.at h w stands.0 may in
        record {
          answer = one.answer;
          ok = tt;
          err = (one.err, still fault refl w may stands.1);
          crash = crashed w (Err fault) (next w) one.crash;
        };
    cause = record { no_fewer = does.cause.no_fewer; device = does.cause.device };
  }

-- ---- an answer

two_left : (new : Shown) (said : World → Type 0) (w : World) (xs : List Exchange) → LeavesTwo (with_said new said) w xs
    → LeavesTwo new w xs
two_left new said w [] left = left
two_left new said w (x ∷ []) left = left
two_left new said w (x ∷ y ∷ more) left = λ calm. two_left new said (world_at w (x ∷ [])) (y ∷ more) (left calm)

module _ (old new : Shown) (said said_new : World → Type 0) (all : (w : World) → old.stands w → said w) where
  -- the store went through the exchanges, whatever is said of its worlds
  goes_unsaid : (xs : List Exchange) → GoesThrough (with_said old said) (with_said new said_new) xs
      → GoesThrough old new xs
  goes_unsaid xs through = record {
    runs = record {
      honest = through.runs.honest;
      at = λ h w stands.
          let runs = through.runs.at h w (stands, all w stands) in
          record {
            run = runs.run;
            ends = runs.ends.0;
            left = runs.left;
            settled = runs.settled;
            beside = runs.beside;
          };
    };
    left = λ h w stands was. two_left new said_new w xs (through.left h w (stands, all w stands) was);
    settled = λ h w stands calm was. through.settled h w (stands, all w stands) calm was;
    untouched = through.untouched;
    no_fewer = through.no_fewer;
    device = through.device;
  }

  answers_unsaid : {P : Type 0} (heard : P → Account × Calls) (written : P → Option (List ℕ) × Writes)
      (peer gone : P) (told : Answered)
      → AnswersOne heard written peer gone (with_said old said) (with_said new said_new) told
      → AnswersOne heard written peer gone old new told
  unfolding goes_unsaid
  answers_unsaid heard written peer gone told one = record {
    answers = record {
      first = one.answers.first;
      there = one.answers.there;
      through = goes_unsaid (exchanges_of one.answers.first) one.answers.through;
    };
    counts = one.counts;
    cause = one.cause;
  }

module _ {P : Type 0} (heard : P → Account × Calls) (written : P → Option (List ℕ) × Writes) (old new : Shown)
    (said was : World → Type 0) (held : Bool) (before t : Traffic) (noted : Option Noted) (peer gone : P)
    (told : Answered) (all : (w : World) → old.stands w → said w) (stood : (w : World) → was w → old.stands w)
    (one : AnswersOne heard written peer gone (with_said old said)
    (with_said new (HasCounted was held before t noted)) told) where
  ends_counted : (h : new.is_honest) (w : World) → old.stands w
      → (new.stands (world_at w (exchanges_of one.answers.first)))
      × HasCounted was held before t noted (world_at w (exchanges_of one.answers.first))
  ends_counted h w stands = (one.answers.through.runs.at h w (stands, all w stands)).ends

  -- what was published is counted
  answers_counted : CountsPublishes old new before t noted
  answers_counted = record {
    since = λ h w stands.
        let ends = ends_counted h w stands in
        record {
          first = ends.1.first;
          later = world_at w (exchanges_of one.answers.first);
          stood = stood ends.1.first ends.1.stood;
          stands = ends.0;
          no_fewer = ends.1.no_fewer;
          each = ends.1.each;
          no_other = ends.1.no_other;
        };
  }

  -- nothing was published if publishes are held back
  answers_held : HoldsBack held old new
  answers_held = record {
    stays = λ is h w stands.
        let ends = ends_counted h w stands in
        record {
          first = ends.1.first;
          later = world_at w (exchanges_of one.answers.first);
          stood = stood ends.1.first ends.1.stood;
          stands = ends.0;
          same = ends.1.unpublished is;
        };
  }

-- A store that is lent for an answer begins with what was counted before, and with nothing published since.
pub answers_lent : {P S : Type 0} (heard : P → Account × Calls) (written : P → Option (List ℕ) × Writes)
    (shown : S → Shown) (old lent last : S) (was : World → Type 0) (held : Bool) (before begun t : Traffic)
    (none noted : Option Noted) (peer gone : P) (told : Answered)
    → lent ≡ old
    → before ≡ begun
    → ((w : World) → (shown old).stands w → was w)
    → ((w : World) → was w → (shown old).stands w)
    → AnswersOne heard written peer gone (with_said (shown lent) (HasCounted was held before begun none))
    (with_said (shown last) (HasCounted was held before t noted)) told
    → AnswersOne heard written peer gone (shown old) (shown last) told
    × (CountsPublishes (shown old) (shown last) before t noted × HoldsBack held (shown old) (shown last))
answers_lent heard written shown old lent last was held before begun t none noted peer gone told same counts stands
    stood one =
    let all : (w : World) → (shown lent).stands w → HasCounted was held before begun none w =
    λ w is. counted_first was held before begun none w counts (stands w (subst (λ x. (shown x).stands w) same is)) in
    let stood_lent : (w : World) → was w → (shown lent).stands w =
    λ w is. subst (λ x. (shown x).stands w) (sym same) (stood w is) in
    subst (λ x. AnswersOne heard written peer gone (shown x) (shown last) told
    × (CountsPublishes (shown x) (shown last) before t noted × HoldsBack held (shown x) (shown last))) same (
      answers_unsaid (shown lent) (shown last) _ _ all heard written peer gone told one,
      (
        answers_counted heard written (shown lent) (shown last) _ was held before t noted peer gone told all stood_lent one,
        answers_held heard written (shown lent) (shown last) _ was held before t noted peer gone told all stood_lent one,
      ),
    )
