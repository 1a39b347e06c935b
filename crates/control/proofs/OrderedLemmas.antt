-- What an operator's line ordered.
use Rattle.std.specs.Prelude.{◌||◌}
use Rattle.std.proofs.Common.{Bool, true, false, ℕ, ◌≡◌, refl, sym, subst, List}
use Rattle.std.proofs.Common.{Option, Some, None, Result, Ok, Err, arith}
use Rattle.histories.specs.Account.{Account}
use Rattle.histories.specs.Calls.{Reads, Writes}
use Rattle.world.specs.Store.{Shown}
use Rattle.world.specs.declared.registry.StoreFault.{StoreFault}
use Rattle.interleave.specs.Interleave.{IsAsItWas}
use Rattle.engine.specs.declared.fault.Io.{Io}
use Rattle.engine.specs.declared.fault.Io.TheVariants as io
use Rattle.control.specs.Copying.{Making, OfKey, ToPath, GoesThroughSteps, IsBusy, IsOnlyRead}
use Rattle.control.specs.Hearing.{Heard, Carried, Pinged, Listed, Named, Stop, NoOrder, NoMemory}
use Rattle.control.specs.Hearing.{Obeys, told_of_making}
use Rattle.control.specs.Noted.{Noted}
use Rattle.control.specs.Hearing as hearing
use Rattle.control.specs.Visits.{GoesIf, IsLong}
use Rattle.control.specs.Visits.{ObeysOne}
use Rattle.control.specs.Visits.{steps_if}
use Rattle.control.specs.declared.copies.CatalogRefusal.TheVariants as unprinted
use Rattle.control.specs.declared.copies.CopyRefusal.TheVariants as refusal
use Rattle.control.specs.declared.health.Health.{Health}
use Rattle.orders.specs.declared.outcome.Outcome.TheVariants.{Stopping}
use Rattle.control.specs.declared.control_reply.ControlReply.{ControlReply}
use Rattle.control.specs.declared.control_reply.ControlReply.TheVariants as spoken
use Rattle.control.proofs.TaskLemmas.{tasks_read}

-- an order was carried out that has nothing made, or one that has this made
pub data Ordered (idle : Option Heard → Type 0) (meanwhile : Making → Type 0) (old new : Shown)
    (heard : Option Heard) : Type 0 where
  Other : idle heard → GoesThroughSteps old new (steps_if heard) → ¬ IsLong heard → Ordered idle meanwhile old new heard
  ToMake : (making : Making) → heard ≡ Some (hearing.Made making) → meanwhile making
      → Ordered idle meanwhile old new heard

pub ordered_if : (idle : Option Heard → Type 0) (meanwhile : Making → Type 0) (old new : Shown) (heard : Option Heard)
    → GoesIf idle meanwhile old new heard → Ordered idle meanwhile old new heard
ordered_if idle meanwhile old new None goes = Other goes.0 goes.1 (λ long. long)
ordered_if idle meanwhile old new (Some (Carried command told)) goes = Other goes.0 goes.1 (λ long. long)
ordered_if idle meanwhile old new (Some (hearing.Made making)) goes = ToMake making refl goes
ordered_if idle meanwhile old new (Some (Pinged told)) goes = Other goes.0 goes.1 (λ long. long)
ordered_if idle meanwhile old new (Some (Listed listing told)) goes = Other goes.0 goes.1 (λ long. long)
ordered_if idle meanwhile old new (Some (Named f naming)) goes = Other goes.0 goes.1 (λ long. long)
ordered_if idle meanwhile old new (Some Stop) goes = Other goes.0 goes.1 (λ long. long)
ordered_if idle meanwhile old new (Some NoOrder) goes = Other goes.0 goes.1 (λ long. long)
ordered_if idle meanwhile old new (Some NoMemory) goes = Other goes.0 goes.1 (λ long. long)

-- where the store was only read for it, it went through the steps of what was ordered
pub through_told : (idle : Option Heard → Type 0) (old new : Shown) (heard : Option Heard)
    → Ordered idle (λ making. IsOnlyRead old new × IsBusy making) old new heard
    → GoesThroughSteps old new (steps_if heard)
through_told idle old new heard (Other still through short) = through
through_told idle old new heard (ToMake making is read) =
    subst (λ h. GoesThroughSteps old new (steps_if h)) (sym is) (tasks_read old new read.0)

-- where another thing is being made, none is made for it
pub short_told : (idle : Option Heard → Type 0) (old new : Shown) (heard : Option Heard)
    → Ordered idle (λ making. IsOnlyRead old new × IsBusy making) old new heard
    → ¬ IsLong heard
short_told idle old new heard (Other still through short) = short
short_told idle old new heard (ToMake making is read) = subst (λ h. ¬ IsLong h) (sym is) (λ long. long read.1)

-- nothing else was done
pub only_read : (old new : Shown) → IsAsItWas old new → IsOnlyRead old new
only_read old new read = record {
  honest = read.honest;
  stays = read.stays;
  left = read.left;
  no_fewer = omega (arith, read.failures);
}

-- what is told of what was made is not that the server ends
pub no_stopping : (making : Making) → told_of_making making ≡ spoken.Outcome Stopping → ⊥
no_stopping (ToPath path (Ok done)) e = cc
no_stopping (ToPath path (Err refusal.NotEmpty)) e = cc
no_stopping (ToPath path (Err refusal.Device)) e = cc
no_stopping (ToPath path (Err refusal.Memory)) e = cc
no_stopping (ToPath path (Err refusal.Busy)) e = cc
no_stopping (ToPath path (Err refusal.Ended)) e = cc
no_stopping (OfKey key printed (Ok done)) e = cc
no_stopping (OfKey key printed (Err unprinted.NoKey)) e = cc
no_stopping (OfKey key printed (Err unprinted.Device)) e = cc
no_stopping (OfKey key printed (Err unprinted.Memory)) e = cc
no_stopping (OfKey key printed (Err unprinted.Busy)) e = cc
no_stopping (OfKey key printed (Err unprinted.Ended)) e = cc
no_stopping (OfKey key printed (Err unprinted.Output)) e = cc

abbrev pub ok_in : Result ControlReply Io → ControlReply → ControlReply
ok_in (Ok told) other = told
ok_in (Err e) other = other

pub or_not : (a b : Bool) → (b ≡ true → ⊥) → (a || b) ≡ a
or_not true b off = refl
or_not false true off = absurd (off refl)
or_not false false off = refl

-- either way this holds
pub either_way : (R : Type 0) (idle : Option Heard → Type 0) (meanwhile : Making → Type 0) (old new : Shown)
    (heard : Option Heard) → Ordered idle meanwhile old new heard → (idle heard → R)
    → ((making : Making) → meanwhile making → R) → R
either_way R idle meanwhile old new heard (Other rests through short) one two = one rests
either_way R idle meanwhile old new heard (ToMake making is done) one two = two making done

-- so it is of an operator who was obeyed
pub obeys_either : (R : Type 0) (made : Making → Type 0) (pinged : Result Health StoreFault → Type 0)
    (idle : Option Heard → Type 0) (meanwhile : Making → Type 0) (old new : Shown) (u v : Account)
    (w x : Option (List ℕ)) (result : Result ControlReply Io) (noted : Option Noted)
    → ((heard : Option Heard) → idle heard → R) → ((making : Making) → meanwhile making → R)
    → Obeys made pinged idle meanwhile old new u v w x result noted → R
obeys_either R made pinged idle meanwhile old new u v w x (Ok told) noted one two obeys =
    either_way R idle meanwhile old new (Some obeys.1.heard)
    (ordered_if idle meanwhile old new (Some obeys.1.heard) obeys.1.through) (one (Some obeys.1.heard)) two
obeys_either R made pinged idle meanwhile old new u v w x (Err io.Read) noted one two obeys = one None obeys.0
obeys_either R made pinged idle meanwhile old new u v w x (Err io.Write) noted one two obeys =
    either_way R idle meanwhile old new (Some obeys.2.heard)
    (ordered_if idle meanwhile old new (Some obeys.2.heard) obeys.2.through) (one (Some obeys.2.heard)) two

-- what is unsaid of those who make copies
goes_unsaid : (idle : Option Heard → Type 0) (meanwhile still : Making → Type 0) (old new : Shown)
    (heard : Option Heard) → ((making : Making) → meanwhile making → still making)
    → GoesIf idle meanwhile old new heard → GoesIf (λ _. Unit {0}) still old new heard
goes_unsaid idle meanwhile still old new None so goes = (tt, goes.1)
goes_unsaid idle meanwhile still old new (Some (Carried command told)) so goes = (tt, goes.1)
goes_unsaid idle meanwhile still old new (Some (hearing.Made making)) so goes = so making goes
goes_unsaid idle meanwhile still old new (Some (Pinged told)) so goes = (tt, goes.1)
goes_unsaid idle meanwhile still old new (Some (Listed listing told)) so goes = (tt, goes.1)
goes_unsaid idle meanwhile still old new (Some (Named f naming)) so goes = (tt, goes.1)
goes_unsaid idle meanwhile still old new (Some Stop) so goes = (tt, goes.1)
goes_unsaid idle meanwhile still old new (Some NoOrder) so goes = (tt, goes.1)
goes_unsaid idle meanwhile still old new (Some NoMemory) so goes = (tt, goes.1)

pub obeys_unsaid : {O : Type 0} (heeded : O → Account × Reads) (told : O → Option (List ℕ) × Writes)
    (made : Making → Type 0) (pinged : Result Health StoreFault → Type 0)
    (idle : Option Heard → Type 0) (meanwhile still : Making → Type 0) (old new : Shown) (operator gone : O)
    (stops : Bool) → ((making : Making) → meanwhile making → still making)
    → ObeysOne heeded told made pinged idle meanwhile operator gone stops old new
    → ObeysOne heeded told made pinged (λ _. Unit {0}) still operator gone stops old new
obeys_unsaid heeded told made pinged idle meanwhile still old new operator gone stops so next = record {
  audience = next.audience;
  begins = next.begins;
  leaves = next.leaves;
  there = next.there;
  stopped = next.stopped;
  through = goes_unsaid idle meanwhile still old new next.audience.heard so next.through;
  came = next.came;
  lists = next.lists;
}

-- that changes nothing of what was heard and told
pub unsaid_audience : {O : Type 0} (heeded : O → Account × Reads) (told : O → Option (List ℕ) × Writes)
    (made : Making → Type 0) (pinged : Result Health StoreFault → Type 0)
    (idle : Option Heard → Type 0) (meanwhile still : Making → Type 0) (old new : Shown) (operator gone : O)
    (stops : Bool) (so : (making : Making) → meanwhile making → still making)
    → (next : ObeysOne heeded told made pinged idle meanwhile operator gone stops old new)
    → (obeys_unsaid heeded told made pinged idle meanwhile still old new operator gone stops so next).audience
    ≡ next.audience
unfolding obeys_unsaid
unsaid_audience heeded told made pinged idle meanwhile still old new operator gone stops so next = refl

-- of an operator who was obeyed, either way this holds
pub obeyed_either : {O : Type 0} (heeded : O → Account × Reads) (told : O → Option (List ℕ) × Writes)
    (made : Making → Type 0) (pinged : Result Health StoreFault → Type 0)
    (idle : Option Heard → Type 0) (meanwhile : Making → Type 0) (old new : Shown) (operator gone : O) (stops : Bool)
    (R : Type 0) → ObeysOne heeded told made pinged idle meanwhile operator gone stops old new
    → ((heard : Option Heard) → idle heard → R) → ((making : Making) → meanwhile making → R) → R
obeyed_either heeded told made pinged idle meanwhile old new operator gone stops R next one two =
    either_way R idle meanwhile old new next.audience.heard
    (ordered_if idle meanwhile old new next.audience.heard next.through) (one next.audience.heard) two
