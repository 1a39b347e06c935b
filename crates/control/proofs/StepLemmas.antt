-- The steps of the callers: their tasks, and the copies between them.
use Rattle.std.specs.Prelude.{◌||◌}
use Rattle.std.proofs.Common.{◌≡◌, ◌+◌, ℕ, List, [], ◌∷◌, ◌++◌, map, refl, sym, ap, ◌∙◌, subst, Option, Some, None}
use Rattle.std.proofs.Common.{Ok, Err, append_assoc, append-nil}
use Rattle.world.specs.World.{World}
use Rattle.world.specs.Store.{Shown}
use Rattle.engine.specs.Exchange.{Exchange}
use Rattle.control.specs.Copying.{Making, Step, OfTask, Made, Counted, Listed, LookedUp, tasks_in, has_read, AllRead}
use Rattle.control.specs.Copying.{GoesThroughSteps}
use Rattle.control.specs.Health.{IsPinged}
use Rattle.control.specs.Hearing.{Heard, Carried, Pinged, Named, Stop, NoOrder, NoMemory}
use Rattle.control.specs.Hearing as hearing
use Rattle.control.specs.Naming.{NamesOne, NamesNone, ReadError}
use Rattle.control.specs.Tasks.{Asked, messages, world_at}
use Rattle.control.specs.Visits.{Call, CameIf, ListsIf, steps_if, steps_of, steps_with}
use Rattle.control.specs.declared.tally.Tally.{Tally}
use Rattle.control.proofs.CrashLemmas.{world_step}
use Rattle.control.proofs.ListingLemmas.{list_is}
use Rattle.control.proofs.TaskLemmas.{messages_append, tasks_more}

-- ---- some steps, and then others

pub tasks_append : (xs ys : List Step) → tasks_in (xs ++ ys) ≡ tasks_in xs ++ tasks_in ys
tasks_append [] ys = refl
tasks_append (OfTask t ∷ xs) ys = ap (λ ts. t ∷ ts) (tasks_append xs ys)
tasks_append (Made making ∷ xs) ys = tasks_append xs ys
tasks_append (Counted told ∷ xs) ys = tasks_append xs ys
tasks_append (Listed listing told ∷ xs) ys = tasks_append xs ys
tasks_append (LookedUp f found ∷ xs) ys = tasks_append xs ys

pub read_append : (xs ys : List Step) → has_read (xs ++ ys) ≡ (has_read xs || has_read ys)
read_append [] ys = refl
read_append (OfTask t ∷ xs) ys = read_append xs ys
read_append (Made making ∷ xs) ys = refl
read_append (Counted told ∷ xs) ys = refl
read_append (Listed listing told ∷ xs) ys = refl
read_append (LookedUp f found ∷ xs) ys = refl

-- a store that goes through some steps and then through more goes through all of them
pub steps_more : (old mid new : Shown) (xs ys : List Step) → GoesThroughSteps old mid xs → GoesThroughSteps mid new ys
    → GoesThroughSteps old new (xs ++ ys)
steps_more old mid new xs ys first next =
    rw (tasks_append xs ys, read_append xs ys)
    (tasks_more old mid new (tasks_in xs) (has_read xs) first (tasks_in ys) (has_read ys) next)

pub messages_both : (xs ys : List Step)
    → messages (tasks_in (xs ++ ys)) ≡ messages (tasks_in xs) + messages (tasks_in ys)
messages_both xs ys = ap messages (tasks_append xs ys) ∙ messages_append (tasks_in xs) (tasks_in ys)

-- ---- the steps of all callers

module _ {P O : Type 0} where
  pub steps_last : (calls : List (Call P O)) (last : Call P O)
      → steps_with (calls ++ last ∷ []) ≡ steps_with calls ++ steps_of last
  steps_last [] last = append-nil (steps_of last)
  steps_last (call ∷ calls) last =
      ap (λ more. steps_of call ++ more) (steps_last calls last)
      ∙ sym (append_assoc (steps_of call) (steps_with calls) (steps_of last))

-- ---- what came of the copies and the pings

module _ {S : Type 0} (shown : S → Shown) (made : S → S → Making → Type 0)
    (counted : S → S → ℕ → Type 0) where
  pub read_then : (w : World) (xs ys : List Step) → AllRead shown made counted w xs
      → AllRead shown made counted (world_at w (tasks_in xs)) ys
      → AllRead shown made counted w (xs ++ ys)
  read_then w [] ys all more = more
  read_then w (OfTask t ∷ xs) ys all more =
      read_then (world_at w (t ∷ [])) xs ys all
      (subst (λ v. AllRead shown made counted v ys) (sym (world_step w t (tasks_in xs))) more)
  read_then w (Made making ∷ xs) ys all more = (all.0, read_then w xs ys all.1 more)
  read_then w (Counted (Ok health) ∷ xs) ys all more = (all.0, read_then w xs ys all.1 more)
  read_then w (Counted (Err fault) ∷ xs) ys all more = read_then w xs ys all more
  read_then w (Listed listing (Ok text) ∷ xs) ys all more = (all.0, read_then w xs ys all.1 more)
  read_then w (Listed listing (Err fault) ∷ xs) ys all more = read_then w xs ys all more
  read_then w (LookedUp f (Ok found) ∷ xs) ys all more = (all.0, read_then w xs ys all.1 more)
  read_then w (LookedUp f (Err fault) ∷ xs) ys all more = read_then w xs ys all more

  -- messages are none
  pub no_reads : (w : World) (xs : List Exchange) → AllRead shown made counted w (map (λ x. OfTask (Asked x)) xs)
  no_reads w [] = tt
  no_reads w (x ∷ xs) = no_reads (world_at w (Asked x ∷ [])) xs

  -- an operator's line may be one
  pub read_heard : (tally : Tally) (old new : S) → (shown new).is_honest → (w : World) → (shown old).stands w
      → (heard : Option Heard)
      → CameIf (made old new) (IsPinged tally (shown old).failures (shown new).failures (counted old new)) heard
      → ListsIf (shown old) (shown new) heard
      → AllRead shown made counted w (steps_if heard)
  read_heard tally old new h w stands None came lists = tt
  read_heard tally old new h w stands (Some (Carried command told)) came lists = tt
  read_heard tally old new h w stands (Some (hearing.Made making)) came lists =
      (record { source = old; source_new = new; honest = h; stands = stands; came = came }, tt)
  read_heard tally old new h w stands (Some (Pinged (Ok health))) came lists =
      (record { source = old; source_new = new; honest = h; stands = stands; failures_now = came.1; came = came.2 }, tt)
  read_heard tally old new h w stands (Some (Pinged (Err fault))) came lists = tt
  read_heard tally old new h w stands (Some (hearing.Listed listing (Ok text))) came lists =
      (list_is (shown old) (shown new) w listing text lists h stands, tt)
  read_heard tally old new h w stands (Some (hearing.Listed listing (Err fault))) came lists = tt
  read_heard tally old new h w stands (Some (Named f (NamesOne key told))) came lists = (lists h w stands, tt)
  read_heard tally old new h w stands (Some (Named f NamesNone)) came lists = (lists h w stands, tt)
  read_heard tally old new h w stands (Some (Named f (ReadError fault))) came lists = tt
  read_heard tally old new h w stands (Some Stop) came lists = tt
  read_heard tally old new h w stands (Some NoOrder) came lists = tt
  read_heard tally old new h w stands (Some NoMemory) came lists = tt
