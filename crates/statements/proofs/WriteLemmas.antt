-- What a statement that writes leaves of the store.
use Rattle.std.proofs.Common.{◌≡◌, ◌⊎◌, ℕ, Bool, true, false, List, append-nil, None, Ok, Err, Result, inl, inr, refl}
use Rattle.std.proofs.Common.{sym, ap, subst, ◌∙◌, IsTrue, MatchBool, true≢false}
use Rattle.sqlite.specs.Order.{Row}
use Rattle.sqlite.specs.Tree.{Trees}
use Rattle.sqlite.specs.Effect.{Database}
use Rattle.sqlite.specs.Does.{Tally, Does}
use Rattle.sqlite.specs.Clock.{timed}
use Rattle.sqlite_resolve.specs.declared.compiled.Compiled.{Compiled}
use Rattle.sqlite_schema.specs.declared.command.Source.{Source}
use Rattle.sqlite_catalog.specs.Listing.{IsSound}
use Rattle.sqlite.specs.declared.error.Error.{Error}
use Rattle.sqlite.specs.declared.error.Error.TheVariants.{ExecuteReturnedResults}
use Rattle.sqlite.specs.Command.{Command}
use Rattle.sqlite.specs.Command.TheVariants.{Insert, Delete, Commit, Release}
use Rattle.sqlite_schema.specs.declared.program.Program.{Program}
use Rattle.sqlite.specs.Listing.{understood}
use Rattle.sqlite.specs.State.{State, HasCleanDisk, IsUnchanged, Executes, ExecutesIn, Runs, Writes, RunsAlone}
use Rattle.sqlite.specs.State.{RunsCommand, shows_rows, Survives, CommitsBy, MayCommit, text_of, mode_of}
use Rattle.sqlite.proofs.Callers.{IsPlain, command_of, statement_of, runs_as}
use Rattle.world.specs.World.{World}
use Rattle.tables.specs.Schema.{store_schema}
use Rattle.tables.specs.Means.{Holds, Stands, StandFor, Means}
use Rattle.statements.specs.Calls.{LeavesOnly, ChangesAt}
use Rattle.tables.proofs.FailureLemmas.{IsUnchangedOrUndone, not_run, was_clean}
use Rattle.statements.proofs.CallLemmas.{stands_still}

ran_alone : (sql : List ℕ) (params : Row) (old new : State) (e : Error) (c : Compiled)
    → RunsAlone false old new sql c params (Err e) → IsUnchangedOrUndone old new
ran_alone sql params old new e c h = go (shows_rows false c) h
  where
    go : (b : Bool) → MatchBool b
        ((◌≡◌ {A = Result ℕ Error} (Err e) (Err ExecuteReturnedResults)) × IsUnchanged old new)
        (RunsCommand old new sql c params (Err e)) → IsUnchangedOrUndone old new
    go true h = inl h.1
    go false (inl h) = inl h.1
    go false (inr h) = inr h.3

pub failed_execute : (sql : List ℕ) (params : Row) (old new : State) (e : Error) → Executes sql params old new (Err e)
    → IsUnchangedOrUndone old new
unfolding ExecutesIn
failed_execute sql params old new e (inl h) = not_run old new sql params e h
failed_execute sql params old new e (inr h) = ran_alone sql (timed params h.0.formats h.1.now) old new e h.0 h.2

-- while the store is open, a crash leaves what it shows
pub open_leaves : (s : State) (w : World) → ((db : Trees) → s.may_leave db → db ≡ s.committed.trees) → Holds s w
    → LeavesOnly s (λ x. x ≡ w)
open_leaves s w settled h db may =
    (w, subst (λ t. StandFor t w) (ap (λ (d : Database). d.trees) h.settled ∙ sym (settled db may)) h.trees, refl)

-- it writes, and neither commits nor releases
pub record IsEdit (command : Command) : Type 1 where
  pub commits : command ≡ Commit → ⊥
  pub releases : (name : List ℕ) → command ≡ Release name → ⊥
  pub writes : (old new : State) (text : List ℕ) (params : Row) (count : ℕ)
      → Runs old new None command text params count → Writes old new None command text params count

pub inserting : (at : ℕ) (from : Source) → IsEdit (Insert at from)
inserting at from = record { commits = λ e. cc; releases = λ name e. cc; writes = λ old new text params count ran. ran }

pub deleting : (at : ℕ) (q : Program) → IsEdit (Delete at q)
deleting at q = record { commits = λ e. cc; releases = λ name e. cc; writes = λ old new text params count ran. ran }

-- the tables that the command makes of these stand for the next world, however it is written
abbrev pub Rewrites : Row → Command → State → World → Type 0
Rewrites params command old next =
    (text : List ℕ) (tally : Tally) (after : Database)
    → Does old.step_limit (mode_of old) params old.now text None command (Ok (tally, after))
    → (after.schema ≡ store_schema) × Means after.trees next

module _ (sql : List ℕ) (params : Row) (command : Command) (is : command_of (understood store_schema sql) ≡ command)
    (plain : IsPlain (understood store_schema sql)) (edit : IsEdit command) (old new : State) where
  abbrev text : List ℕ
  text = statement_of sql (understood store_schema sql)

  wrote_as : (w : World) → Holds old w → (count : ℕ) → Executes sql params old new (Ok count)
      → Writes old new None command text params count
  wrote_as w h count ran =
      edit.writes old new _ params count (runs_as sql params old new store_schema h.schema command is plain count ran)

  -- a connection that held `w` holds the next world once the statement is executed
  pub written_holds : (w next : World) → Holds old w → Rewrites params command old next → (count : ℕ)
      → Executes sql params old new (Ok count) → Holds new next
  written_holds w next h turns count ran =
      let wrote = wrote_as w h count ran in
      let it = turns text wrote.tally new.now wrote.changed in
      record {
        schema = it.0;
        settled = sym (rw h.autocommit at wrote.shown.committed_is);
        autocommit = wrote.shown.mode ∙ h.autocommit;
        trees = record { sound = subst (λ s. IsSound s new.now.trees) it.0 wrote.sound; means = it.1 };
      }

  pub written_open : (w : World) → Holds old w → (count : ℕ) → Executes sql params old new (Ok count)
      → IsTrue new.is_open
  written_open w h count ran = (wrote_as w h count ran).shown.is_open

  -- what the statement may commit stands for the next world
  committed : (w next : World) → Holds old w → Rewrites params command old next → (c : Compiled)
      → understood old.now.schema sql ≡ Ok c
      → (full : Row) → full ≡ params → (db : Trees) → MayCommit old c.returning c.command (text_of sql c) full db
      → StandFor db next
  committed w next h turns c found full given db may =
      let known : Ok c ≡ understood store_schema sql = sym found ∙ ap (λ s. understood s sql) h.schema in
      let bare = (subst IsPlain (sym known) plain).0 in
      let same : c.command ≡ command = ap command_of known ∙ is in
      go (rw (same, bare, given, ap (statement_of sql) known) at may)
    where
      go : MayCommit old None command text params db → StandFor db next
      go (inl (inl it, same)) = absurd (edit.commits it)
      go (inl (inr it, same)) = absurd (edit.releases it.0 it.2)
      go (inr it) =
          let done = turns text it.1 it.2 it.3 in
          subst (λ t. StandFor t next) (sym it.5)
          (record { sound = subst (λ s. IsSound s it.2.trees) done.0 it.4; means = done.1 })

  pub written_leaves : (w next : World) → Holds old w → Rewrites params command old next
      → Survives old new (CommitsBy sql params old)
      → HasCleanDisk new → LeavesOnly old (λ x. x ≡ w) → LeavesOnly new (λ x. (x ≡ w) ⊎ (x ≡ next))
  unfolding CommitsBy
  written_leaves w next h turns survives clean only db may = elim (survives.crash clean db may) [
    | inl was ↦ (let it = only db was in (it.0, it.1, inl it.2))
    | inr commits ↦ (let bare =
        (subst IsPlain (sym (sym commits.1.is ∙ ap (λ s. understood s sql) h.schema)) plain).1 in
        let full : timed params commits.0.formats commits.1.now ≡ params = rw bare (append-nil params) in
        (next, committed w next h turns commits.0 commits.1.is _ full db commits.2, inr refl))
  ]

  -- a statement that was executed is a change that was done
  pub done_changes : (law : (db : Trees) → IsTrue new.is_open → new.may_leave db → db ≡ new.committed.trees)
      → (HasCleanDisk old → IsTrue old.is_open) → (w next : World)
      → ((h : Holds old w) → Rewrites params command old next)
      → Survives old new (CommitsBy sql params old) → (count : ℕ)
      → (HasCleanDisk new → Executes sql params old new (Ok count)) → ChangesAt old new true w next
  done_changes law opened w next turns survives count ran =
      let held = λ (clean : HasCleanDisk new) (stands : Stands old w). let was =
      was_clean old new survives.clean clean in stands was (opened was) in
      record {
        world = λ stands clean shown.
            written_holds w next (held clean stands) (turns (held clean stands)) count (ran clean);
        left = λ clean stands only.
            written_leaves w next (held clean stands) (turns (held clean stands)) survives clean only;
        alone = λ _ clean stands. open_leaves new next
            (λ db. law db (written_open w (held clean stands) count (ran clean)))
            (written_holds w next (held clean stands) (turns (held clean stands)) count (ran clean));
        failed = λ unfinished. absurd (true≢false unfinished);
      }

  -- a statement that failed is a change that was not done
  pub failed_changes : ((db : Trees) → IsTrue old.is_open → old.may_leave db → db ≡ old.committed.trees)
      → (HasCleanDisk old → IsTrue old.is_open) → (w next : World)
      → ((h : Holds old w) → Rewrites params command old next)
      → Survives old new (CommitsBy sql params old) → (e : Error)
      → (HasCleanDisk new → Executes sql params old new (Err e)) → ChangesAt old new false w next
  failed_changes law opened w next turns survives e ran =
      let held = λ (clean : HasCleanDisk new) (stands : Stands old w). let was =
      was_clean old new survives.clean clean in stands was (opened was) in
      record {
        world = λ stands. stands_still old new w survives.clean
            (λ clean. failed_execute sql params old new e (ran clean)) stands;
        left = λ clean stands only.
            written_leaves w next (held clean stands) (turns (held clean stands)) survives clean only;
        alone = λ done. absurd (true≢false (sym done));
        failed = λ _ clean stands.
            let h = held clean stands in
            let early = opened (was_clean old new survives.clean clean) in
            inl (written_leaves w next h (turns h) survives clean (open_leaves old w (λ db. law db early) h));
      }
