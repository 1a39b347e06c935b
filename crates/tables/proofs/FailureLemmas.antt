-- What a statement that fails leaves of a connection.
use Rattle.std.proofs.Common.{◌≡◌, ◌≤◌, ◌⊎◌, ℕ, List, Option, Some, None, inl, inr, sym, ◌∙◌, arith, IsTrue, true≢false}
use Rattle.sqlite_trees.specs.View.{doubt}
use Rattle.sqlite.specs.Order.{Row}
use Rattle.sqlite_resolve.specs.declared.compiled.Compiled.{Compiled}
use Rattle.sqlite_schema.specs.declared.command.Returning.{Returning}
use Rattle.sqlite.specs.declared.error.Error.{Error}
use Rattle.sqlite.specs.Clock.{timed}
use Rattle.sqlite.specs.State.{State, HasCleanDisk, IsUnchanged, IsRolledBack, IsNotRun, FailsToQuery, FailsToShow}
use Rattle.sqlite.specs.State.{Fails, KeepsCommit}
use Rattle.sqlite.specs.Steps.{FailsToCommit}

pub was_clean : (old new : State) → doubt old.is_clean ≤ doubt new.is_clean → HasCleanDisk new → HasCleanDisk old
was_clean old new up clean = omega arith

abbrev pub IsUnchangedOrUndone : State → State → Type 0
IsUnchangedOrUndone old new = IsUnchanged old new ⊎ IsRolledBack old new

failed : (old new : State) (big : Type 0) (e : Error) → Fails old new big e → IsUnchangedOrUndone old new
failed old new big e h = inr h.3

pub not_run : (old new : State) (sql : List ℕ) (params : Row) (e : Error) → IsNotRun old new sql params e
    → IsUnchangedOrUndone old new
unfolding IsNotRun
not_run old new sql params e (inl h) = inl h.1
not_run old new sql params e (inr h) = failed old new _ e h

failed_show : (sql : List ℕ) (old new : State) (e : Error) (c : Compiled) (params : Row) (what : Option Returning)
    → FailsToShow old new sql c params e what → IsUnchangedOrUndone old new
failed_show sql old new e c params None it = inl it.3
failed_show sql old new e c params (Some what) (inl refused) = inl refused.1
failed_show sql old new e c params (Some what) (inr fails) = failed old new _ e fails

pub failed_query : (sql : List ℕ) (params : Row) (old new : State) (e : Error) → FailsToQuery sql params old new e
    → IsUnchangedOrUndone old new
unfolding FailsToQuery
failed_query sql params old new e (inl h) = not_run old new sql params e h
failed_query sql params old new e (inr h) =
    failed_show sql old new e h.0 (timed params h.0.formats h.1.now) h.0.returning h.2

-- a commit that failed goes back to what was committed before
pub undone_now : (begun last exit : State) (e : Error) → KeepsCommit begun last → IsTrue last.in_transaction
    → FailsToCommit last exit e → IsTrue exit.is_open → IsTrue begun.is_open × (exit.now ≡ begun.committed)
undone_now begun last exit e keeps inside (inl fails) shown =
    (keeps.was_open (fails.3.was_open shown), (fails.3.undone shown).0 ∙ keeps.committed (fails.3.was_open shown))
undone_now begun last exit e keeps inside (inr late) shown = absurd (true≢false (sym inside ∙ late.1))
