-- How a transaction ends in which the tables came to stand for another world.
use Rattle.std.proofs.Common.{◌≡◌, ◌≤◌, ◌⊎◌, ℤ, Bool, true, false, Option, None, inl, inr, refl, sym, ap, subst, ◌∙◌}
use Rattle.std.proofs.Common.{IsTrue, true≢false}
use Rattle.sqlite_trees.specs.View.{doubt}
use Rattle.sqlite_trees.specs.declared.store.Store.{Ghosts}
use Rattle.sqlite.specs.Tree.{Trees}
use Rattle.sqlite.specs.Effect.{Database}
use Rattle.sqlite.specs.State.{State, HasCleanDisk, Shows, IsRolledBack, KeepsCommit, Survives}
use Rattle.sqlite.specs.Held.{Held, state}
use Rattle.sqlite.specs.Steps.{FailsToCommit}
use Rattle.sqlite.specs.declared.error.Error.{Error}
use Rattle.std.specs.FinMap as map
use Rattle.world.specs.declared.entry.Place.{Place}
use Rattle.world.specs.declared.entry.Entry.{Entry}
use Rattle.world.specs.World.{World, with_entry}
use Rattle.tables.specs.Means.{Holds, Stands, StandFor}
use Rattle.statements.specs.Calls.{LeavesOnly, ChangesAt}
use Rattle.statements.specs.Rows.{Writing, Filling}
use Rattle.statements.specs.Added.{HasAdded}
use Rattle.tables.proofs.FailureLemmas.{was_clean}
use Rattle.statements.proofs.RowLemmas.{filling_of, writing_of}
use Rattle.statements.proofs.TransactionLemmas.{entry_means}
use Rattle.statements.proofs.WriteLemmas.{open_leaves}

true_or_false : (b : Bool) → IsTrue b ⊎ (b ≡ false)
true_or_false true = inl refl
true_or_false false = inr refl

-- a commit that failed inside a transaction undid it
commit_failed : (last exit : State) (x : Error) → IsTrue last.in_transaction → FailsToCommit last exit x
    → IsRolledBack last exit
commit_failed last exit x inside (inl fails) = fails.3
commit_failed last exit x inside (inr late) = absurd (true≢false (sym inside ∙ late.1))

module _ {S : Type 0} (g : Ghosts S) (h : Held S) (last exit : State) (w next : World)
    (opened : HasCleanDisk (state g h) → IsTrue (state g h).is_open) where
  abbrev old : State
  old = state g h

  -- `transaction` does nothing to the tables
  abbrev begun : State
  begun = state g (record h { in_transaction = true })

  pub begins_writing : HasCleanDisk old → Stands old w → Writing begun w
  begins_writing clean stands =
      let holds = stands clean (opened clean) in
      record { schema = holds.schema; trees = holds.trees; is_open = opened clean; inside = refl }

  module _ (law : (db : Trees) → IsTrue old.is_open → old.may_leave db → db ≡ old.committed.trees)
      (quiet : Survives begun last (λ _. ⊥)) where
    -- a crash leaves what it left before the transaction, or what the end of it writes
    left_by : (P : Trees → Type 0) → Survives last exit P → HasCleanDisk exit → (db : Trees) → exit.may_leave db
        → old.may_leave db ⊎ P db
    left_by P ends clean db may = elim (ends.crash clean db may) [
      | inl was ↦ elim (quiet.crash (was_clean last exit ends.clean clean) db was) [
        | inl first ↦ inl first
        | inr none ↦ absurd none
      ]
      | inr it ↦ inr it
    ]

    -- a transaction that wrote the next world and was committed is a change that was done
    committed_to : ((db : Trees) → IsTrue exit.is_open → exit.may_leave db → db ≡ exit.committed.trees)
        → (HasCleanDisk last → Stands old w → Writing last next)
        → Survives last exit (λ db. db ≡ last.now.trees) → (HasCleanDisk exit → Shows last exit last.now last.now false)
        → ChangesAt old exit true w next
    committed_to settled made ends shown =
        let late = was_clean last exit ends.clean in
        let holds = λ (clean : HasCleanDisk exit) (stands : Stands old w).
        let it = made (late clean) stands in
        let end = shown clean in
        let held : Holds exit next = record {
          schema = ap (λ (d : Database). d.schema) end.now_is ∙ it.schema;
          settled = end.now_is ∙ sym end.committed_is;
          autocommit = end.mode;
          trees = subst (λ (d : Database). StandFor d.trees next) (sym end.now_is) it.trees;
        } in held in
        record {
          world = λ stands clean _. holds clean stands;
          left = λ clean stands only db may. elim (left_by (λ t. t ≡ last.now.trees) ends clean db may) [
            | inl first ↦ (let it = only db first in (it.0, it.1, inl it.2))
            | inr made_so ↦ (
              next,
              subst (λ t. StandFor t next) (sym made_so) (made (late clean) stands).trees,
              inr refl,
            )
          ];
          alone = λ _ clean stands. open_leaves exit next (λ db. settled db (shown clean).is_open) (holds clean stands);
          failed = λ unfinished. absurd (true≢false unfinished);
        }

    -- a transaction that was rolled back is a change that was not done
    undone_to : (HasCleanDisk last → KeepsCommit begun last) → doubt last.is_clean ≤ doubt exit.is_clean
        → (HasCleanDisk exit → Stands old w → IsRolledBack last exit)
        → (P : Trees → Type 0) → (HasCleanDisk exit → Stands old w → (db : Trees) → P db → StandFor db next)
        → Survives last exit P → ChangesAt old exit false w next
    undone_to keeps up back P made ends = record {
      world = λ stands clean shown.
          let late = was_clean last exit up clean in
          let b = back clean stands in
          let k = keeps late in
          let was = was_clean begun last quiet.clean late in
          let holds = stands was (opened was) in
          let now : exit.now ≡ old.now = (b.undone shown).0 ∙ (k.committed (b.was_open shown) ∙ sym holds.settled) in
          record {
            schema = ap (λ (d : Database). d.schema) now ∙ holds.schema;
            settled = (b.undone shown).0 ∙ sym (b.undone shown).1;
            autocommit = b.autocommit;
            trees = subst (λ (d : Database). StandFor d.trees w) (sym now) holds.trees;
          };
      left = leaves;
      alone = λ done. absurd (true≢false (sym done));
      failed = λ _ clean stands. inl (leaves clean stands (old_alone clean stands));
    }
      where
        -- the connection was open, so a crash left what it showed
        old_alone : HasCleanDisk exit → Stands old w → LeavesOnly old (λ x. x ≡ w)
        old_alone clean stands =
            let was = was_clean begun last quiet.clean (was_clean last exit up clean) in
            open_leaves old w (λ db. law db (opened was)) (stands was (opened was))

        leaves : HasCleanDisk exit → Stands old w → LeavesOnly old (λ x. x ≡ w)
            → LeavesOnly exit (λ x. (x ≡ w) ⊎ (x ≡ next))
        leaves clean stands only db may = elim (left_by P ends clean db may) [
          | inl first ↦ (let it = only db first in (it.0, it.1, inl it.2))
          | inr it ↦ (next, made clean stands db it, inr refl)
        ]

    module _ (is_whole : Bool) (undone : HasCleanDisk exit → is_whole ≡ false → IsRolledBack last exit)
        (ends : IsTrue is_whole → Survives last exit (λ db. db ≡ last.now.trees))
        (lost : is_whole ≡ false → Survives last exit (λ _. ⊥)) (keeps : HasCleanDisk last → KeepsCommit begun last)
        (made : HasCleanDisk last → Stands old w → IsTrue is_whole → Writing last next) where
      not_whole : is_whole ≡ false → ChangesAt old exit false w next
      not_whole unfinished = undone_to keeps (lost unfinished).clean (λ clean _. undone clean unfinished) (λ _. ⊥)
          (λ _ _ _ none. absurd none) (lost unfinished)

      -- `commit_if` ended it
      pub ended_by : (HasCleanDisk exit → IsTrue is_whole → Shows last exit last.now last.now false)
          → ((db : Trees) → IsTrue exit.is_open → exit.may_leave db → db ≡ exit.committed.trees)
          → ChangesAt old exit is_whole w next
      ended_by shown settled = elim (true_or_false is_whole) [
        | inl all ↦ subst (λ b. ChangesAt old exit b w next) (sym all)
            (committed_to settled (λ late stands. made late stands all) (ends all) (λ clean. shown clean all))
        | inr unfinished ↦ subst (λ b. ChangesAt old exit b w next) (sym unfinished) (not_whole unfinished)
      ]

      -- `commit_if` failed
      pub failed_by : (x : Error) → (HasCleanDisk exit → IsTrue is_whole → FailsToCommit last exit x)
          → ChangesAt old exit false w next
      failed_by x fails = elim (true_or_false is_whole) [
        | inl all ↦ (
            let late = was_clean last exit (ends all).clean in
            undone_to keeps (ends all).clean
            (λ clean stands. commit_failed last exit x (made (late clean) stands all).inside (fails clean all))
            (λ db. db ≡ last.now.trees)
            (λ clean stands db at. subst (λ t. StandFor t next) (sym at) (made (late clean) stands all).trees)
            (ends all))
        | inr unfinished ↦ not_whole unfinished
      ]

-- once the rows of an entry are added inside a transaction, its tables stand for the world with the entry
pub entry_written : (number : Option ℤ) (begun last : State) (w : World) (p : Place) (e : Entry)
    → map.get w.entries p ≡ None → Writing begun w
    → (Filling begun → HasAdded number begun.now.trees last.now.trees p e × Filling last)
    → Writing last (with_entry w p e)
entry_written number begun last w p e unused writing add =
    let it = add (filling_of begun w writing) in
    writing_of last (with_entry w p e) it.1
    (entry_means w p e unused number begun.now.trees last.now.trees writing.trees.sound it.0 writing.trees.means)
