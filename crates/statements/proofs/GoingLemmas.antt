-- A transaction that goes on.
use Rattle.std.proofs.Common.{◌≤◌, Bool, true, inl, refl, ◌∙◌, arith, IsTrue}
use Rattle.sqlite_trees.specs.View.{doubt}
use Rattle.sqlite.specs.State.{State, HasCleanDisk, Survives, KeepsCommit}
use Rattle.sqlite.proofs.StateLemmas.{survives_then}
use Rattle.tables.proofs.FailureLemmas.{was_clean}
use Rattle.statements.specs.Rows.{GoesOn}

survives_itself : (a : State) → Survives a a (λ _. ⊥)
survives_itself a = record {
  clean = omega arith;
  shield = λ s. s;
  counts = omega arith;
  limit = refl;
  closes = λ _ is. inl is;
  crash = λ _ db may. inl may;
}

pub goes_on_itself : (a : State) → GoesOn a a true
goes_on_itself a = record {
  survives = survives_itself a;
  commit = λ _ _.
      record { was_open = λ is. is; committed = λ _. refl };
  inside = λ _ is _. is;
}

-- a transaction that goes on after a call that is done does so too after one that need not be
pub goes_on_or_ends : (a b : State) (done : Bool) → GoesOn a b true → GoesOn a b done
goes_on_or_ends a b done p =
    record { survives = p.survives; commit = p.commit; inside = λ clean is _. p.inside clean is refl }

pub stays_quiet : (a b c : State) → Survives a b (λ _. ⊥) → Survives b c (λ _. ⊥) → Survives a c (λ _. ⊥)
stays_quiet a b c p q = survives_then a b c _ _ (λ _. ⊥) (λ _ db none. none) (λ _ db none. none) p q

keeps_both : (a b c : State) → KeepsCommit a b → KeepsCommit b c → KeepsCommit a c
keeps_both a b c p q = record {
  was_open = λ is. p.was_open (q.was_open is);
  committed = λ is. q.committed is
      ∙ p.committed (q.was_open is);
}

commit_then : (a b c : State) → GoesOn a b true → doubt b.is_clean ≤ doubt c.is_clean
    → (HasCleanDisk c → IsTrue b.in_transaction → KeepsCommit b c) → HasCleanDisk c → IsTrue a.in_transaction
    → KeepsCommit a c
commit_then a b c p up next clean inside = let was = was_clean b c up clean in
    keeps_both a b c (p.commit was inside) (next clean (p.inside was inside refl))

pub goes_on_then : (a b c : State) (done : Bool) → GoesOn a b true → GoesOn b c done → GoesOn a c done
goes_on_then a b c done p q = record {
  survives = stays_quiet a b c p.survives q.survives;
  commit = commit_then a b c p q.survives.clean q.commit;
  inside = λ clean is all. q.inside clean (p.inside (was_clean b c q.survives.clean clean) is refl) all;
}
