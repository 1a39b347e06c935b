-- Why one walk after another over the rows of an older store fails.
use Rattle.std.proofs.Common.{◌≡◌, ◌≤◌, Bool, true, false, Ok, Err, Result, inl, inr, refl, ap, subst, ◌∙◌, IsTrue}
use Rattle.std.proofs.lemmas.Bool.{cases_Bool}
use Rattle.sqlite_trees.specs.View.{doubt}
use Rattle.sqlite.specs.Tree.{Trees}
use Rattle.sqlite.specs.Effect.{Database}
use Rattle.sqlite.specs.State.{State, HasCleanDisk}
use Rattle.tables.proofs.CauseLemmas.{IsOnItsWay, excused_since, on_its_way}
use Rattle.tables.proofs.FailureLemmas.{was_clean}
use Rattle.older.specs.declared.schema.Format.{Format}
use Rattle.older.specs.Schemas.{schema_of}
use Rattle.statements.specs.declared.extract_rows.CopyError.{CopyError}
use Rattle.statements.specs.declared.extract_rows.CopyError.TheVariants.{Source, Fresh}
use Rattle.older_rows.specs.Causes.{IsVastAs, HasReasonIf, FailsAs}
use Rattle.older_rows.specs.Visits.{IsReadyAs, Moves}

-- the reason for a failure after a walk over all rows
module _ (format : Format) (P : Trees → Trees → Trees → Type 0) (s t u a b : State) (p : Moves format P s t a b true)
    (up : doubt t.is_clean ≤ doubt u.is_clean) where
  since : (e : CopyError) → IsOnItsWay s t → t.now ≡ s.now → HasReasonIf format t u e → HasReasonIf format s u e
  since (Source e) way same (inl excused) = inl (excused_since s t u e way excused)
  since (Source e) way same (inr vast) = inr (subst (IsVastAs format) same vast)
  since (Fresh e) way same reason = tt

  shut : (e : CopyError) → s.is_open ≡ false → HasReasonIf format s u e
  shut (Source e) closed = inl (inr (inl closed))
  shut (Fresh e) closed = tt

  opened_then : (e : CopyError) → IsTrue s.is_open → s.now.schema ≡ schema_of format → HasCleanDisk u
      → FailsAs {X = Bool} format t u (Err e) → HasReasonIf format s u e
  opened_then e opened has clean next =
      let late = was_clean t u up clean in
      let ready : IsReadyAs format s = λ _. (opened, has) in
      let same = (p.reads ready).same late refl in
      since e (on_its_way s t (λ _. ⊥) (p.survives late ready) same.0.is_open) same.0.now_is
      (next clean (ap (λ (d : Database). d.schema) same.0.now_is ∙ has))

  pub fails_then : (r : Result Bool CopyError) → FailsAs format t u r → FailsAs format s u r
  fails_then (Ok x) next clean has = tt
  fails_then (Err e) next clean has =
      elim (cases_Bool s.is_open) [ inl opened ↦ opened_then e opened has clean next | inr closed ↦ shut e closed ]
