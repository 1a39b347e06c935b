-- How the reading of a reply ends.
use Rattle.std.proofs.Common.{◌≡◌, ◌∙◌, ℕ, ◌+◌, ◌≤◌, inl, inr, Bool, false, Result, Ok, Err, refl, subst, sym, arith}
use Rattle.std.specs.Prelude.{IsErrAnd}
use Rattle.histories.specs.Calls.{FailsNone, Reads}
use Rattle.engine.specs.Causes.{most_reads}
use Rattle.control.specs.Line.{FailsAs, HearsReply, IsUnheard, NoneEnds, ReadsWell, Tries}
use Rattle.control.specs.declared.line.Came.{Came}
use Rattle.control.specs.declared.line.Came.TheVariants.{All, Part, Interrupted, Late}
use Rattle.control.specs.declared.line.ReadError.{ReadError}
use Rattle.control.specs.declared.line.ReadError.TheVariants.{Io, Memory}

none_more : {a b c : ℕ} → c ≡ b + 0 → b ≡ a → c ≡ a
none_more one before = omega (arith, one, before)

-- so many reads began or failed, and none of them ends the reading
pub record StillReads (reads_on : Bool) (tries : ℕ) (r s : Reads) : Type 0 where
  pub tried : Tries tries r s
  pub well : ReadsWell reads_on r s
  pub fewer : r.failed ≤ s.failed

module _ (on : Bool) where
  -- at first
  pub still_first : (r : Reads) → StillReads on 0 r r
  still_first r = record { tried = omega arith; well = (refl, λ _. refl); fewer = omega arith }

  module _ (n : ℕ) (r s t : Reads) (still : StillReads on n r s) where
    -- none that fails is counted as late or as broken
    well_still : FailsNone s t → ReadsWell on r t
    well_still (failed, late, broken) = (broken ∙ still.well.0, λ ends. late ∙ still.well.1 ends)

    fewer_still : FailsNone s t → r.failed ≤ t.failed
    fewer_still (failed, late, broken) = let few = still.fewer in omega (arith, failed, few)

    -- one more
    pub still_on : (came : Came) → Tries 1 s t → FailsAs s t (Ok came) → (on ≡ false → ¬ (came ≡ Late))
        → StillReads on (n + 1) r t
    still_on All one fails ends = record {
      tried = let tried = still.tried in omega (arith, tried, one);
      well = well_still fails;
      fewer = fewer_still fails;
    }
    still_on Part one fails ends = record {
      tried = let tried = still.tried in omega (arith, tried, one);
      well = well_still fails;
      fewer = fewer_still fails;
    }
    still_on Interrupted one (failed, late, broken) ends = record {
      tried = let tried = still.tried in omega (arith, tried, one);
      well = (none_more broken still.well.0, λ e. none_more late (still.well.1 e));
      fewer = let few = still.fewer in omega (arith, failed, few);
    }
    still_on Late one (failed, late, broken) ends = record {
      tried = let tried = still.tried in omega (arith, tried, one);
      well = (none_more broken still.well.0, λ e. absurd (ends e refl));
      fewer = let few = still.fewer in omega (arith, failed, few);
    }

    -- the last one, after which no more has to be read
    pub heard : FailsAs s t (Ok All) → ReadsWell on r t
    heard fails = well_still fails

    -- the last one, which failed
    unheard_for : (why : ReadError) → FailsAs s t (Err why) → HearsReply on r t (Err why)
    unheard_for Io (failed, late, broken) =
        let few = still.fewer in
        let before = still.well.0 in
        inl (omega (arith, broken, before), omega (arith, failed, few), λ e. none_more late (still.well.1 e))
    unheard_for Memory fails = well_still fails

    pub unheard : (why : ReadError) (read : Result (Unit {0}) ReadError) → IsErrAnd read (λ it. it ≡ why)
        → FailsAs s t (Err why) → HearsReply on r t read
    unheard why (Ok u) never fails = absurd never
    unheard why (Err it) is fails = subst (λ e. HearsReply on r t (Err e)) (sym is) (unheard_for why fails)

    -- the last one, which was late
    pub ended_late : on ≡ false → FailsAs s t (Ok Late) → IsUnheard on r t
    ended_late ends (failed, late, broken) =
        let few = still.fewer in
        let before = still.well.1 ends in
        inr (inl (ends, omega (arith, late, before), omega (arith, failed, few), none_more broken still.well.0))

  -- all that there are
  pub all_tried : (n : ℕ) (r s : Reads) → StillReads on n r s → most_reads ≤ n → IsUnheard on r s
  all_tried n r s still most = let tried = still.tried in inr (inr (omega (arith, tried, most), still.well))
