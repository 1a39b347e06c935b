-- Tables that were tested, and what they stand for.
use Rattle.std.proofs.Common.{◌≡◌, Bool, true, false, Result, Ok, Err, IfOk, refl, sym, subst, ◌∙◌, IsTrue, true≢false}
use Rattle.sqlite.specs.State.{State, HasCleanDisk, IsUnchanged, IsLive}
use Rattle.sqlite.specs.declared.error.Error.{Error}
use Rattle.sqlite_catalog.specs.Listing.{IsSound}
use Rattle.tables.specs.Schema.{store_schema}
use Rattle.tables.specs.Means.{StandsForSome, StandsForNone}
use Rattle.tables.specs.Walks.{Tests}
use Rattle.tables.specs.Fit.{AreFit}
use Rattle.tables.proofs.WorldOf.{world_of, fit_means, fit_world}
use Rattle.tables.proofs.WorldFits.{world_fits}

module _ (old new : State) (has : old.now.schema ≡ store_schema) (clean : HasCleanDisk new) where
  found_world : IsLive old → Tests old new (Ok true) AreFit → IsUnchanged old new × StandsForSome old.now
  found_world live tests =
      let same = tests.same clean has in
      let db = old.now.trees in
      let sound : IsSound store_schema db = subst (λ s. IsSound s db) has (live same.0.was_open).0 in
      let fit = (tests.answer clean has).0 refl in (
        same,
        record {
          schema = has;
          world = world_of db;
          trees =
              record { sound = sound; means = fit_means db sound fit };
          is = fit_world db sound fit;
        },
      )

  pub found_some : (r : Result Bool Error) → IsLive old → Tests old new r AreFit
      → IfOk r (λ b. IsTrue b → IsUnchanged old new × StandsForSome old.now)
  found_some (Ok true) live tests = λ _. found_world live tests
  found_some (Ok false) live tests = λ no. absurd (true≢false (sym no))
  found_some (Err e) live tests = tt

  pub found_none : (r : Result Bool Error) → IsLive old → Tests old new r AreFit
      → IfOk r (λ b. b ≡ false → StandsForNone old.now)
  found_none (Ok b) live tests = λ no _ w means is.
      let sound : IsSound store_schema old.now.trees =
      subst (λ s. IsSound s old.now.trees) has (live (tests.same clean has).0.was_open).0 in
      true≢false (sym ((tests.answer clean has).1 (world_fits old.now.trees w sound means is)) ∙ no)
  found_none (Err e) live tests = tt
