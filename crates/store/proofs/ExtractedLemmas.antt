-- Some shelves, written whole or not at all, as a call of a store.
use Rattle.std.proofs.Common.{◌≡◌, ◌≢◌, ℕ, Result, Ok, Err, is_ok, inl, inr, refl, sym, subst}
use Rattle.sqlite.specs.State.{State, HasCleanDisk}
use Rattle.world.specs.World.{World, IsWorld}
use Rattle.tables.specs.Means.{Stands, StandsFor}
use Rattle.tables.proofs.FailureLemmas.{was_clean}
use Rattle.std.specs.Prelude.{OnOk, OnErr}
use Rattle.statements.specs.Calls.{Spares, ChangesAt}
use Rattle.store.specs.Shown.{shown_of, shown_with}
use Rattle.cache.specs.declared.caches.Caches.{Caches}
use Rattle.cache.specs.Caches.{AreKept, IsNothing}
use Rattle.cache.proofs.KeptLemmas.{nothing_kept}
use Rattle.setup.specs.Extracted.{IsRead, IsUnfit, AfterFill}
use Rattle.setup.specs.Parts.{SaysOfCopy, FillsAt, FillsBy}
use Rattle.store_files.specs.declared.refusal.StoreRefusal.{StoreRefusal}
use Rattle.store_files.specs.declared.refusal.StoreRefusal.TheVariants as refusal
use Rattle.store.proofs.StoreLemmas.{narrow}

pub done_is_fit : IsUnfit (Ok tt) → ⊥
done_is_fit (inl e) = cc
done_is_fit (inr e) = cc

pub fault_is_fit : (r : StoreRefusal) → r ≢ refusal.NotEmpty → r ≢ refusal.NoTeam → IsUnfit (Err r) → ⊥
fault_is_fit r some none (inl e) = let it : r ≡ refusal.NoTeam = cc in none it
fault_is_fit r some none (inr e) = let it : r ≡ refusal.NotEmpty = cc in some it

pub is_read : (a b : State) → Spares a b → IsRead (shown_of a) (shown_of b)
is_read a b spares = record {
  honest = was_clean a b spares.clean;
  stays = λ clean w stands. (spares.stays w stands.0, stands.1);
  left = λ clean w x y stands only db may. only db (spares.left clean w stands.0 db may);
}

pub fault_tells : (There : Type 0) (x : World) (r : StoreRefusal) → r ≢ refusal.BadSchema → r ≢ refusal.NotEmpty
    → r ≢ refusal.NoTeam → SaysOfCopy There x (Err r)
fault_tells There x refusal.Device a b c = tt
fault_tells There x refusal.Memory a b c = tt
fault_tells There x refusal.BadSchema a b c = absurd (a refl)
fault_tells There x refusal.NotEmpty a b c = absurd (b refl)
fault_tells There x refusal.NoTeam a b c = absurd (c refl)

-- after a change from x to the next world, done if the result is Ok, a crash leaves what `AfterFill` says
pub after_fill : (old new : State) (x next : World) (result : Result (Unit {0}) StoreRefusal) → HasCleanDisk new
    → Stands old x → ChangesAt old new (is_ok result) x next
    → AfterFill (shown_of old) (shown_of new) x result next
after_fill old new x next (Ok u) clean stands change = record {
  either = λ only. change.left clean stands (narrow old x only);
  alone = λ db may. let it = change.alone refl clean stands db may in (it.0, it.1, inl it.2);
  failed = tt;
}
after_fill old new x next (Err e) clean stands change = record {
  either = λ only. change.left clean stands (narrow old x only);
  alone = tt;
  failed = elim (change.failed refl clean stands) [
    | inl two ↦ inl two
    | inr none ↦ inr (λ y z only db may. only db (none db may))
  ];
}

-- what a crash leaves does not depend on what the store keeps
pub fill_kept : (old new : State) (kept kept_new : Caches) (n n_new : ℕ) (x next : World)
    (result : Result (Unit {0}) StoreRefusal)
    → AfterFill (shown_of old) (shown_of new) x result next
    → AfterFill (shown_with old kept n) (shown_with new kept_new n_new) x result next
fill_kept old new kept kept_new n n_new x next result after =
    record { either = after.either; alone = after.alone; failed = after.failed }

-- a change from x to the next world, done if the result is Ok, fills the store as `FillsAt` says, without what it
-- keeps
pub fills_at : (old new : State) (There : Type 0) (next x : World) (result : Result (Unit {0}) StoreRefusal)
    → HasCleanDisk new → StandsFor old x → IsWorld next
    → ChangesAt old new (is_ok result) x next → SaysOfCopy There x result
    → FillsAt (shown_of old) (shown_of new) There next x result
fills_at old new There next x (Ok u) clean stands is change tells = record {
  tells = tells;
  ok = (change.world stands.0, is);
  err = tt;
  crash = after_fill old new x next (Ok u) clean stands.0 change;
}
fills_at old new There next x (Err e) clean stands is change tells = record {
  tells = tells;
  ok = tt;
  err = (change.world stands.0, stands.1);
  crash = after_fill old new x next (Err e) clean stands.0 change;
}

-- ---- with what the stores keep

on_ok_both : (A : Type 0) {B : Type 0} (r : Result (Unit {0}) StoreRefusal) → B → OnOk r A → OnOk r (A × B)
on_ok_both A (Ok u) b a = (a, b)
on_ok_both A (Err e) b a = tt

on_err_both : (A : Type 0) {B : Type 0} (r : Result (Unit {0}) StoreRefusal) → B → OnErr r A → OnErr r (A × B)
on_err_both A (Ok u) b a = tt
on_err_both A (Err e) b a = (a, b)

-- so does what `FillsAt` says, if the fresh store keeps nothing
pub fills_at_kept : (There : Type 0) (next x : World) (a b : State) (old new : Caches) (n m : ℕ)
    (r : Result (Unit {0}) StoreRefusal) → IsNothing new → FillsAt (shown_of a) (shown_of b) There next x r
    → FillsAt (shown_with a old n) (shown_with b new m) There next x r
fills_at_kept There next x a b old new n m r none it = record {
  tells = it.tells;
  ok = on_ok_both (StandsFor b next) r (nothing_kept next new none) it.ok;
  err = on_err_both (StandsFor b x) r (nothing_kept x new none) it.err;
  crash = fill_kept a b old new n m x next r it.crash;
}

-- so does what a store that was only read shows
pub read_kept : (a b : State) (old new : Caches) (n m : ℕ) → IsNothing new → IsRead (shown_of a) (shown_of b)
    → IsRead (shown_with a old n) (shown_with b new m)
read_kept a b old new n m none read = record {
  honest = read.honest;
  stays = λ h w so. (read.stays h w so.0, nothing_kept w new none);
  left = λ h w x y so. read.left h w x y so.0;
}

-- a fill holds with what the stores keep too, if the source keeps what it did, and the fresh store nothing
pub fills_kept : (There : World → Type 0) (next : World → World) (a a_new b b_new : State)
    (kept kept_new old new : Caches) (n n_new m m_new : ℕ) (r : Result (Unit {0}) StoreRefusal) → kept_new ≡ kept
    → IsNothing new → FillsBy There next (shown_of a) (shown_of a_new) (shown_of b) (shown_of b_new) r
    → FillsBy There next (shown_with a kept n) (shown_with a_new kept_new n_new) (shown_with b old m)
    (shown_with b_new new m_new) r
fills_kept There next a a_new b b_new kept kept_new old new n n_new m m_new r same none does = record {
  reads = record {
    honest = does.reads.honest;
    stays = λ h w so. (does.reads.stays h w so.0, subst (AreKept w) (sym same) so.1);
    left = λ h w x y so. does.reads.left h w x y so.0;
  };
  honest = does.honest;
  spares = λ unfit. read_kept b b_new old new m m_new none (does.spares unfit);
  at = λ h good w x sw sx.
      fills_at_kept (There w) (next w) x b b_new old new m m_new r none (does.at h good w x sw.0 sx.0);
}
