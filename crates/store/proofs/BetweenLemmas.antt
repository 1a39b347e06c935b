-- A copy that is made a slice at a time, from call to call.
use Rattle.std.proofs.Common.{◌≡◌, ◌≢◌, ◌≤◌, ℕ, ℤ, cond, None, Some, Result, Err, MatchOption, IsTrue, is_ok, inl, inr}
use Rattle.std.proofs.Common.{refl, sym, ap, subst, arith}
use Rattle.std.specs.FinMap as map
use Rattle.std.specs.FinSet as set
use Rattle.sqlite.specs.State.{State, HasCleanDisk}
use Rattle.sqlite_trees.specs.View.{doubt}
use Rattle.cache.specs.declared.caches.Caches.{Caches}
use Rattle.cache.specs.Caches.{AreKept}
use Rattle.interleave.specs.Interleave.{IsAsItWas, IsSince, Notes}
use Rattle.slices.specs.Slices.{HoldsAllBut, HoldsPart, HoldsUpTo}
use Rattle.slices.proofs.HoldLemmas.{begun, whole}
use Rattle.slices.specs.declared.cursor.Cursor.{Cursor}
use Rattle.setup.specs.Extracted.{HasCauseInEither}
use Rattle.setup.specs.Parts.{SaysOfCopy, FillsAt}
use Rattle.store_files.specs.declared.refusal.StoreRefusal.{StoreRefusal}
use Rattle.store_files.specs.declared.refusal.StoreRefusal.TheVariants as refusal
use Rattle.setup.proofs.PutLemmas.{spared_at}
use Rattle.statements.specs.Calls.{Spares, ChangesAt}
use Rattle.statements.proofs.ChangeLemmas.{spares_at}
use Rattle.statements.specs.Rows.{Writing}
use Rattle.tables.specs.Means.{Stands, StandsFor}
use Rattle.tables.proofs.FailureLemmas.{was_clean}
use Rattle.tables.proofs.OneWorld.{stand_for_one}
use Rattle.world.specs.Store.{GrewOrFull}
use Rattle.world.specs.World.{World, IsWorld, only_common, place_cmp}
use Rattle.world.specs.declared.registry.StoreFault.{StoreFault}
use Rattle.world.specs.declared.registry.StoreFault.TheVariants.{Device}
use Rattle.store.specs.Between.{HoldsIn}
use Rattle.store.specs.Counted.{counting}
use Rattle.store.specs.Shown.{shown_of, shown_with}
use Rattle.store.proofs.CountedLemmas.{counts_once, counts_same}
use Rattle.store.proofs.ExtractedLemmas.{fills_at}

-- a connection that was only read, with the same kept and count, is a store that is as it was
pub only_read : (a b : State) (kept kept_new : Caches) (n n_new : ℕ) → Spares a b → kept_new ≡ kept → n_new ≡ n
    → IsAsItWas (shown_with a kept n) (shown_with b kept_new n_new)
only_read a b kept kept_new n n_new spares same count = record {
  honest = was_clean a b spares.clean;
  stays = λ clean w so. ((spares.stays w so.0.0, so.0.1), subst (AreKept w) (sym same) so.1);
  left = λ clean w x y so only db may. only db (spares.left clean w so.0.0 db may);
  failures = omega (arith, count);
}

-- an open connection stands for one world
pub one_world : (s : State) (w x : World) → HasCleanDisk s → IsTrue s.is_open → Stands s w → Stands s x → w ≡ x
one_world s w x clean shown one two =
    stand_for_one s.now.trees w x (one clean shown).trees.means (two clean shown).trees.means

-- after a slice, whose connection is open, and a turn, the transaction holds what it held after the slice
pub held_on : (a b : State) (kept kept_new : Caches) (n m : ℕ) (before after : set.FinSet place_cmp) (w : World)
    (next : Cursor) (reached : State)
    → Notes (shown_with a kept n) (shown_with b kept_new m) before after
    → (HasCleanDisk b → HasCleanDisk a) → HasCleanDisk b → (later : World) → (shown_with a kept n).stands later
    → IsTrue a.is_open → IsSince w later before → HoldsUpTo w next reached
    → HoldsIn (shown_with b kept_new m) w after next reached
held_on a b kept kept_new n m before after w next reached notes honest clean later stands shown since holds =
    let it = notes clean later stands in
    let same : it.was ≡ later = one_world a it.was later (honest clean) shown it.stood.0.0 stands.0.0 in
    record {
      later = it.later;
      stands = it.stands;
      since = it.since w (subst (λ v. IsSince w v before) (sym same) since);
      holds = holds;
    }

-- a world is since no newcomers came what it is
pub since_itself : (w : World) → IsSince w w set.empty
since_itself w = record {
  shelves = λ s parent up. up;
  entries = λ q. sym (ap (λ b. cond b None (map.get w.entries q)) (set.contains-empty place_cmp q));
}

-- once nothing is left, and no part is under way, the transaction holds the world
pub done_is_whole : (w : World) (at : Cursor) (s : State) → (at.left ≡ 0) × (at.part ≡ None) → HoldsUpTo w at s
    → Writing s w
done_is_whole w at s done holds =
    let all = subst (λ o. MatchOption o (HoldsAllBut w at.left s)
    (λ part. (id : ℤ) × (at.from ≡ Some id) × HoldsPart w at.left part.place id part.next s)) done.1 holds in
    whole w s (subst (λ n. HoldsAllBut w n s) done.0 all)

-- the walk begins with all entries left
pub begins_walk : (w y : World) (at : Cursor) (s : State) → y.shelves ≡ w.shelves → y.keys ≡ w.keys
    → y.entries ≡ map.empty → at.left ≡ map.len w.entries → at.part ≡ None → Writing s y → HoldsUpTo w at s
begins_walk w y at s shelves keys none left part writing =
    subst (λ o. MatchOption o (HoldsAllBut w at.left s)
    (λ p. (id : ℤ) × (at.from ≡ Some id) × HoldsPart w at.left p.place id p.next s)) (sym part)
    (subst (λ n. HoldsAllBut w n s) (sym left) (begun w y s shelves keys none writing))

-- ---- how a copy ends

-- no failure is counted for another result than `Device`
pub no_cause : (n m : ℕ) (r : Result (Unit {0}) StoreRefusal) → r ≢ Err refusal.Device → HasCauseInEither n n m m r
no_cause n m r other = record {
  no_fewer = omega arith;
  no_fewer_too = omega arith;
  device = λ is. absurd (other is);
  once = omega arith;
  stays = λ _. (refl, refl);
}

-- a fault is counted once, by the store that met it, and only for `Device`
module _ (n now m : ℕ) (fault : StoreFault) (why : StoreRefusal) (no_fewer : n ≤ now)
    (device : fault ≡ Device → GrewOrFull n now) (counts : now ≡ counting fault n)
    (named : why ≡ refusal.Device → fault ≡ Device) (told : fault ≡ Device → why ≡ refusal.Device) where
  grew : ◌≡◌ {A = Result (Unit {0}) StoreRefusal} (Err why) (Err refusal.Device) → GrewOrFull n now
  grew is = let same : why ≡ refusal.Device = cc in device (named same)

  still : ◌≢◌ {A = Result (Unit {0}) StoreRefusal} (Err why) (Err refusal.Device) → now ≡ n
  still other = counts_same fault n now counts (λ is. other (ap (λ r. Err r) (told is)))

  pub source_cause : HasCauseInEither n now m m (Err why)
  source_cause = record {
    no_fewer = no_fewer;
    no_fewer_too = omega arith;
    device = λ is. inl (grew is);
    once = let one = counts_once fault n now counts in omega (arith, one);
    stays = λ other. (still other, refl);
  }

  pub fresh_cause : HasCauseInEither m m n now (Err why)
  fresh_cause = record {
    no_fewer = omega arith;
    no_fewer_too = no_fewer;
    device = λ is. inr (grew is);
    once = let one = counts_once fault n now counts in omega (arith, one);
    stays = λ other. (refl, still other);
  }

module _ (old mid : State) (w x : World) (is : IsWorld w) (stands : StandsFor old x) (spares : Spares old mid) where
  -- a store that was only read is filled with nothing
  pub unwritten_at : (why : StoreRefusal) → HasCleanDisk mid → SaysOfCopy (Unit {0}) x (Err why)
      → FillsAt (shown_of old) (shown_of mid) (Unit {0}) w x (Err why)
  unwritten_at why clean tells =
      fills_at old mid (Unit {0}) w x (Err why) clean stands is (spared_at old mid x w spares) tells

  -- a store that had only `common` comes to stand for w, or for what it stood for
  pub written_at : (new : State) (result : Result (Unit {0}) StoreRefusal) → HasCleanDisk new → x ≡ only_common
      → doubt mid.is_clean ≤ doubt new.is_clean → ChangesAt mid new (is_ok result) only_common w
      → SaysOfCopy (Unit {0}) x result → FillsAt (shown_of old) (shown_of new) (Unit {0}) w x result
  written_at new result clean blank up change tells =
      fills_at old new (Unit {0}) w x result clean stands is
      (spares_at old mid new (is_ok result) x w spares up
      (subst (λ (u : World). ChangesAt mid new (is_ok result) u w) (sym blank) change)) tells
