-- Stores that note the places of newcomers.
use Rattle.std.proofs.Common.{◌≡◌, Bool, true, false, refl, sym, ap, ◌∙◌, inl, inr, Result, Ok, Err}
use Rattle.std.proofs.Common.{Option, Some, None, List, ℕ}
use Rattle.std.specs.Prelude.{◌||◌, if◌then◌else◌, cond, not, is_some, unwrap_or}
use Rattle.std.specs.Ordering.{eq_by_cmp}
use Rattle.std.proofs.lemmas.Bool.{false≢true}
use Rattle.std.proofs.lemmas.Map.Views.{tells_apart}
use Rattle.std.specs.FinMap as map
use Rattle.std.specs.FinSet as set
use Rattle.world.specs.declared.entry.Entry.{Entry}
use Rattle.world.specs.declared.entry.Place.{Place}
use Rattle.world.specs.declared.entry.Right.{Right}
use Rattle.world.specs.declared.registry.RegistryReply.{RegistryReply}
use Rattle.world.specs.declared.registry.RegistryReply.TheVariants.{Done, Name, Taken, NoTeam, NoKey, NoGroup}
use Rattle.world.specs.declared.registry.StoreFault.{StoreFault}
use Rattle.world.specs.Registry.{after_team_add, after_group_add, after_key_add, after_key_revoke, after_keys_revoke}
use Rattle.world.specs.Registry.{team_added, group_added, lacks_group}
use Rattle.world.specs.Store.{Shown, AfterCrash, DoesAt, DoesWhere, Reads, IsRoomFor}
use Rattle.world.specs.World.{World, common, is_team_name, place_cmp, with_entry, with_shelf}
use Rattle.world.proofs.Orders.{get_elsewhere, places_total, places_exact, texts_total, texts_exact}
use Rattle.interleave.specs.Interleave.{IsSince, KeepsShelves}
use Rattle.interleave.specs.Noted.{IsNoted, NotesPlace, with_said}

-- ---- calls

-- a read leaves what is said of each world
pub noted_reads : {T : Type 0} (old new : Shown) (said : World → Type 0) (result : Result T StoreFault)
    (value : World → T) → Reads old new result value
    → Reads (with_said old said) (with_said new said) result value
noted_reads old new said result value reads = record {
  honest = reads.honest;
  at = λ h w stands. record {
    answer = (reads.at h w stands.0).answer;
    stays = ((reads.at h w stands.0).stays, stands.1);
    left = (reads.at h w stands.0).left;
  };
  cause = record { no_fewer = reads.cause.no_fewer; device = reads.cause.device };
}

module _ {T : Type 0} (old new : Shown) (said said_new : World → Type 0) (w : World) where
  crashed : (result : Result T StoreFault) (next : World) → AfterCrash old new w result next
      → AfterCrash (with_said old said) (with_said new said_new) w result next
  crashed result next crash = record {
    either = crash.either;
    alone = crash.alone;
    settled = crash.settled;
    failed = crash.failed;
  }

  done_at : (result : Result T StoreFault) (value : T) (next : World) → said_new next → said_new w
      → DoesAt old new w result value next
      → DoesAt (with_said old said) (with_said new said_new) w result value next
  unfolding crashed
  done_at (Ok x) value next later still does = record {
    answer = does.answer;
    ok = (does.ok, later);
    err = tt;
    crash = crashed (Ok x) next does.crash;
  }
  done_at (Err fault) value next later still does = record {
    answer = does.answer;
    ok = tt;
    err = (does.err, still);
    crash = crashed (Err fault) next does.crash;
  }

-- a change leaves it if it leads from worlds of which it is said to such worlds
pub noted_does : {T : Type 0} (fits : World → Type 0) (old new : Shown) (said said_new : World → Type 0)
    (result : Result T StoreFault) (value : World → T) (next : World → World)
    → ((w : World) → fits w → said w → said_new (next w)) → ((w : World) → fits w → said w → said_new w)
    → DoesWhere fits old new result value next
    → DoesWhere fits (with_said old said) (with_said new said_new) result value next
noted_does fits old new said said_new result value next later still does = record {
  honest = does.honest;
  at = λ h w stands may.
      done_at old new said said_new w result (value w) (next w) (later w may stands.1) (still w may stands.1)
      (does.at h w stands.0 may);
  cause = record { no_fewer = does.cause.no_fewer; device = does.cause.device };
}

-- ---- what is noted

module _ (was : World → Type 0) (before : set.FinSet place_cmp) where
  -- it goes by the entries and the shelves
  pub noted_entries : (lost : Bool) (now : set.FinSet place_cmp) (w x : World) → x.entries ≡ w.entries
      → KeepsShelves w x → IsNoted lost was before now w → IsNoted lost was before now x
  noted_entries true now w x same kept noted = tt
  noted_entries false now w x same kept noted = record {
    first = noted.first;
    stood = noted.stood;
    since = λ v at.
        let since = noted.since v at in
        record {
          shelves = λ s parent there. kept s parent (since.shelves s parent there);
          entries = λ q. since.entries q
              ∙ ap (λ entries. if set.contains now q then None else map.get entries q) (sym same);
        };
  }

  -- a place that is noted, of which it is told whether it is the one that was free
  with_one : (c : Bool) (b : Bool) (e : Entry) (old : Option Entry) → (b ≡ true → old ≡ None)
      → (if c then None else old) ≡ (if b || c then None else cond b (Some e) old)
  with_one true true e old free = refl
  with_one true false e old free = refl
  with_one false true e old free = free refl
  with_one false false e old free = refl

  without_one : (c : Bool) (b : Bool) (old : Option Entry) → (b ≡ true → old ≡ None)
      → (if c then None else old) ≡ (if b || c then None else old)
  without_one true true old free = refl
  without_one true false old free = refl
  without_one false true old free = free refl
  without_one false false old free = refl

  module _ (now : set.FinSet place_cmp) (w : World) (q : Place) (free : map.get w.entries q ≡ None) where
    free_at : (p : Place) → eq_by_cmp place_cmp p q ≡ true → map.get w.entries p ≡ None
    free_at p same = ap (map.get w.entries) (tells_apart places_exact p q same) ∙ free

    -- a place that is free is noted, and the world stays, or gets an entry there
    stays_since : (v : World) → IsSince v w now → IsSince v w (set.insert now q)
    stays_since v since = record {
      shelves = since.shelves;
      entries = λ p.
          since.entries p ∙ without_one (set.contains now p) (eq_by_cmp place_cmp p q) (map.get w.entries p) (free_at p)
          ∙ ap (λ b. if b then None else map.get w.entries p) (sym (set.contains-insert places_total now q p));
    }

    grows_since : (e : Entry) (v : World) → IsSince v w now → IsSince v (with_entry w q e) (set.insert now q)
    grows_since e v since = record {
      shelves = since.shelves;
      entries = λ p.
          since.entries p ∙ with_one (set.contains now p) (eq_by_cmp place_cmp p q) e (map.get w.entries p) (free_at p)
          ∙ (λ i. if sym (set.contains-insert places_total now q p) i then None
          else sym (map.get-insert places_total w.entries q e p) i);
    }

    noted_still : (lost : Bool) → IsNoted lost was before now w → IsNoted lost was before (set.insert now q) w
    noted_still true noted = tt
    noted_still false noted = record {
      first = noted.first;
      stood = noted.stood;
      since = λ v at. stays_since v (noted.since v at);
    }

    noted_grown : (e : Entry) (lost : Bool) → IsNoted lost was before now w
        → IsNoted lost was before (set.insert now q) (with_entry w q e)
    noted_grown e true noted = tt
    noted_grown e false noted = record {
      first = noted.first;
      stood = noted.stood;
      since = λ v at. grows_since e v (noted.since v at);
    }

  lost_all : (lost : Bool) (now : set.FinSet place_cmp) (w : World) → lost ≡ true → IsNoted lost was before now w
  lost_all true now w is = tt
  lost_all false now w is = absurd (false≢true is)

  module _ (now later : set.FinSet place_cmp) (lost lost_new : Bool) (q : Place) (e : Entry) (w : World)
      (notes : NotesPlace now later lost lost_new q) (room : IsRoomFor w q e)
      (noted : IsNoted lost was before now w) where
    -- the place of an entry was noted, and the entry is there now
    pub noted_insert : IsNoted lost_new was before later (with_entry w q e)
    noted_insert = elim notes [
      | inl all ↦ lost_all lost_new later (with_entry w q e) all
      | inr both ↦ rw (both.0, both.1) (noted_grown now w q room.free e lost noted)
    ]

    -- or it is not
    pub noted_fault : IsNoted lost_new was before later w
    noted_fault = elim notes [
      | inl all ↦ lost_all lost_new later w all
      | inr both ↦ rw (both.0, both.1) (noted_still now w q room.free lost noted)
    ]

-- ---- the shelves of worlds with one more

-- a name that was free is added
one_more_shelf : (w : World) (name : List ℕ) (parent : Option (List ℕ)) → map.contains_key w.shelves name ≡ false
    → KeepsShelves w (with_shelf w name parent)
one_more_shelf w name parent free s up there =
    get_elsewhere texts_total texts_exact w.shelves name parent s
    (λ same. false≢true (sym free ∙ ap is_some (ap (map.get w.shelves) (sym same) ∙ there))) ∙ there

team_kept : (w : World) (t : List ℕ) (group : Option (List ℕ)) (named taken lacks : Bool)
    → map.contains_key w.shelves t ≡ taken
    → KeepsShelves w (after_team_add w t group (if not named then Name else if taken then Taken
    else if lacks then NoGroup else Done))
team_kept w t group false taken lacks is s up there = there
team_kept w t group true true lacks is s up there = there
team_kept w t group true false true is s up there = there
team_kept w t group true false false is s up there =
    one_more_shelf w t (Some (unwrap_or group common)) is s up there

pub team_shelves : (w : World) (t : List ℕ) (group : Option (List ℕ))
    → KeepsShelves w (after_team_add w t group (team_added w t group))
team_shelves w t group =
    team_kept w t group (is_team_name t) (map.contains_key w.shelves t) (lacks_group w group) refl

group_kept : (w : World) (g : List ℕ) (named taken : Bool) → map.contains_key w.shelves g ≡ taken
    → KeepsShelves w (after_group_add w g (if not named then Name else if taken then Taken else Done))
group_kept w g false taken is s up there = there
group_kept w g true true is s up there = there
group_kept w g true false is s up there = one_more_shelf w g None is s up there

pub group_shelves : (w : World) (g : List ℕ) → KeepsShelves w (after_group_add w g (group_added w g))
group_shelves w g = group_kept w g (is_team_name g) (map.contains_key w.shelves g) refl

pub key_shelves : (w : World) (s k : List ℕ) (right : Right) (r : RegistryReply)
    → KeepsShelves w (after_key_add w s k right r)
key_shelves w s k right Done t up there = there
key_shelves w s k right Name t up there = there
key_shelves w s k right Taken t up there = there
key_shelves w s k right NoTeam t up there = there
key_shelves w s k right NoKey t up there = there
key_shelves w s k right NoGroup t up there = there

pub revoked_shelves : (w : World) (k : List ℕ) (r : RegistryReply) → KeepsShelves w (after_key_revoke w k r)
revoked_shelves w k Done t up there = there
revoked_shelves w k Name t up there = there
revoked_shelves w k Taken t up there = there
revoked_shelves w k NoTeam t up there = there
revoked_shelves w k NoKey t up there = there
revoked_shelves w k NoGroup t up there = there

pub all_revoked_shelves : (w : World) (s : List ℕ) (r : RegistryReply) → KeepsShelves w (after_keys_revoke w s r)
all_revoked_shelves w s Done t up there = there
all_revoked_shelves w s Name t up there = there
all_revoked_shelves w s Taken t up there = there
all_revoked_shelves w s NoTeam t up there = there
all_revoked_shelves w s NoKey t up there = there
all_revoked_shelves w s NoGroup t up there = there

-- ---- the entries of worlds with other shelves and keys

pub team_entries : (w : World) (t : List ℕ) (group : Option (List ℕ)) (r : RegistryReply)
    → (after_team_add w t group r).entries ≡ w.entries
team_entries w t group Done = refl
team_entries w t group Name = refl
team_entries w t group Taken = refl
team_entries w t group NoTeam = refl
team_entries w t group NoKey = refl
team_entries w t group NoGroup = refl

pub group_entries : (w : World) (g : List ℕ) (r : RegistryReply) → (after_group_add w g r).entries ≡ w.entries
group_entries w g Done = refl
group_entries w g Name = refl
group_entries w g Taken = refl
group_entries w g NoTeam = refl
group_entries w g NoKey = refl
group_entries w g NoGroup = refl

pub key_entries : (w : World) (s k : List ℕ) (right : Right) (r : RegistryReply)
    → (after_key_add w s k right r).entries ≡ w.entries
key_entries w s k right Done = refl
key_entries w s k right Name = refl
key_entries w s k right Taken = refl
key_entries w s k right NoTeam = refl
key_entries w s k right NoKey = refl
key_entries w s k right NoGroup = refl

pub revoked_entries : (w : World) (k : List ℕ) (r : RegistryReply) → (after_key_revoke w k r).entries ≡ w.entries
revoked_entries w k Done = refl
revoked_entries w k Name = refl
revoked_entries w k Taken = refl
revoked_entries w k NoTeam = refl
revoked_entries w k NoKey = refl
revoked_entries w k NoGroup = refl

pub all_revoked_entries : (w : World) (s : List ℕ) (r : RegistryReply)
    → (after_keys_revoke w s r).entries ≡ w.entries
all_revoked_entries w s Done = refl
all_revoked_entries w s Name = refl
all_revoked_entries w s Taken = refl
all_revoked_entries w s NoTeam = refl
all_revoked_entries w s NoKey = refl
all_revoked_entries w s NoGroup = refl
