-- Calls on the tables as calls of a store.
use Rattle.std.proofs.Common.{ℕ, List, [], ◌∷◌, ◌≡◌, ◌≤◌, false, Option, None, Result, Ok, Err, IsErr, true≢false, inl}
use Rattle.std.proofs.Common.{inr, refl, sym, ap, subst, ◌∙◌, is_ok, arith}
use Rattle.std.specs.FinMap as map
use Rattle.std.specs.Prelude.{IfOk, OnOk, OnErr, IsErrAnd}
use Rattle.std.proofs.lemmas.Result.{err_from_is_err_and}
use Rattle.sqlite.specs.declared.error.Error.{Error}
use Rattle.sqlite_trees.specs.View.{doubt}
use Rattle.sqlite.specs.State.{State, HasCleanDisk}
use Rattle.world.specs.declared.registry.StoreFault.{StoreFault}
use Rattle.world.specs.declared.registry.StoreFault.TheVariants.{Memory}
use Rattle.world.specs.World.{World, IsWorld, group_of, above, chain, with_shelf}
use Rattle.world.specs.Store.{Shown, Does, DoesWhere, DoesAt, Reads, HasCause}
use Rattle.world.specs.declared.registry.RegistryReply.{RegistryReply}
use Rattle.world.specs.declared.registry.RegistryReply.TheVariants.{Done, Name, Taken, NoTeam, NoKey, NoGroup}
use Rattle.world.specs.declared.entry.Right.{Right}
use Rattle.world.specs.Registry.{team_added, group_added, key_added, after_team_add, after_group_add, after_key_add}
use Rattle.world.specs.Registry.{after_key_revoke, after_keys_revoke}
use Rattle.world.proofs.Causes.{answers, lacks_memory, handed_on, in_turn}
use Rattle.world.proofs.Sound.{new_team, new_group}
use Rattle.tables.specs.Means.{Stands, StandsFor}
use Rattle.statements.specs.Calls.{Spares, LeavesOnly, ChangesAt}
use Rattle.store.specs.Counted.{IsCounted}
use Rattle.store.specs.Shown.{LeavesEither, shown_with}
use Rattle.cache.specs.declared.caches.Caches.{Caches}
use Rattle.cache.specs.Caches.{AreKept}
use Rattle.cache.specs.declared.headings.KeptHeading.{KeptHeading}
use Rattle.cache.specs.declared.keys.KeptKey.{KeptKey}
use Rattle.cache.specs.Absences.{Lacking}
use Rattle.cache.proofs.AbsenceLemmas.{none_absent, absences_still}
use Rattle.cache.proofs.GroupLemmas.{groups_still}
use Rattle.cache.proofs.HeadingLemmas.{headings_still}
use Rattle.cache.proofs.ListLemmas.{Caches as Lists, no_lists, lists_still}
use Rattle.cache.proofs.KeyLemmas.{keys_still}
use Rattle.cache.proofs.RecentLemmas.{Held, none_held}
use Rattle.tables.proofs.FailureLemmas.{was_clean}

pub narrow : (s : State) (w : World) → LeavesEither s w w → LeavesOnly s (λ x. x ≡ w)
narrow s w only db may = let it = only db may in (it.0, it.1, elim it.2 [ inl e ↦ e | inr e ↦ e ])

-- ---- failures that are counted

-- a call has the cause of what it counted
pub counted_cause : {T : Type 0} (old new : Shown) (given : Result T Error) (r : Result T StoreFault)
    → IsCounted old.failures new.failures given r → HasCause old new r
counted_cause old new given r counted = record { no_fewer = counted.no_fewer; device = counted.device }

-- a fault that is handed on is counted as before
pub counted_on : {T : Type 0} (before now : ℕ) (given : Result T Error) (fault : StoreFault) (r : Result T StoreFault)
    → IsErrAnd r (λ e. e ≡ fault) → IsCounted before now given (Err fault) → IsCounted before now given r
counted_on before now given fault r on counted =
    let it = err_from_is_err_and r on in
    subst (IsCounted before now given) (sym (it.1 ∙ ap (λ e. Err e) it.2)) counted

-- what holds of the answer holds of what was counted
pub counted_ok : {T : Type 0} (given : Result T Error) (r : Result T StoreFault) (P : T → Type 0)
    → IfOk r (λ x. given ≡ Ok x) → IfOk given P → IfOk r P
counted_ok given (Ok x) P same holds = subst (λ g. IfOk g P) same holds
counted_ok given (Err e) P same holds = tt

not_ok : {T : Type 0} (given : Result T Error) → IsErr given → is_ok given ≡ false
not_ok (Ok x) is = absurd (true≢false (sym is))
not_ok (Err e) is = refl

counted_end : {T : Type 0} (before now : ℕ) (given : Result T Error) (r : Result T StoreFault)
    → IsCounted before now given r → is_ok given ≡ is_ok r
counted_end before now given (Ok x) counted = ap is_ok counted.ok
counted_end before now given (Err e) counted = not_ok given counted.err

-- an error is no answer
pub no_answer : {X : Type 0} (P : X → Type 0) (s : Result X StoreFault) → IsErr s → IfOk s P
no_answer P (Ok x) failed = absurd (true≢false (sym failed))
no_answer P (Err e) failed = tt

module _ {T : Type 0} (old new : State) (kept after : Caches) (before now : ℕ) where
  -- a read of the tables, which may keep what it found
  pub reads_keeping : (r : Result T StoreFault) (value : World → T) → Spares old new
      → HasCause (shown_with old kept before) (shown_with new after now) r
      → (HasCleanDisk new → (w : World) → StandsFor old w → AreKept w kept
      → IfOk r (λ x. x ≡ value w) × AreKept w after)
      → Reads (shown_with old kept before) (shown_with new after now) r value
  reads_keeping r value spares cause found = record {
    honest = was_clean old new spares.clean;
    at = λ clean w stands. let it = found clean w stands.0 stands.1 in record {
      answer = it.0;
      stays = ((spares.stays w stands.0.0, stands.0.1), it.1);
      left = λ x y only db may. only db (spares.left clean w stands.0.0 db may);
    };
    cause = cause;
  }

  -- a change of the tables, whose error is counted
  pub changes : (given : Result T Error) (r : Result T StoreFault) (fits : World → Type 0) (value : World → T)
      (next : World → World)
      → IsCounted before now given r → doubt old.is_clean ≤ doubt new.is_clean
      → (HasCleanDisk new → (w : World) → StandsFor old w → fits w
      → IfOk given (λ x. x ≡ value w) × ChangesAt old new (is_ok given) w (next w) × IsWorld (next w))
      → ((w : World) → fits w → AreKept w kept → OnOk r (AreKept (next w) after) × OnErr r (AreKept w after))
      → DoesWhere fits (shown_with old kept before) (shown_with new after now) r value next
  changes given r fits value next counted up done right = record {
    honest = was_clean old new up;
    at = λ clean w stands fit.
        let it = done clean w stands.0 fit in
        changed r clean w stands.0 (value w) (next w) (counted_ok given r (λ x. x ≡ value w) counted.ok it.0)
        (subst (λ b. ChangesAt old new b w (next w)) (counted_end before now given r counted) it.1) it.2
        (right w fit stands.1);
    cause = counted_cause _ _ given r counted;
  }
    where
      -- a change of one world, done if the result is Ok, is what `DoesAt` says
      changed : (r : Result T StoreFault) → HasCleanDisk new → (w : World) → StandsFor old w
          → (value : T) (next : World) → IfOk r (λ x. x ≡ value) → ChangesAt old new (is_ok r) w next → IsWorld next
          → OnOk r (AreKept next after) × OnErr r (AreKept w after)
          → DoesAt (shown_with old kept before) (shown_with new after now) w r value next
      changed (Ok x) clean w stands value next answer change is right = record {
        answer = answer;
        ok = ((change.world stands.0, is), right.0);
        err = tt;
        crash = record {
          either = λ only. change.left clean stands.0 (narrow old w only);
          alone = λ only db may. let it = change.alone refl clean stands.0 db may in (it.0, it.1, inl it.2);
          settled = inl (λ db may. let it = change.alone refl clean stands.0 db may in (it.0, it.1, inl it.2));
          failed = tt;
        };
      }
      changed (Err fault) clean w stands value next answer change is right = record {
        answer = tt;
        ok = tt;
        err = ((change.world stands.0, stands.1), right.1);
        crash = record {
          either = λ only. change.left clean stands.0 (narrow old w only);
          alone = λ _. tt;
          settled = tt;
          failed = elim (change.failed refl clean stands.0) [
            | inl only ↦ inl only
            | inr none ↦ inr (λ x y only db may. only db (none db may))
          ];
        };
      }

  -- a change of the tables whose error is counted and handed on
  pub changes_failed : (given : Result T Error) (fault : StoreFault) (r : Result T StoreFault) (fits : World → Type 0)
      (value : World → T) (next : World → World)
      → IsErr r × IsErrAnd r (λ e. e ≡ fault) → IsCounted before now given (Err fault)
      → doubt old.is_clean ≤ doubt new.is_clean
      → (HasCleanDisk new → (w : World) → StandsFor old w → fits w
      → IfOk given (λ x. x ≡ value w) × ChangesAt old new (is_ok given) w (next w) × IsWorld (next w))
      → ((w : World) → fits w → AreKept w kept → AreKept w after)
      → DoesWhere fits (shown_with old kept before) (shown_with new after now) r value next
  changes_failed given fault (Ok x) fits value next failed counted up done right = absurd failed.1
  changes_failed given fault (Err e) fits value next failed counted up done right =
      changes given (Err e) fits value next (subst (λ f. IsCounted before now given (Err f)) (sym failed.1) counted) up
      done (λ w fit was. (tt, right w fit was))

pub answer_unit : (r : Result (Unit {0}) Error) → IfOk r (λ x. x ≡ tt)
answer_unit (Ok x) = refl
answer_unit (Err e) = tt

-- one of the two, by the result
pub by_result : {T A B : Type 0} (r : Result T StoreFault) → A → B → OnOk r A × OnErr r B
by_result (Ok x) a b = (a, tt)
by_result (Err e) a b = (tt, b)

-- a read of the tables that keeps nothing
pub reads : {T : Type 0} (old new : State) (kept : Caches) (before now : ℕ) (r : Result T StoreFault)
    (value : World → T)
    → Spares old new
    → HasCause (shown_with old kept before) (shown_with new kept now) r
    → (HasCleanDisk new → (w : World) → StandsFor old w → IfOk r (λ x. x ≡ value w))
    → Reads (shown_with old kept before) (shown_with new kept now) r value
reads old new kept before now r value spares cause answer =
    reads_keeping old new kept kept before now r value spares cause
    (λ clean w stands right. (answer clean w stands, right))

-- a read of the tables whose error is counted, and that keeps nothing
pub reads_counted : {T : Type 0} (old new : State) (kept : Caches) (before now : ℕ) (given : Result T Error)
    (r : Result T StoreFault) (value : World → T)
    → Spares old new → IsCounted before now given r
    → (HasCleanDisk new → (w : World) → Stands old w → IfOk given (λ x. x ≡ value w))
    → Reads (shown_with old kept before) (shown_with new kept now) r value
reads_counted old new kept before now given r value spares counted answer =
    reads old new kept before now r value spares (counted_cause _ _ given r counted)
    (λ clean w stands. counted_ok given r (λ x. x ≡ value w) counted.ok (answer clean w stands.0))

-- a read of the tables whose error is counted and handed on, and that keeps nothing
pub reads_counted_none : {T : Type 0} (old new : State) (kept : Caches) (before now : ℕ) (given : Result T Error)
    (fault : StoreFault) (r : Result T StoreFault) (value : World → T)
    → Spares old new → IsErr r × IsErrAnd r (λ e. e ≡ fault) → IsCounted before now given (Err fault)
    → Reads (shown_with old kept before) (shown_with new kept now) r value
reads_counted_none old new kept before now given fault r value spares failed counted =
    reads old new kept before now r value spares
    (counted_cause _ _ given r (counted_on before now given fault r failed.1 counted))
    (λ _ w _. no_answer (λ x. x ≡ value w) r failed.0)

-- a read of what is kept, with no call on the tables
pub reads_kept : {T : Type 0} (old : State) (kept after : Caches) (count : ℕ) (x : T) (value : World → T)
    → ((w : World) → AreKept w kept → (x ≡ value w) × AreKept w after)
    → Reads (shown_with old kept count) (shown_with old after count) (Ok x) value
reads_kept old kept after count x value found = record {
  honest = λ clean. clean;
  at = λ clean w stands. let it = found w stands.1 in
      record { answer = it.0; stays = (stands.0, it.1); left = λ _ _ only. only };
  cause = answers _ _ x (omega arith);
}

-- a read stays one if what is kept then changes and is still right
pub reads_then : {T : Type 0} (start : Shown) (new : State) (kept after : Caches) (count : ℕ) (r : Result T StoreFault)
    (value : World → T) → Reads start (shown_with new kept count) r value
    → (HasCleanDisk new → (w : World) → start.stands w → AreKept w kept → AreKept w after)
    → Reads start (shown_with new after count) r value
reads_then start new kept after count r value read right = record {
  honest = read.honest;
  at = λ clean w stands. let says = read.at clean w stands in
      record { answer = says.answer; stays = (says.stays.0, right clean w stands says.stays.1); left = says.left };
  cause = record { no_fewer = read.cause.no_fewer; device = read.cause.device };
}

-- what is made of a value that was read
pub reads_as : {T U : Type 0} (start end : Shown) (f : T → U) (x : T) (y : U) (value : World → T) (other : World → U)
    → y ≡ f x → ((w : World) → f (value w) ≡ other w)
    → Reads start end (Ok x) value → Reads start end (Ok y) other
reads_as start end f x y value other made same read = record {
  honest = read.honest;
  at = λ clean w stands. let says = read.at clean w stands in
      record { answer = made ∙ (ap f says.answer ∙ same w); stays = says.stays; left = says.left };
  cause = answers start end y read.cause.no_fewer;
}

-- if a read on the way fails, the whole read fails
pub reads_failed : {T U : Type 0} (start end : Shown) (fault : StoreFault) (s : Result U StoreFault) (value : World → T)
    (other : World → U)
    → IsErr s × IsErrAnd s (λ e. e ≡ fault) → Reads start end (Err fault) value → Reads start end s other
reads_failed start end fault s value other failed read = record {
  honest = read.honest;
  at = λ clean w stands. let says = read.at clean w stands in
      record { answer = no_answer (λ x. x ≡ other w) s failed.0; stays = says.stays; left = says.left };
  cause = handed_on start end fault s failed.1 read.cause;
}

-- a read after a read, of which the second fails, is one that fails
pub reads_failed_next : {T U V : Type 0} (start mid end : Shown) (x : T) (fault : StoreFault) (s : Result V StoreFault)
    (value : World → T) (next : World → U) (other : World → V)
    → IsErr s × IsErrAnd s (λ e. e ≡ fault) → Reads start mid (Ok x) value → Reads mid end (Err fault) next
    → Reads start end s other
reads_failed_next start mid end x fault s value next other failed read then = record {
  honest = λ h. read.honest (then.honest h);
  at = λ h w stands.
      let says = read.at (then.honest h) w stands in
      let seen = then.at h w says.stays in
      record {
        answer = no_answer (λ y. y ≡ other w) s failed.0;
        stays = seen.stays;
        left = λ x y was.
            seen.left x y (says.left x y was);
      };
  cause = in_turn start mid end x s read.cause (handed_on mid end fault s failed.1 then.cause);
}

-- a read after a read of something else
pub reads_next : {T U : Type 0} (start mid end : Shown) (x : T) (r : Result U StoreFault) (value : World → T)
    (next : World → U)
    → Reads start mid (Ok x) value → Reads mid end r next → Reads start end r next
reads_next start mid end x r value next read then = record {
  honest = λ h. read.honest (then.honest h);
  at = λ h w stands.
      let says = read.at (then.honest h) w stands in
      let seen = then.at h w says.stays in
      record { answer = seen.answer; stays = seen.stays; left = λ x y was. seen.left x y (says.left x y was) };
  cause = in_turn start mid end x r read.cause then.cause;
}

-- two reads, after which memory runs out, are one that fails
pub reads_no_memory : {T U V : Type 0} (start mid end : Shown) (x : T) (y : U) (s : Result V StoreFault)
    (value : World → T) (next : World → U) (other : World → V)
    → IsErr s × IsErrAnd s (λ e. e ≡ Memory) → Reads start mid (Ok x) value → Reads mid end (Ok y) next
    → Reads start end s other
reads_no_memory start mid end x y s value next other failed read then = record {
  honest = λ h. read.honest (then.honest h);
  at = λ h w stands.
      let says = read.at (then.honest h) w stands in
      let seen = then.at h w says.stays in
      record {
        answer = no_answer (λ z. z ≡ other w) s failed.0;
        stays = seen.stays;
        left = λ x y was.
            seen.left x y (says.left x y was);
      };
  cause = in_turn start mid end x s read.cause
      (handed_on {T = ℕ} mid end Memory s failed.1 (lacks_memory mid end then.cause.no_fewer));
}

-- a read that keeps less is a read, if what is still kept is right
pub reads_with_less : {T : Type 0} (old : State) (kept less : Caches) (count : ℕ) (end : Shown)
    (r : Result T StoreFault)
    (value : World → T) → ((w : World) → AreKept w kept → AreKept w less)
    → Reads (shown_with old less count) end r value → Reads (shown_with old kept count) end r value
reads_with_less old kept less count end r value right read = record {
  honest = read.honest;
  at = λ clean w stands. let says = read.at clean w (stands.0, right w stands.1) in
      record { answer = says.answer; stays = says.stays; left = says.left };
  cause = record { no_fewer = read.cause.no_fewer; device = read.cause.device };
}

-- a read of a shelf's group, and then a read of the tables along its chain, whose error is counted, is one read
pub reads_along : {T : Type 0} (start : Shown) (mid new : State) (kept : Caches) (before now : ℕ) (shelf : List ℕ)
    (group : Option (List ℕ)) (shelves : List (List ℕ)) (given : Result T Error) (r : Result T StoreFault)
    (value : World → List (List ℕ) → T)
    → shelves ≡ shelf ∷ above group → Reads start (shown_with mid kept before) (Ok group) (λ w. group_of w shelf)
    → Spares mid new → IsCounted before now given r
    → (HasCleanDisk new → (w : World) → Stands mid w → IfOk given (λ x. x ≡ value w shelves))
    → Reads start (shown_with new kept now) r (λ w. value w (chain w shelf))
reads_along start mid new kept before now shelf group shelves given r value along read spares counted answer = record {
  honest = λ clean. read.honest (was_clean mid new spares.clean clean);
  at = λ clean w stands.
      let says = read.at (was_clean mid new spares.clean clean) w stands in
      let same : shelves ≡ chain w shelf = along ∙ ap (λ o. shelf ∷ above o) says.answer in
      record {
        answer = subst (λ ss. IfOk r (λ x. x ≡ value w ss)) same
            (counted_ok given r (λ x. x ≡ value w shelves) counted.ok (answer clean w says.stays.0.0));
        stays = ((spares.stays w says.stays.0.0, says.stays.0.1), says.stays.1);
        left = λ x y only db may. says.left x y only db (spares.left clean w says.stays.0.0 db may);
      };
  cause = in_turn start (shown_with mid kept before) (shown_with new kept now) group r read.cause
      (counted_cause _ _ given r counted);
}

-- a change that is refused without a call on the tables
pub refused : {T : Type 0} (old : State) (kept : Caches) (count : ℕ) (x : T) (value : World → T) (next : World → World)
    → ((w : World) → (x ≡ value w) × (w ≡ next w))
    → Does (shown_with old kept count) (shown_with old kept count) (Ok x) value next
refused old kept count x value next same = record {
  honest = λ clean. clean;
  at = λ clean w stands _. record {
    answer = (same w).0;
    ok = subst (λ y. StandsFor old y × AreKept y kept) (same w).1 stands;
    err = tt;
    crash = record {
      either = λ only. subst (LeavesEither old w) (same w).1 only;
      alone = λ only. subst (λ y. LeavesEither old y y) (same w).1 only;
      settled = inr (sym (same w).1, λ x y only. only);
      failed = tt;
    };
  };
  cause = answers _ _ x (omega arith);
}

-- ---- the commands of the registry leave what is kept as it is, except for lists, headings and absences when a team is
-- added, and for keys when one is revoked or all of a shelf are

module _ (w : World) (kept : Caches) (right : AreKept w kept) where
  module _ (lists : Lists) (headings : Held KeptHeading) (absences : Lacking) (none : lists ≡ [])
      (none_too : headings ≡ []) (none_absences : absences ≡ map.empty) where
    pub kept_but_lists : AreKept w (record kept { lists = lists; headings = headings; absences = absences })
    kept_but_lists = (
      right.0,
      no_lists w lists none,
      (right.2.0, none_absent w absences none_absences),
      (right.3.0, none_held _ headings none_too, right.3.2),
    )

    kept_with_shelf : (s : List ℕ) (parent : Option (List ℕ)) → map.contains_key w.shelves s ≡ false
        → AreKept (with_shelf w s parent) (record kept { lists = lists; headings = headings; absences = absences })
    kept_with_shelf s parent free = (
      right.0,
      no_lists (with_shelf w s parent) lists none,
      (groups_still w s parent kept.groups free right.2.0, none_absent (with_shelf w s parent) absences none_absences),
      (right.3.0, none_held _ headings none_too, right.3.2),
    )

    pub kept_after_team : (name : List ℕ) (group : Option (List ℕ)) (r : RegistryReply) → team_added w name group ≡ r
        → AreKept (after_team_add w name group r)
        (record kept { lists = lists; headings = headings; absences = absences })
    kept_after_team name group Done is = kept_with_shelf name _ (new_team w name group is).1
    kept_after_team name group Name is = kept_but_lists
    kept_after_team name group Taken is = kept_but_lists
    kept_after_team name group NoTeam is = kept_but_lists
    kept_after_team name group NoKey is = kept_but_lists
    kept_after_team name group NoGroup is = kept_but_lists

  pub kept_after_group : (name : List ℕ) (r : RegistryReply) → group_added w name ≡ r
      → AreKept (after_group_add w name r) kept
  kept_after_group name Done is =
      let free = (new_group w name is).1 in (
        right.0,
        lists_still w name free kept.lists right.1,
        (groups_still w name None kept.groups free right.2.0, absences_still w name free kept.absences right.2.1),
        (right.3.0, headings_still w name free kept.headings right.3.1, right.3.2),
      )
  kept_after_group name Name is = right
  kept_after_group name Taken is = right
  kept_after_group name NoTeam is = right
  kept_after_group name NoKey is = right
  kept_after_group name NoGroup is = right

  pub kept_after_key : (shelf key : List ℕ) (may : Right) (r : RegistryReply) → key_added w shelf key ≡ r
      → AreKept (after_key_add w shelf key may r) kept
  kept_after_key shelf key may Done is =
      (right.0, right.1, right.2, (right.3.0, right.3.1, keys_still w shelf key _ is kept.keys right.3.2))
  kept_after_key shelf key may Name is = right
  kept_after_key shelf key may Taken is = right
  kept_after_key shelf key may NoTeam is = right
  kept_after_key shelf key may NoKey is = right
  kept_after_key shelf key may NoGroup is = right

  module _ (keys : Held KeptKey) (none : keys ≡ []) where
    pub kept_but_keys : AreKept w (record kept { keys = keys })
    kept_but_keys = (right.0, right.1, right.2, (right.3.0, right.3.1, none_held _ keys none))

    pub kept_after_revoke : (key : List ℕ) (r : RegistryReply)
        → AreKept (after_key_revoke w key r) (record kept { keys = keys })
    kept_after_revoke key Done = (right.0, right.1, right.2, (right.3.0, right.3.1, none_held _ keys none))
    kept_after_revoke key Name = kept_but_keys
    kept_after_revoke key Taken = kept_but_keys
    kept_after_revoke key NoTeam = kept_but_keys
    kept_after_revoke key NoKey = kept_but_keys
    kept_after_revoke key NoGroup = kept_but_keys

    pub kept_after_revoke_all : (shelf : List ℕ) (r : RegistryReply)
        → AreKept (after_keys_revoke w shelf r) (record kept { keys = keys })
    kept_after_revoke_all shelf Done = (right.0, right.1, right.2, (right.3.0, right.3.1, none_held _ keys none))
    kept_after_revoke_all shelf Name = kept_but_keys
    kept_after_revoke_all shelf Taken = kept_but_keys
    kept_after_revoke_all shelf NoTeam = kept_but_keys
    kept_after_revoke_all shelf NoKey = kept_but_keys
    kept_after_revoke_all shelf NoGroup = kept_but_keys
