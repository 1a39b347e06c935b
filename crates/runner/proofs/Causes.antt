-- Which commands never end with `Io`, and why one does that makes a key.
use Rattle.std.proofs.Common.{◌≡◌, ◌⊎◌, sym, subst, inl, inr, ℕ, List, Bool, Option, Result, Ok, Err}
use Rattle.histories.specs.Calls.{Writes}
use Rattle.std.specs.Prelude.{IfErr}
use Rattle.store_files.specs.History.{IsIdle, Refuses, Span}
use Rattle.sqlite.specs.Held.{state}
use Rattle.sqlite.specs.Steps.{over_memory}
use Rattle.sqlite.specs.State.{State}
use Rattle.world.specs.Store.{Shown}
use Rattle.store_files.specs.declared.refusal.StoreRefusal.{StoreRefusal}
use Rattle.store_files.specs.declared.refusal.StoreRefusal.TheVariants as store
use Rattle.commands.specs.Action.{NeverIo, acceptance}
use Rattle.commands.specs.Ending.{unopened}
use Rattle.commands.specs.NewKey.{HasCause}
use Rattle.commands.specs.Printed.{FailsUnprinted}
use Rattle.commands.specs.declared.refusal.CommandRefusal.{CommandRefusal}
use Rattle.commands.specs.declared.refusal.CommandRefusal.TheVariants.{Io, NotEmpty}
use Rattle.file_action.specs.Refusal.{new_store_refusal}
use Rattle.runner.specs.Extract.{ExtractsFile, Fills}
use Rattle.runner.specs.Migrate.{MigratesCopy, MigratesEmpty, MigratesFile, MigratesTo, copied}
use Rattle.runner.specs.Opened.{IsOfName, IsTargetRefusal, store_result}

-- ---- no store ends a command with `Io`

unopened_never : (why : StoreRefusal) → ¬ (unopened why ≡ Io)
unopened_never store.Device is = cc
unopened_never store.Memory is = cc
unopened_never store.BadSchema is = cc
unopened_never store.NotEmpty is = cc
unopened_never store.NoTeam is = cc

unmade_never : (why : StoreRefusal) → ¬ (new_store_refusal (unopened why) ≡ Io)
unmade_never store.Device is = cc
unmade_never store.Memory is = cc
unmade_never store.BadSchema is = cc
unmade_never store.NotEmpty is = cc
unmade_never store.NoTeam is = cc

full_never : ¬ (NotEmpty ≡ Io)
full_never is = cc

-- no command that ends by that of a store does
abbrev Never : Result (Unit {0}) CommandRefusal → Type 0
Never result = NeverIo result

of_store : (told : Result (Unit {0}) StoreRefusal) → Never (store_result told)
of_store (Ok u) = tt
of_store (Err why) = unopened_never why

by : (result ended : Result (Unit {0}) CommandRefusal) → result ≡ ended → Never ended → Never result
by result ended is never = subst Never (sym is) never

left_never : {S D : Type 0} (targets : Span S D) (to : List ℕ) (result : Result (Unit {0}) CommandRefusal)
    → ((result ≡ Err NotEmpty) × IsIdle targets)
    ⊎ ((why : StoreRefusal) × (told : StoreRefusal) × IsTargetRefusal told why
    × (result ≡ Err (new_store_refusal (unopened told))) × Refuses targets to why) → Never result
left_never targets to result (inl (is, idle)) = by result _ is full_never
left_never targets to result (inr (why, told, of, is, done)) = by result _ is (unmade_never told)

-- ---- an extract

extracts_none : {S C : Type 0} (files : Span S C) (db : List ℕ) (result : Result (Unit {0}) CommandRefusal)
    → ((result ≡ Err NotEmpty) × IsIdle files)
    ⊎ ((why : StoreRefusal) × (result ≡ Err (unopened why)) × ((IsIdle files × IsOfName why) ⊎ Refuses files db why))
    → Never result
extracts_none files db result (inl (is, idle)) = by result _ is full_never
extracts_none files db result (inr (why, is, done)) = by result _ is (unopened_never why)

fills_never : {S F D : Type 0} (shown : S → Shown) (shown_too : F → Shown) (targets : Span F D)
    (teams : List (List ℕ)) (to : List ℕ) (source source_new : S) (result : Result (Unit {0}) CommandRefusal)
    → Fills shown shown_too targets teams to source source_new result → Never result
fills_never shown shown_too targets teams to source source_new result (inl opened) =
    by result _ opened.does.ends (of_store opened.does.told)
fills_never shown shown_too targets teams to source source_new result (inr leaves) =
    left_never targets to result leaves.tells

extract_never : {S F C D : Type 0} (shown : S → Shown) (shown_too : F → Shown) (files : Span S C) (targets : Span F D)
    (db : List ℕ) (teams : List (List ℕ)) (to : List ℕ) (result : Result (Unit {0}) CommandRefusal)
    → ExtractsFile shown shown_too files targets db teams to result → Never result
extract_never shown shown_too files targets db teams to result (inl opened) =
    fills_never shown shown_too targets teams to opened.begun opened.ended result opened.does
extract_never shown shown_too files targets db teams to result (inr none) =
    extracts_none files db result none.tells

-- ---- a migration

migrates_to_never : {C F D : Type 0} (state_of : C → State) (shown : F → Shown) (targets : Span F D) (to : List ℕ)
    (old old_new : C) (result : Result (Unit {0}) CommandRefusal)
    → MigratesTo state_of shown targets to old old_new result → Never result
migrates_to_never state_of shown targets to old old_new result (inl opened) =
    by result _ opened.does.ends (of_store opened.does.told)
migrates_to_never state_of shown targets to old old_new result (inr leaves) =
    left_never targets to result leaves.tells

copy_never : {C Q F D : Type 0} (state_of : C → State) (shown : F → Shown) (older : Span C Q) (targets : Span F D)
    (path log to : List ℕ) (result : Result (Unit {0}) CommandRefusal)
    → MigratesCopy state_of shown older targets path log to result → Never result
copy_never state_of shown older targets path log to result (inl opened) =
    migrates_to_never state_of shown targets to opened.old opened.old_new result opened.migrates
copy_never state_of shown older targets path log to result (inr unopened) =
    by result _ unopened.tells (unopened_never unopened.why)

uncopied_never : (result : Result (Unit {0}) CommandRefusal) (why : StoreRefusal)
    → (result ≡ Err NotEmpty) ⊎ (result ≡ Err (unopened why)) → Never result
uncopied_never result why (inl is) = by result _ is full_never
uncopied_never result why (inr is) = by result _ is (unopened_never why)

empty_never : {F D : Type 0} (shown : F → Shown) (targets : Span F D) (to : List ℕ)
    (result : Result (Unit {0}) CommandRefusal) → MigratesEmpty shown targets to result → Never result
empty_never shown targets to result (inl nothing) =
    migrates_to_never (state over_memory) shown targets to nothing.none nothing.none_new result nothing.migrates
empty_never shown targets to result (inr none) = by result _ none.tells (unopened_never none.why)

migrate_never : {C Q F D : Type 0} (state_of : C → State) (shown : F → Shown) (older : Span C Q) (targets : Span F D)
    (from to : List ℕ) (result : Result (Unit {0}) CommandRefusal)
    → MigratesFile state_of shown older targets from to result → Never result
migrate_never state_of shown older targets from to result (inl done) =
    copy_never state_of shown (copied state_of shown older targets from to done.path done.log) targets
    done.path done.log to result done.copy
migrate_never state_of shown older targets from to result (inr (inl none)) = uncopied_never result none.why none.tells
migrate_never state_of shown older targets from to result (inr (inr unread)) =
    empty_never shown targets to result unread.empty

-- ---- the commands

accepted : (ended : Result (Unit {0}) CommandRefusal) → Never ended → NeverIo (acceptance ended)
accepted (Ok u) never = tt
accepted (Err why) never = never

never_by : (ended : Result (Unit {0}) CommandRefusal) (result : Result Bool CommandRefusal) → result ≡ acceptance ended
    → Never ended → NeverIo result
never_by ended result is never = subst (λ r. NeverIo r) (sym is) (accepted ended never)

pub extract_never_io : {S F C D : Type 0} (shown : S → Shown) (shown_too : F → Shown) (files : Span S C)
    (targets : Span F D) (db : List ℕ) (teams : List (List ℕ)) (to : List ℕ)
    (ended : Result (Unit {0}) CommandRefusal) (result : Result Bool CommandRefusal)
    → ExtractsFile shown shown_too files targets db teams to ended → result ≡ acceptance ended → NeverIo result
extract_never_io shown shown_too files targets db teams to ended result extracts is =
    never_by ended result is (extract_never shown shown_too files targets db teams to ended extracts)

pub migrate_never_io : {C Q F D : Type 0} (state_of : C → State) (shown : F → Shown) (older : Span C Q)
    (targets : Span F D) (from to : List ℕ)
    (ended : Result (Unit {0}) CommandRefusal) (result : Result Bool CommandRefusal)
    → MigratesFile state_of shown older targets from to ended → result ≡ acceptance ended → NeverIo result
migrate_never_io state_of shown older targets from to ended result migrates is =
    never_by ended result is (migrate_never state_of shown older targets from to ended migrates)

-- ---- a key that is made

accepted_cause : (cause : Type 0) (ended : Result (Unit {0}) CommandRefusal) → HasCause ended cause
    → IfErr (acceptance ended) (λ e. e ≡ Io → cause)
accepted_cause cause (Ok u) has = tt
accepted_cause cause (Err why) has = has

pub made_key_cause : (cause : Type 0) (ended : Result (Unit {0}) CommandRefusal) (result : Result Bool CommandRefusal)
    → result ≡ acceptance ended → HasCause ended cause → IfErr result (λ e. e ≡ Io → cause)
made_key_cause cause ended result is has =
    subst (λ r. IfErr r (λ e. e ≡ Io → cause)) (sym is) (accepted_cause cause ended has)

accepted_unprinted : (written written_new : Option (List ℕ)) (writes writes_new : Writes)
    (ended : Result (Unit {0}) CommandRefusal) → FailsUnprinted written written_new writes writes_new ended
    → FailsUnprinted written written_new writes writes_new (acceptance ended)
accepted_unprinted written written_new writes writes_new (Ok u) has = tt
accepted_unprinted written written_new writes writes_new (Err why) has = has

-- if the key that was to be made was refused, nothing was printed of it
pub made_key_unprinted : (written written_new : Option (List ℕ)) (writes writes_new : Writes)
    (ended : Result (Unit {0}) CommandRefusal) (result : Result Bool CommandRefusal) → result ≡ acceptance ended
    → FailsUnprinted written written_new writes writes_new ended
    → FailsUnprinted written written_new writes writes_new result
made_key_unprinted written written_new writes writes_new ended result is has =
    subst (FailsUnprinted written written_new writes writes_new) (sym is)
    (accepted_unprinted written written_new writes writes_new ended has)
