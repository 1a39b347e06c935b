-- Migrating the file of an older store into the store of another file.
use Rattle.std.specs.Prelude.{ℕ, ◌≡◌, ◌⊎◌, List, [], ◌∷◌, ◌++◌, Result, Err}
use Rattle.store_files.specs.History.{Span, IsIdle, Refuses, Opens}
use Rattle.store_files.specs.declared.files.Use.TheVariants.{Writing}
use Rattle.store_files.specs.Refusal.{IsOfOpening}
use Rattle.store_files.specs.declared.files.Deed.TheVariants.{Copied, Joined, Made, Closed}
use Rattle.store_files.specs.declared.files.Deed.TheVariants.{OpenedUnnamed, RefusedUnnamed, Unlinked}
use Rattle.sqlite.specs.Held.{Held, state}
use Rattle.sqlite.specs.State.{State}
use Rattle.sqlite.specs.Steps.{over_memory}
use Rattle.sqlite_trees.specs.declared.memory.MemStore.{MemStore}
use Rattle.sqlite_wal.specs.Recovery.{Image}
use Rattle.statements.specs.Calls.{IsOpenIfHonest}
use Rattle.world.specs.Store.{Shown}
use Rattle.store.specs.Migrated.{Migrates, HasCauseInOne, IsForeign}
use Rattle.store.specs.Older.{FindsOlder}
use Rattle.store_files.specs.declared.refusal.StoreRefusal.{StoreRefusal}
use Rattle.commands.specs.declared.refusal.CommandRefusal.{CommandRefusal}
use Rattle.commands.specs.declared.refusal.CommandRefusal.TheVariants.{NotEmpty}
use Rattle.commands.specs.Ending.{unopened}
use Rattle.runner.specs.Opened.{store_result, IsOfName, LeavesSource}

module _ {C F : Type 0} (state_of : C → State) (shown : F → Shown) (old old_new : C) where
  -- what the older store has was put into an open one, or it was not, and the result says why
  pub record MigratesInto (fresh fresh_new : F) (result : Result (Unit {0}) CommandRefusal) : Type 0 where
    pub told : Result (Unit {0}) StoreRefusal
    pub migrates : Migrates (state_of old) (state_of old_new) (shown fresh) (shown fresh_new) told
    pub cause : HasCauseInOne (state_of old) (state_of old_new) (shown fresh).failures (shown fresh_new).failures told
    pub ends : result ≡ store_result told

module _ {C F D : Type 0} (state_of : C → State) (shown : F → Shown) (targets : Span F D) (to : List ℕ) where
  -- what the older store has was put, or not, into the store of the file `to`, which was opened for that; or the older
  -- store was left as it was
  abbrev pub MigratesTo : C → C → Result (Unit {0}) CommandRefusal → Type 0
  MigratesTo old old_new result =
      Opens targets to Writing (λ fresh fresh_new. MigratesInto state_of shown old old_new fresh fresh_new result)
      ⊎ LeavesSource targets to old old_new result

module _ {F D : Type 0} (shown : F → Shown) (targets : Span F D) (to : List ℕ) where
  -- there is no older file, or it has no bytes, so there are no older tables
  pub record MigratesNothing (result : Result (Unit {0}) CommandRefusal) : Type 0 where
    pub none : Held MemStore
    pub none_new : Held MemStore
    pub foreign : IsForeign (state over_memory none).now
    pub migrates : MigratesTo (state over_memory) shown targets to none none_new result

  -- the new store was not to be opened, because a name was refused or memory ran out, and the result says which
  pub record MigratesNone (result : Result (Unit {0}) CommandRefusal) : Type 0 where
    pub why : StoreRefusal
    pub of_name : IsOfName why
    pub tells : result ≡ Err (unopened why)
    pub idle : IsIdle targets

  abbrev pub MigratesEmpty : Result (Unit {0}) CommandRefusal → Type 0
  MigratesEmpty result = MigratesNothing result ⊎ MigratesNone result

-- a connection that was just opened to the files of an older store, which held this
pub record IsOlder {C : Type 0} (state_of : C → State) (held : Image) (old : C) : Type 0 where
  pub is_open : IsOpenIfHonest (state_of old)
  pub found : FindsOlder held (state_of old)

module _ {C Q F D : Type 0} (state_of : C → State) (shown : F → Shown) (older : Span C Q) (targets : Span F D)
    (path log to : List ℕ) where
  -- The copy at `path` was opened and lost its names by that, then what it has was put into the store of the other
  -- file, or was not, and it was closed.
  pub record MigratesOpened (result : Result (Unit {0}) CommandRefusal) : Type 0 where
    pub old : C
    pub old_new : C
    pub begins : older.begins old
    pub migrates : MigratesTo state_of shown targets to old old_new result
    pub done : older.after
        ≡ older.before ++ (path, OpenedUnnamed) ∷ (log, Unlinked) ∷ (path, Closed (older.left old_new)) ∷ []

  -- the copy at `path` was not opened and lost its names, and the result says why
  pub record MigratesUnopened (result : Result (Unit {0}) CommandRefusal) : Type 0 where
    pub why : StoreRefusal
    pub opening : IsOfOpening why
    pub tells : result ≡ Err (unopened why)
    pub idle : IsIdle targets
    pub done : older.after ≡ older.before ++ (path, RefusedUnnamed why) ∷ (log, Unlinked) ∷ []

  abbrev pub MigratesCopy : Result (Unit {0}) CommandRefusal → Type 0
  MigratesCopy result = MigratesOpened result ⊎ MigratesUnopened result

module _ {C Q F D : Type 0} (state_of : C → State) (shown : F → Shown) (older : Span C Q) (targets : Span F D)
    (from to : List ℕ) where
  -- the history from when the older file and its log were copied into files of these names, which were made in the
  -- folder of the new store, and nothing else was done to either
  abbrev pub copied : List ℕ → List ℕ → Span C Q
  copied path log = record {
    begins = older.begins;
    left = older.left;
    before = older.before ++ (from, Copied) ∷ (to, Joined) ∷ (path, Made) ∷ (log, Made) ∷ [];
    after = older.after;
  }

  -- the older file and its log were copied, and the copy was opened and migrated, or was not
  pub record MigratesCopied (result : Result (Unit {0}) CommandRefusal) : Type 0 where
    pub path : List ℕ
    pub log : List ℕ
    pub copy : MigratesCopy state_of shown (copied path log) targets path log to result

  -- the older file was to be copied, and was not, and the result says why, or that it is the new store's
  pub record MigratesUncopied (result : Result (Unit {0}) CommandRefusal) : Type 0 where
    pub why : StoreRefusal
    pub tells : (result ≡ Err NotEmpty) ⊎ (result ≡ Err (unopened why))
    pub idle : IsIdle targets
    pub done : Refuses older from why

  -- the older file has no bytes, or a name was refused, as `MigratesEmpty` says; nothing was done to it
  pub record MigratesUnread (result : Result (Unit {0}) CommandRefusal) : Type 0 where
    pub empty : MigratesEmpty shown targets to result
    pub idle : IsIdle older

  -- the older file was only read, and a copy of it was migrated; or it was not copied, and the result says why
  abbrev pub MigratesFile : Result (Unit {0}) CommandRefusal → Type 0
  MigratesFile result = MigratesCopied result ⊎ (MigratesUncopied result ⊎ MigratesUnread result)
