-- Opening the tables of a connection.
use Rattle.std.proofs.Common.{◌≡◌, sym, ap, subst, ◌∙◌, inl, inr, IsTrue}
use Rattle.std.specs.Prelude.{ℕ, List, [], ◌∷◌}
use Rattle.std.specs.List.{AllZip}
use Rattle.sqlite.specs.Order.{Row}
use Rattle.sqlite_wal.specs.Recovery.{Image}
use Rattle.sqlite.specs.Files.{AreFoundIn, IsEmpty as HasNoRows}
use Rattle.sqlite.specs.Start.{FindsIn}
use Rattle.sqlite.proofs.ListingLemmas.{empty_is_sound}
use Rattle.sqlite_catalog.proofs.ReadLemmas.{lists_once}
use Rattle.sqlite_catalog.specs.Listing.{IsSound, IsTableRow}
use Rattle.sqlite.specs.Tree.{Trees}
use Rattle.sqlite.specs.Effect.{Database}
use Rattle.sqlite.specs.State.{State, IsLive}
use Rattle.world.specs.World.{World, only_common}
use Rattle.tables.specs.Schema.{store_schema, no_schema}
use Rattle.tables.specs.Means.{StandFor}
use Rattle.store.specs.Shown.{shown_of, shown_with, BeginsAt}
use Rattle.cache.specs.declared.caches.Caches.{Caches}
use Rattle.cache.specs.Caches.{IsNothing}
use Rattle.cache.proofs.KeptLemmas.{nothing_kept}
use Rattle.setup.specs.Opened.{Opens, IsBad}
use Rattle.store.specs.Restart.{HoldsWorld, HoldsStore, HoldsNoStore, HoldsNoDatabase, IsBlank, RecoversStore}
use Rattle.store.specs.Restart.{KeepsTrees, LeavesCommitted}
use Rattle.store.proofs.FileLemmas.{finds_empty}
use Rattle.tables.proofs.OneWorld.{stand_for_one}

-- trees that list no tables are not those of the schema
unlisted : (db : Trees) → IsSound no_schema db → IsSound store_schema db → ⊥
unlisted db none some = bare _ none.lists.listed.tables some.lists.listed.tables
  where
    bare : (rows : List Row) → AllZip IsTableRow rows [] → AllZip IsTableRow rows store_schema.tables → ⊥
    bare [] none some = some
    bare (r ∷ rows) none some = none

-- if the files hold a database that stands for the world, the store begins at it
pub begins_found : (old new : State) (image : Image) → IsLive old → IsTrue old.is_open → old.now ≡ old.committed
    → FindsIn image old → Opens old new → (w : World) → HoldsWorld image w → BeginsAt (shown_of new) w
begins_found old new image live opened settled finds it w held =
    let trees : old.now.trees ≡ held.0 = ap (λ (d : Database). d.trees) settled ∙ finds.holds held.0 held.1 in
    let stand : StandFor old.now.trees w = subst (λ db. StandFor db w) (sym trees) held.2 in
    elim it.tables [
      | inl first ↦ absurd (unlisted old.now.trees (subst (λ s. IsSound s old.now.trees) first.0 (live opened).0)
          stand.sound)
      | inr found ↦ subst (BeginsAt (shown_of new)) (stand_for_one old.now.trees it.world w found.means stand.means)
          it.begins
    ]

-- the trees of a blank file list no tables
blank_lists_none : (s : State) (image : Image) → FindsIn image s → IsBlank image → IsSound no_schema s.committed.trees
blank_lists_none s image finds (inl unmade) =
    empty_is_sound s.committed.trees (finds_empty image s.committed.trees unmade.0 finds.reads).1
blank_lists_none s image finds (inr bare) = subst (IsSound no_schema) (sym (finds.holds bare.0 bare.1)) bare.2

-- if the files are blank, the store begins with `common` alone
begins_blank : (old new : State) (image : Image) → IsLive old → IsTrue old.is_open → old.now ≡ old.committed
    → FindsIn image old → Opens old new → IsBlank image → BeginsAt (shown_of new) only_common
begins_blank old new image live opened settled finds it blank =
    let none : IsSound no_schema old.now.trees =
    subst (λ (d : Database). IsSound no_schema d.trees) (sym settled) (blank_lists_none old image finds blank) in
    elim it.tables [
      | inl first ↦ subst (BeginsAt (shown_of new)) first.1 it.begins
      | inr found ↦ absurd (unlisted old.now.trees none
          (subst (λ s. IsSound s old.now.trees) found.schema (live opened).0))
    ]

pub begins_store : (old new : State) (image : Image) → IsLive old → IsTrue old.is_open → old.now ≡ old.committed
    → FindsIn image old → Opens old new → (w : World) → HoldsStore image w → BeginsAt (shown_of new) w
begins_store old new image live opened settled finds it w (inl held) =
    begins_found old new image live opened settled finds it w held
begins_store old new image live opened settled finds it w (inr blank) =
    subst (BeginsAt (shown_of new)) (sym blank.1) (begins_blank old new image live opened settled finds it blank.0)

-- a store that begins does so at a world that the files held
pub recovers_store : (old new : State) (image : Image) → IsLive old → IsTrue old.is_open → old.now ≡ old.committed
    → FindsIn image old → (it : Opens old new) → RecoversStore image it.world
recovers_store old new image live opened settled finds it =
    let here : AreFoundIn image old.now.trees =
    subst (λ (d : Database). AreFoundIn image d.trees) (sym settled) finds.reads in
    let sound = (live opened).0 in (
      old.now.trees,
      here,
      elim it.tables [
        | inl first ↦ inr (subst (λ s. IsSound s old.now.trees) first.0 sound, first.1)
        | inr found ↦ inl (record {
          sound = subst (λ s. IsSound s old.now.trees) found.schema sound;
          means =
              found.means;
        })
      ],
    )

-- what a crash leaves of a store that did not begin is what the files held
pub keeps_trees : (old new : State) (image : Image) → IsLive old → IsTrue old.is_open → old.now ≡ old.committed
    → FindsIn image old → LeavesCommitted old new → (db : Trees) → new.may_leave db → KeepsTrees image db
keeps_trees old new image live opened settled finds leaves db may = elim (leaves opened db may) [
  | inl was ↦ record {
    database = λ held it. inl (was ∙ finds.holds held it);
    nothing = λ none. inl (subst HasNoRows (sym was) (finds_empty image old.committed.trees none finds.reads));
  }
  | inr first ↦ record {
    database = λ held it. inr (
      subst (λ (d : Trees). IsSound no_schema d) (ap (λ (d : Database). d.trees) settled ∙ finds.holds held it)
          (subst (λ s. IsSound s old.now.trees) first.0 (live opened).0),
      first.1,
    );
    nothing = λ none. inr first.1;
  }
]

-- no store begins over files whose tables are bad
pub bad_is_no_store : (old : State) (image : Image) → IsLive old → IsTrue old.is_open → old.now ≡ old.committed
    → FindsIn image old → IsBad old.now → HoldsNoStore image
bad_is_no_store old image live opened settled finds bad w is (inl held) =
    let trees : old.now.trees ≡ held.0 = ap (λ (d : Database). d.trees) settled ∙ finds.holds held.0 held.1 in
    let stand : StandFor old.now.trees w = subst (λ db. StandFor db w) (sym trees) held.2 in
    bad.none (lists_once _ old.now.schema store_schema (live opened).0.lists stand.sound.lists) w stand.means is
bad_is_no_store old image live opened settled finds bad w is (inr blank) =
    let none : IsSound no_schema old.now.trees =
    subst (λ (d : Database). IsSound no_schema d.trees) (sym settled) (blank_lists_none old image finds blank.0) in
    bad.some (lists_once _ old.now.schema no_schema (live opened).0.lists none.lists)

pub no_database_is_no_store : (image : Image) → HoldsNoDatabase image → HoldsNoStore image
no_database_is_no_store image none w is (inl held) = none (inl (held.0, held.1))
no_database_is_no_store image none w is (inr (inl unmade, common)) = none (inr unmade)
no_database_is_no_store image none w is (inr (inr bare, common)) = none (inl (bare.0, bare.1))

-- a store begins at a world with what it keeps too, if it keeps nothing
pub begins_empty : (s : State) (kept : Caches) (count : ℕ) (w : World) → IsNothing kept → BeginsAt (shown_of s) w
    → BeginsAt (shown_with s kept count) w
begins_empty s kept count w none it =
    record { honest = it.honest; stands = (it.stands, nothing_kept w kept none); left = it.left }
