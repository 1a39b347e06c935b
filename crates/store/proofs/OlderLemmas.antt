-- Files of an older store that are opened.
use Rattle.std.proofs.Common.{◌≡◌, IsTrue, sym, ap, subst, ◌∙◌}
use Rattle.sqlite.specs.Effect.{Database}
use Rattle.sqlite.specs.Files.{AreFoundIn}
use Rattle.sqlite.specs.Schema.{Schema}
use Rattle.sqlite.specs.Start.{FindsIn}
use Rattle.sqlite.specs.State.{State, IsLive}
use Rattle.sqlite.specs.Tree.{Trees}
use Rattle.sqlite_catalog.specs.Listing.{IsSound}
use Rattle.sqlite_catalog.proofs.ReadLemmas.{lists_once}
use Rattle.sqlite_wal.specs.Recovery.{Image}
use Rattle.older.specs.Means.{Means}
use Rattle.world.specs.World.{World}
use Rattle.store.specs.Migrated.{WasOf}
use Rattle.store.specs.Older.{HoldsOlder}

-- if the files hold an older database, the connection shows it
pub finds_older : (s : State) (image : Image) → IsLive s → IsTrue s.is_open → s.now ≡ s.committed → FindsIn image s
    → (w : World) → HoldsOlder image w → WasOf s.now w
finds_older s image live opened settled finds w held =
    let trees : s.now.trees ≡ held.db.trees = ap (λ (d : Database). d.trees) settled
    ∙ finds.holds held.db.trees held.holds in
    let sound : IsSound held.db.schema s.now.trees = subst (IsSound held.db.schema) (sym trees) held.sound in
    let schema : ◌≡◌ {A = Schema} s.now.schema held.db.schema =
    lists_once _ s.now.schema held.db.schema (live opened).0.lists sound.lists in
    let was = held.was in (
      was.0,
      record {
        schema = schema ∙ was.1.schema;
        means = subst (λ (t : Trees). Means was.0 t w) (sym trees) was.1.means;
        is = was.1.is;
      },
    )

-- the connection shows tables that the files, which begin as `begun`, recover to
pub shows_found : (s : State) (image begun : Image) → image ≡ begun → s.now ≡ s.committed → FindsIn image s
    → AreFoundIn begun s.now.trees
shows_found s image begun same settled finds = subst (λ i. AreFoundIn i s.now.trees) same
    (subst (λ (d : Database). AreFoundIn image d.trees) (sym settled) finds.reads)
