-- A fresh store that is filled table by table.
use Rattle.std.proofs.Common.{sym, subst}
use Rattle.sqlite.specs.Tree.{Trees}
use Rattle.world.specs.World.{only_common}
use Rattle.tables.specs.Means.{StandFor}
use Rattle.statements.specs.Extract.{Then}
use Rattle.older.specs.declared.schema.Format.{Format}
use Rattle.older_rows.specs.Filled.{Fills}
use Rattle.older_rows.specs.Entered.{PutsEntries, PutsZips}
use Rattle.older_rows.specs.Registry.{IsNamed, PutsShelves, PutsKeys}

-- `meta`, then the shelves, the keys, the versions and the zips
abbrev pub InTurn : Format → Trees → Trees → Trees → Type 0
InTurn format = Then (Then (Then (Then (IsNamed format) PutsShelves) PutsKeys) (PutsEntries format)) (PutsZips format)

-- the walks over all tables, in turn, make of `common` alone the world that the old tables mean
pub fills : (format : Format) (old db after : Trees) → InTurn format old db after → Fills format old db after
fills format old db after it blank sound =
    let fourth = it.1 in
    let third = fourth.1 in
    let second = third.1 in
    let named = second.1 in
    let shelves = second.2 (subst (λ t. StandFor t only_common) (sym named.1) blank) in
    let keys = third.2 shelves in
    let entries = fourth.2 keys in
    let all = it.2 entries sound in
    record {
      world = all.world;
      is = all.is;
      means =
          record { named = named.0; shelves = all.shelves; access = all.keys; entries = all.entries };
      stands =
          all.stands;
    }
