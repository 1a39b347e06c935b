-- A served store is only read, by a count, or by a copy beside its turns. What is told of a copy and of a catalog.
use Rattle.std.proofs.Common.{ℕ, List, [], ◌≡◌, ◌≤◌, Bool, true, false, Option, Some, refl, subst}
use Rattle.std.proofs.Common.{Result, Ok, Err, IfOk}
use Rattle.std.specs.Prelude.{IsErrOf}
use Rattle.store_files.specs.History.{Done}
use Rattle.world.specs.Store.{Shown, Reads}
use Rattle.world.specs.World.{World}
use Rattle.world.specs.declared.registry.StoreFault.{StoreFault}
use Rattle.statements.specs.Counted.{versions_in}
use Rattle.catalog.specs.Meanwhile.{PrintsCatalogOn}
use Rattle.catalog.specs.declared.between.CatalogEnd.{CatalogEnd}
use Rattle.catalog.specs.declared.between.CatalogEnd.TheVariants as end
use Rattle.catalog.specs.declared.print.PrintError.TheVariants as why
use Rattle.control.specs.Copying.{IsOnlyRead}
use Rattle.control.specs.declared.copies.CatalogRefusal.TheVariants as catalog
use Rattle.control.specs.declared.copies.CopyRefusal.{CopyRefusal}
use Rattle.runner.specs.Copies.{CopiesTo, catalogued}

-- a store whose count of failures alone grew
pub recounted : (s : Shown) (n m : ℕ) → n ≤ m → IsOnlyRead (record s { failures = n }) (record s { failures = m })
recounted s n m no_fewer = record {
  honest = λ h. h;
  stays = λ h w stands. stands;
  left = λ h w x y stands was. was;
  no_fewer = no_fewer;
}

pub count_reads : (old new : Shown) (told : Result ℕ StoreFault) (value : World → ℕ) → Reads old new told value
    → IsOnlyRead old new
count_reads old new told value reads = record {
  honest = reads.honest;
  stays = λ h w stands. (reads.at h w stands).stays;
  left = λ h w x y stands was. (reads.at h w stands).left x y was;
  no_fewer = reads.cause.no_fewer;
}

pub count_tells : (old new : Shown) (told : Result ℕ StoreFault) → Reads old new told versions_in
    → IfOk told (λ n. new.is_honest → (w : World) → old.stands w → n ≡ versions_in w)
count_tells old new (Ok n) reads = λ h w stands. (reads.at h w stands).answer
count_tells old new (Err fault) reads = tt

-- a copy by files to which nothing was done before
pub copies_file : {S F D : Type 0} (shown : S → Shown) (shown_too : F → Shown) (begins : F → Type 0) (left : F → D)
    (before after : List (Done D)) (source source_new : S) (to : List ℕ) (result : Result (Unit {0}) CopyRefusal)
    → before ≡ []
    → CopiesTo shown shown_too (record { begins = begins; left = left; before = before; after = after })
    source source_new to result
    → CopiesTo shown shown_too (record { begins = begins; left = left; before = []; after = after })
    source source_new to result
copies_file shown shown_too begins left before after source source_new to result none it =
    subst (λ b. CopiesTo shown shown_too (record { begins = begins; left = left; before = b; after = after })
    source source_new to result) none it

-- what was printed of a catalog, alone
pub prints_alone : (old new : Shown) (key : List ℕ) (written written_new : Option (List ℕ))
    (told : Result Bool CatalogEnd) (it : PrintsCatalogOn old new key written written_new told)
    → PrintsCatalogOn old new key (Some []) (Some it.printed) told
prints_alone old new key written written_new told it = record {
  printed = it.printed;
  appends = refl;
  honest = it.honest;
  at = it.at;
  no_fewer = it.no_fewer;
  device = it.device;
}

-- where the output is told to have failed it did
pub output_told : (told : Result Bool CatalogEnd) → catalogued told ≡ Err catalog.Output
    → IsErrOf told (end.PrintError why.Output)
output_told (Ok true) is = absurd (let e = is in cc)
output_told (Ok false) is = absurd (let e = is in cc)
output_told (Err (end.PrintError why.Device)) is = absurd (let e = is in cc)
output_told (Err (end.PrintError why.Memory)) is = absurd (let e = is in cc)
output_told (Err (end.PrintError why.Output)) is = refl
output_told (Err end.Ended) is = absurd (let e = is in cc)
