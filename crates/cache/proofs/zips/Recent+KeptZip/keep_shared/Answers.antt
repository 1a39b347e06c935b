use Rattle.std.proofs.Common.{sym, subst}
use Rattle.world.specs.World.{place}
use Rattle.cache.specs.declared.zips.KeptZip.{KeptZip}
use Rattle.cache.specs.Zips.{IsZipAt}
use Rattle.cache.proofs.ZipLemmas.{one_more_zip}
use Rattle.cache.proofs.zips.Recent+KeptZip.keep_shared.Goals as goal

pub returns-in-Some-clause-zips : goal.returns-in-Some-clause-zips
returns-in-Some-clause-zips c w are is =
    let q = place c.args.shelf.now c.args.path.now c.args.version.now in
    one_more_zip w c.args.self.now c.keep.new.self c.in-Some.kept c.keep.ensures are
    (subst (λ (it : KeptZip). IsZipAt w it.place it.zip) (sym c.in-Some.ensures)
    (subst (IsZipAt w q) (sym c.shared-zip.ensures) is))
