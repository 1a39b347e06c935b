use Rattle.world.specs.World.{World, place}
use Rattle.cache.specs.Zips.{IsZipAt, AreZips}
use Rattle.cache.proofs.ZipLemmas.{found_zip, of_same}
use Rattle.cache.proofs.zips.Recent+KeptZip.zip.Goals as goal

pub returns-clause-found : goal.returns-clause-found
returns-clause-found c =
    let it = c.in_ok-kept.kept.now in
    let q = place c.args.shelf.now c.args.path.now c.args.version.now in
    let held = c.promote.ensures it c.in_ok-kept.ensures.held in
    of_same (λ zip. (w : World) → AreZips w c.args.self.now → IsZipAt w q zip) it.zip c.again.result c.again.ensures
    (λ w are. found_zip w c.args.self.now it q held c.in_ok-kept.ensures.place are)
