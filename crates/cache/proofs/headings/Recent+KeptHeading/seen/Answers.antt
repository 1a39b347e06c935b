use Rattle.std.proofs.Common.{◌∙◌, Some, ap}
use Rattle.cache.proofs.HeadingLemmas.{found_heading}
use Rattle.cache.proofs.headings.Recent+KeptHeading.seen.Goals as goal

pub returns-in-Ok-clause-found : goal.returns-in-Ok-clause-found
returns-in-Ok-clause-found c w are =
    let it = c.in_ok-kept.kept.now in
    let held = c.promote.ensures it c.in_ok-kept.ensures.held in
    ap Some c.in-Ok.ensures ∙ found_heading w c.args.self.now it c.args.shelf.now c.args.path.now c.args.version.now
    held c.in_ok-kept.ensures.names are
