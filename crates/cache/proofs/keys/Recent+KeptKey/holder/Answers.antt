use Rattle.std.proofs.Common.{◌∙◌, Some, sym, ap}
use Rattle.cache.proofs.KeyLemmas.{found_key}
use Rattle.cache.proofs.keys.Recent+KeptKey.holder.Goals as goal

pub returns-in-Ok-clause-found : goal.returns-in-Ok-clause-found
returns-in-Ok-clause-found c w are =
    let it = c.in_ok-kept.kept.now in
    let held = c.promote.ensures it c.in_ok-kept.ensures.held in
    found_key w c.args.self.now it c.args.key.now held c.in_ok-kept.ensures.name are ∙ ap Some (sym c.in-Ok.ensures)
