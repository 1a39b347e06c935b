use Rattle.std.proofs.Common.{◌≡◌, ◌∙◌, sym, subst, IfSome}
use Rattle.world.specs.Latest.{latest_of}
use Rattle.cache.proofs.ListLemmas.{found}
use Rattle.cache.proofs.lists.Recent+KeptList.latest.Goals as goal

pub returns-in-Ok-clause-found : goal.returns-in-Ok-clause-found
returns-in-Ok-clause-found c w are =
    let list = c.in_ok-list.field-0.now in
    let s = c.args.shelf.now in
    let p = c.args.path.now in
    let held = c.promote.ensures list c.in_ok-list.ensures.held in
    let is = (found w c.args.self.now list s p held c.in_ok-list.ensures.names are).1 in
    let latest = subst (λ o. IfSome o (λ it. it ≡ latest_of w s p)) (sym c.in_ok-latest.ensures.value) is in
    c.in-Ok.ensures ∙ c.as_ref-2.ensures.value ∙ latest
