use Rattle.std.proofs.Common.{◌≡◌, subst, ◌∙◌, Some, None, rules}
use Rattle.latest.specs.Latest.{NamesTop, unretracted}
use Rattle.world.proofs.Tops.{lent_at, names_highest_left}
use Rattle.world.proofs.versions.highest_left.Goals as goal

pub returns-in-Some : goal.returns-in-Some
returns-in-Some c = λ path all.
    let m = c.args.gomod.now in
    let vs = c.args.versions.now in
    let e : c.in_ok-index.field-0 ≡ Some c.in-Some.index = search rules in
    lent_at vs c.in-Some.index c.get.result c.get.ensures.lookup
    ∙ names_highest_left m path vs all (Some c.in-Some.index)
    (subst (NamesTop vs (unretracted vs m)) e c.in_ok-index.ensures)

pub returns-in-None : goal.returns-in-None
returns-in-None c = λ path all.
    let m = c.args.gomod.now in
    let vs = c.args.versions.now in
    let e : c.in_ok-index.field-0 ≡ None = search rules in
    names_highest_left m path vs all None (subst (NamesTop vs (unretracted vs m)) e c.in_ok-index.ensures)
