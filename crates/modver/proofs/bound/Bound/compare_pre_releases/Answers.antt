use Rattle.std.proofs.Common.{sym, ◌∙◌}
use Rattle.std.specs.FinMap.{nat_cmp-IsAntisymmetric}
use Rattle.modver.proofs.Ends.{ends-of, heads-apart, tails-order}
use Rattle.modver.proofs.bound.Bound.compare_pre_releases.Goals as goal

pub returns-in_default : goal.returns-in_default
returns-in_default c =
    let u = ends-of c.self.inside c.args.self.now c.self.invariant c.self.view_is in
    let v = ends-of c.other.inside c.args.other.now c.other.invariant c.other.view_is in
    heads-apart _ _ _ _ c.args.self.now.identifiers c.args.other.now.identifiers u.0.identifiers v.0.identifiers u.1 v.1
    c.cmp.result c.cmp.ensures c.in_default.not-Equal

pub returns-in-Equal : goal.returns-in-Equal
returns-in-Equal c =
    let u = ends-of c.self.inside c.args.self.now c.self.invariant c.self.view_is in
    let v = ends-of c.other.inside c.args.other.now c.other.invariant c.other.view_is in
    let heads = nat_cmp-IsAntisymmetric c.self.inside.head c.other.inside.head (sym c.cmp.ensures ∙ c.in-Equal.is) in
    c.compare_tails.ensures
    ∙ tails-order _ _ c.self.inside.tail c.other.inside.tail c.args.self.now.identifiers c.args.other.now.identifiers
    u.0.identifiers v.0.identifiers u.1 v.1 heads
