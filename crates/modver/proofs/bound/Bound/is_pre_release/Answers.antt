use Rattle.modver.proofs.Ends.{ends-of, other-head}
use Rattle.modver.proofs.bound.Bound.is_pre_release.Goals as goal

pub returns : goal.returns
returns c =
    let u = ends-of c.self.inside c.args.self.now c.self.invariant c.self.view_is in
    other-head c.self.inside.head c.self.inside.tail c.args.self.now.identifiers u.0.identifiers u.1
