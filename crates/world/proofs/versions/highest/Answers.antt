use Rattle.std.proofs.Common.{ap, ◌∙◌, Some, None, option_copied}
use Rattle.world.proofs.Tops.{lent_at, names_highest}
use Rattle.world.proofs.versions.highest.Goals as goal

pub returns-in_err-index : goal.returns-in_err-index
returns-in_err-index c = λ path all. ap option_copied c.from_residual.ensures
    ∙ names_highest path c.args.versions.now all None c.in_err-index.ensures

pub returns : goal.returns
returns c =
    λ path all. lent_at c.args.versions.now c.in_ok-index.index c.get.result c.get.ensures.lookup
    ∙ names_highest path c.args.versions.now all (Some c.in_ok-index.index) c.in_ok-index.ensures
