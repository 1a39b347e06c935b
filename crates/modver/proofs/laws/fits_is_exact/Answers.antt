use Rattle.modver.proofs.FitsCases.{fits-exact}
use Rattle.modver.proofs.laws.fits_is_exact.Goals as goal

pub returns : goal.returns
returns c = fits-exact
