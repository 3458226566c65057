use Rattle.name_laws.proofs.GoOnLaws.{fits_go_on}
use Rattle.name_laws.proofs.laws.fits_go_on.Goals as goal

pub returns : goal.returns
returns c = fits_go_on
