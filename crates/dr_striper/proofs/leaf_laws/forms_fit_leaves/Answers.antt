use Rattle.dr_striper.proofs.FitLemmas.{form_fits}
use Rattle.dr_striper.proofs.leaf_laws.forms_fit_leaves.Goals as goal

pub returns : goal.returns
returns c = form_fits
