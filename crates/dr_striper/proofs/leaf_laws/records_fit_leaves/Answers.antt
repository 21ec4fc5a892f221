use Rattle.dr_striper.proofs.FitLemmas.{record_fits}
use Rattle.dr_striper.proofs.leaf_laws.records_fit_leaves.Goals as goal

pub returns : goal.returns
returns c = record_fits
