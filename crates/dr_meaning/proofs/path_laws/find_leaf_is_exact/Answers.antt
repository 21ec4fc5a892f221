use Rattle.dr_meaning.proofs.FindingLemmas.{find_leaf_is_exact}
use Rattle.dr_meaning.proofs.path_laws.find_leaf_is_exact.Goals as goal

pub returns : goal.returns
returns c = find_leaf_is_exact
