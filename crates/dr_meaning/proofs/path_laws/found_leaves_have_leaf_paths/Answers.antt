use Rattle.dr_meaning.proofs.FoundLemmas.{found_is_leaf}
use Rattle.dr_meaning.proofs.path_laws.found_leaves_have_leaf_paths.Goals as goal

pub returns : goal.returns
returns c = found_is_leaf
