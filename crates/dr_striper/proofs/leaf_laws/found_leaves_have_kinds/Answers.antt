use Rattle.dr_striper.proofs.FoundLemmas.{found_is_of}
use Rattle.dr_striper.proofs.leaf_laws.found_leaves_have_kinds.Goals as goal

pub returns : goal.returns
returns c = found_is_of
