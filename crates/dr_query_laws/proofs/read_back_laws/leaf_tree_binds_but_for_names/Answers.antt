use Rattle.dr_query_laws.proofs.WholeBinding.{leaf_tree_binds}
use Rattle.dr_query_laws.proofs.read_back_laws.leaf_tree_binds_but_for_names.Goals as goal

pub returns : goal.returns
returns c = leaf_tree_binds
