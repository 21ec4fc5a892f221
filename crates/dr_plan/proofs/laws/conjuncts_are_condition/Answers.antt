use Rattle.dr_plan.proofs.ConjunctLemmas.{true_where_each_is, conjuncts_have_paths, rejoined_means_same}
use Rattle.dr_plan.proofs.RejoiningLemmas.{rejoined_is_same}
use Rattle.dr_plan.proofs.laws.conjuncts_are_condition.Goals as goal

pub returns : goal.returns
returns c = record { each = true_where_each_is; paths = conjuncts_have_paths; joined = rejoined_means_same; written = rejoined_is_same }
