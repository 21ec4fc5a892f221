use Rattle.dr_partials.proofs.RewritingLemmas.{leaf_has_partials, leaf_has_same_partials, leaf_uses_same_leaves, leaf_covered_alike}
use Rattle.dr_partials.proofs.rewriting_laws.leaf_query_has_partials.Goals as goal

pub returns : goal.returns
returns c = record { records = leaf_has_partials; partials = leaf_has_same_partials; leaves = leaf_uses_same_leaves; enough = leaf_covered_alike }
