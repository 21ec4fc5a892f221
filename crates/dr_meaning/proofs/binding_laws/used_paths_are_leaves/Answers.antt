use Rattle.dr_meaning.proofs.BoundPartsLemmas.{used_paths_are_leaves}
use Rattle.dr_meaning.proofs.QueryLeavesLemmas.{query_leaves_are_leaves}
use Rattle.dr_meaning.proofs.binding_laws.used_paths_are_leaves.Goals as goal

pub returns : goal.returns
returns c = record { used = used_paths_are_leaves; leaves = query_leaves_are_leaves }
