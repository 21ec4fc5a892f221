use Rattle.dr_made_laws.proofs.LeavesInOrderLemmas.{query_leaves_in_order}
use Rattle.dr_made_laws.proofs.put_laws.query_leaves_in_order.Goals as goal

pub returns : goal.returns
returns c = query_leaves_in_order
