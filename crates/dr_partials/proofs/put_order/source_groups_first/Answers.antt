use Rattle.dr_partials.proofs.GroupPutLemmas.{source_groups_first}
use Rattle.dr_partials.proofs.put_order.source_groups_first.Goals as goal

pub returns : goal.returns
returns c = source_groups_first
