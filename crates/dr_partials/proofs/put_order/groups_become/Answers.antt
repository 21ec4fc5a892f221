use Rattle.dr_partials.proofs.GroupPutLemmas.{groups_become}
use Rattle.dr_partials.proofs.put_order.groups_become.Goals as goal

pub returns : goal.returns
returns c = groups_become
