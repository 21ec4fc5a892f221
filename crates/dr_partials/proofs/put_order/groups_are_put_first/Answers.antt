use Rattle.dr_partials.proofs.ReadingLemmas.{groups_are_put_first}
use Rattle.dr_partials.proofs.put_order.groups_are_put_first.Goals as goal

pub returns : goal.returns
returns c = groups_are_put_first
