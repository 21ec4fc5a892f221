use Rattle.dr_meaning.proofs.OrderLemmas.{orders_have_each_once}
use Rattle.dr_meaning.proofs.walk_laws.orders_have_each_once.Goals as goal

pub returns : goal.returns
returns c = orders_have_each_once
