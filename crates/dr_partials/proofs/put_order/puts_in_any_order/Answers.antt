use Rattle.dr_partials.proofs.AnyOrderLemmas.{puts_in_any_order}
use Rattle.dr_partials.proofs.put_order.puts_in_any_order.Goals as goal

pub returns : goal.returns
returns c = puts_in_any_order
