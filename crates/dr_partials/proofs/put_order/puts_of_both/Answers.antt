use Rattle.dr_partials.proofs.TogetherLemmas.{puts_of_both}
use Rattle.dr_partials.proofs.put_order.puts_of_both.Goals as goal

pub returns : goal.returns
returns c = puts_of_both
