use Rattle.dr_made_laws.proofs.FlowPartialLemmas.{puts_make_partial}
use Rattle.dr_made_laws.proofs.put_laws.puts_make_partial.Goals as goal

pub returns : goal.returns
returns c = puts_make_partial
