use Rattle.dr_partials.proofs.SourcePutLemmas.{sources_put_all}
use Rattle.dr_partials.proofs.put_order.sources_put_all.Goals as goal

pub returns : goal.returns
returns c = sources_put_all
