use Rattle.dr_partials.proofs.RootLemmas.{root_means_query}
use Rattle.dr_partials.proofs.rewriting_laws.root_query_means_query.Goals as goal

pub returns : goal.returns
returns c = root_means_query
