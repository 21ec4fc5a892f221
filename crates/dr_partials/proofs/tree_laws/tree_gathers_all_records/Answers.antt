use Rattle.dr_partials.proofs.TreeLemmas.{gathered_stands, gathered_means_query}
use Rattle.dr_partials.proofs.tree_laws.tree_gathers_all_records.Goals as goal

pub returns : goal.returns
returns c = record { stands = gathered_stands; means = gathered_means_query }
