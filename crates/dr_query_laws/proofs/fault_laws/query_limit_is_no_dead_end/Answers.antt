use Rattle.dr_query_laws.proofs.QueriesGoOn.{no_dead_end}
use Rattle.dr_query_laws.proofs.fault_laws.query_limit_is_no_dead_end.Goals as goal

pub returns : goal.returns
returns c = no_dead_end
