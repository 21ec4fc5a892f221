use Rattle.dr_query_laws.proofs.QueriesGoOn.{tokens_go_on}
use Rattle.dr_query_laws.proofs.fault_laws.tokens_before_query_fault_go_on.Goals as goal

pub returns : goal.returns
returns c = tokens_go_on
