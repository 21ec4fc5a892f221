use Rattle.dr_query_laws.proofs.StackOfQueries.{one_number}
use Rattle.dr_query_laws.proofs.nesting_laws.one_number_is_open.Goals as goal

pub returns : goal.returns
returns c = one_number
