use Rattle.dr_query_laws.proofs.StackOfQueries.{nests_little}
use Rattle.dr_query_laws.proofs.nesting_laws.accepted_nests_little.Goals as goal

pub returns : goal.returns
returns c = nests_little
