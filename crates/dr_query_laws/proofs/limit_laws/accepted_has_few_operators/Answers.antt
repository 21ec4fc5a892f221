use Rattle.dr_query_laws.proofs.OperatorsOfQueries.{few_operators}
use Rattle.dr_query_laws.proofs.limit_laws.accepted_has_few_operators.Goals as goal

pub returns : goal.returns
returns c = few_operators
