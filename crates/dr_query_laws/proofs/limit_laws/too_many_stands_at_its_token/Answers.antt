use Rattle.dr_query_laws.proofs.OperatorsOfQueries.{too_many_stands}
use Rattle.dr_query_laws.proofs.limit_laws.too_many_stands_at_its_token.Goals as goal

pub returns : goal.returns
returns c = too_many_stands
