use Rattle.dr_query_laws.proofs.NestingsOfQueries.{too_deep_stands}
use Rattle.dr_query_laws.proofs.nesting_laws.too_deep_stands_at_its_token.Goals as goal

pub returns : goal.returns
returns c = too_deep_stands
