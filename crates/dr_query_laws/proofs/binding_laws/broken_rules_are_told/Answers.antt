use Rattle.dr_query_laws.proofs.AllRules.{told_is_first, bound_is_unbroken}
use Rattle.dr_query_laws.proofs.binding_laws.broken_rules_are_told.Goals as goal

pub returns : goal.returns
returns c = record { first = told_is_first; bound = bound_is_unbroken }
