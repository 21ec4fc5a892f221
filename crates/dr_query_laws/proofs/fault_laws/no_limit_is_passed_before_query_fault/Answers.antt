use Rattle.dr_query_laws.proofs.OperatorsOfQueries.{few_operators_before}
use Rattle.dr_query_laws.proofs.ElementsOfQueries.{few_elements_before}
use Rattle.dr_query_laws.proofs.StackOfQueries.{little_nested_before}
use Rattle.dr_query_laws.proofs.fault_laws.no_limit_is_passed_before_query_fault.Goals as goal

pub returns : goal.returns
returns c = record { operators = few_operators_before; nestings = little_nested_before; elements = few_elements_before }
