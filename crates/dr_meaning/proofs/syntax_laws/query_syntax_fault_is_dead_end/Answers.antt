use Rattle.dr_meaning.proofs.SyntaxDeadEnds.{fault_is_dead_end, fault_is_no_query}
use Rattle.dr_meaning.proofs.syntax_laws.query_syntax_fault_is_dead_end.Goals as goal

pub returns : goal.returns
returns c = record { none = fault_is_no_query; dead_end = fault_is_dead_end }
