use Rattle.dr_meaning.proofs.SchemaDeadEnds.{syntax_is_dead_end, float_is_dead_end, empty_group_is_dead_end}
use Rattle.dr_meaning.proofs.schema_laws.syntax_fault_is_first_dead_end.Goals as goal

pub returns : goal.returns
returns c = record { syntax = syntax_is_dead_end; float = float_is_dead_end; empty = empty_group_is_dead_end }
