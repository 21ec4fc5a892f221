use Rattle.dr_meaning.proofs.SchemaDeadEnds.{before_fault_goes_on}
use Rattle.dr_meaning.proofs.schema_laws.tokens_before_fault_go_on.Goals as goal

pub returns : goal.returns
returns c = before_fault_goes_on
