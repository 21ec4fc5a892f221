use Rattle.dr_meaning.proofs.NameFaultLemmas.{name_fault_is_broken}
use Rattle.dr_meaning.proofs.schema_laws.name_fault_is_broken.Goals as goal

pub returns : goal.returns
returns c = name_fault_is_broken
