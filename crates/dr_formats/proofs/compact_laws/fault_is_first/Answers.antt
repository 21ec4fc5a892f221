use Rattle.dr_formats.proofs.FaultLemmas.{fault_is_first}
use Rattle.dr_formats.proofs.compact_laws.fault_is_first.Goals as goal

pub returns : goal.returns
returns c = fault_is_first
