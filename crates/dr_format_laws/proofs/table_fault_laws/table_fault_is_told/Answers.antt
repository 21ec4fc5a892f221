use Rattle.dr_format_laws.proofs.TableFaults.{table_fault_is_told}
use Rattle.dr_format_laws.proofs.table_fault_laws.table_fault_is_told.Goals as goal

pub returns : goal.returns
returns c = table_fault_is_told
