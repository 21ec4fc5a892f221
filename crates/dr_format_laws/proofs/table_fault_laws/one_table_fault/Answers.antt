use Rattle.dr_format_laws.proofs.TableFaults.{one_table_fault, table_or_fault}
use Rattle.dr_format_laws.proofs.table_fault_laws.one_table_fault.Goals as goal

pub returns : goal.returns
returns c = record { single = one_table_fault; either = table_or_fault }
