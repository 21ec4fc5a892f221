use Rattle.dr_format_laws.proofs.StructFaults.{bytes_before_fault_go_on}
use Rattle.dr_format_laws.proofs.StructsBegin.{bytes_go_on_one_deeper}
use Rattle.dr_format_laws.proofs.struct_fault_laws.bytes_before_struct_fault_go_on.Goals as goal

pub returns : goal.returns
returns c = record { begun = bytes_before_fault_go_on; deeper = bytes_go_on_one_deeper }
