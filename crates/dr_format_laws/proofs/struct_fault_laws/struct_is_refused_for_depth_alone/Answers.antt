use Rattle.dr_format_laws.proofs.StructFaults.{depth_alone_is_refused}
use Rattle.dr_format_laws.proofs.struct_fault_laws.struct_is_refused_for_depth_alone.Goals as goal

pub returns : goal.returns
returns c = depth_alone_is_refused
