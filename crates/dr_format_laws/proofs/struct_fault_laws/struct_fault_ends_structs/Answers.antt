use Rattle.dr_format_laws.proofs.StructFaults.{malformed_ends_structs, malformed_stays, too_deep_ends_structs}
use Rattle.dr_format_laws.proofs.struct_fault_laws.struct_fault_ends_structs.Goals as goal

pub returns : goal.returns
returns c = record { malformed = malformed_ends_structs; stays = malformed_stays; too_deep = too_deep_ends_structs }
