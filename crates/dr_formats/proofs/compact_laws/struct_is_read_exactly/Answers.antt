use Rattle.dr_formats.proofs.GrammarSound.{struct_is_read_exactly}
use Rattle.dr_formats.proofs.compact_laws.struct_is_read_exactly.Goals as goal

pub returns : goal.returns
returns c = struct_is_read_exactly
