use Rattle.dr_formats.proofs.CompactLemmas.{written_struct_is_read}
use Rattle.dr_formats.proofs.GrammarSound.{written_struct_is_spelled}
use Rattle.dr_formats.proofs.compact_laws.written_struct_is_read.Goals as goal

pub returns : goal.returns
returns c = record { spelled = written_struct_is_spelled; read = written_struct_is_read }
