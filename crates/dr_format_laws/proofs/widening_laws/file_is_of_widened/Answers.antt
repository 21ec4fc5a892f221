use Rattle.dr_format_laws.proofs.WideFiles.{file_is_of_widened, written_file_is_of_widened}
use Rattle.dr_format_laws.proofs.widening_laws.file_is_of_widened.Goals as goal

pub returns : goal.returns
returns c = record { any = file_is_of_widened; written = written_file_is_of_widened }
