use Rattle.dr_formats.proofs.FileBack.{written_file_is_file}
use Rattle.dr_formats.proofs.writing_laws.written_file_is_file.Goals as goal

pub returns : goal.returns
returns c = written_file_is_file
