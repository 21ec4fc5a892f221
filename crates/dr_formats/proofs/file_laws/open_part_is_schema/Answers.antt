use Rattle.dr_formats.proofs.OpenSchemaLemmas.{open_part_is_schema}
use Rattle.dr_formats.proofs.FileBack.{written_schema_is_read}
use Rattle.dr_formats.proofs.file_laws.open_part_is_schema.Goals as goal

pub returns : goal.returns
returns c = record { rules = open_part_is_schema; written = written_schema_is_read }
