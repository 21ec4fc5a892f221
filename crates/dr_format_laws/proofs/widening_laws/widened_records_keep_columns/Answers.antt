use Rattle.dr_format_laws.proofs.WideFields.{widened_are_records}
use Rattle.dr_format_laws.proofs.WideColumns.{widening_keeps_columns}
use Rattle.dr_format_laws.proofs.widening_laws.widened_records_keep_columns.Goals as goal

pub returns : goal.returns
returns c = record { records = widened_are_records; columns = widening_keeps_columns }
