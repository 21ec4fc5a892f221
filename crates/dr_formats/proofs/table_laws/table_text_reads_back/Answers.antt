use Rattle.dr_formats.proofs.TableLemmas.{table_reads_back}
use Rattle.dr_formats.proofs.table_laws.table_text_reads_back.Goals as goal

pub returns : goal.returns
returns c = table_reads_back
