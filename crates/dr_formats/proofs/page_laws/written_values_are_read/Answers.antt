use Rattle.dr_formats.proofs.PlainLemmas.{written_values_are_read}
use Rattle.dr_formats.proofs.page_laws.written_values_are_read.Goals as goal

pub returns : goal.returns
returns c = written_values_are_read
