use Rattle.dr_columns.proofs.RowPutLemmas.{puts_of_source}
use Rattle.dr_columns.proofs.put_laws.puts_of_source.Goals as goal

pub returns : goal.returns
returns c = puts_of_source
