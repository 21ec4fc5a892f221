use Rattle.dr_write.proofs.FitLemmas as lemmas
use Rattle.dr_write.proofs.column_laws.record_columns_fit.Goals as goal

pub returns : goal.returns
returns c = lemmas.record_columns_fit
