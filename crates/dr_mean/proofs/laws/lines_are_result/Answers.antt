use Rattle.dr_mean.proofs.OneRecordLemmas as lemmas
use Rattle.dr_mean.proofs.laws.lines_are_result.Goals as goal

pub returns : goal.returns
returns c = lemmas.lines_are_result
