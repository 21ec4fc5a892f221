use Rattle.dr_moves.proofs.CuttingLemmas.{goes_behind}
use Rattle.dr_moves.proofs.cutting_laws.append_and_cut.Goals as goal

pub returns : goal.returns
returns c = record { values = λ seen left w r T g. goes_behind seen left w r T g; puts = λ seen left w r T g. goes_behind seen left w r T g }
