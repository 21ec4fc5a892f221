use Rattle.dr_moves.proofs.KeptRows.{kept_any}
use Rattle.dr_moves.proofs.TourLemmas.{true_row_keeps}
use Rattle.dr_moves.proofs.InstanceKept.{true_row_keeps_instance}
use Rattle.dr_moves.proofs.kept_laws.true_row_keeps.Goals as goal

pub returns : goal.returns
returns c = record { rows = kept_any; records = true_row_keeps; instances = true_row_keeps_instance }
