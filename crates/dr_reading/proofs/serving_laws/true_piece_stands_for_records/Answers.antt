use Rattle.dr_reading.proofs.ServingLemmas.{true_of_tablet_stands}
use Rattle.dr_reading.proofs.serving_laws.true_piece_stands_for_records.Goals as goal

pub returns : goal.returns
returns c = true_of_tablet_stands
