use Rattle.dr_reading.proofs.PieceLemmas.{kept_pieces_are_true}
use Rattle.dr_reading.proofs.serving_laws.kept_pieces_are_true.Goals as goal

pub returns : goal.returns
returns c = kept_pieces_are_true
