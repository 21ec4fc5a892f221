use Rattle.dr_made_laws.proofs.FramesPartialLemmas.{frames_put_partial, all_moves_put_partial}
use Rattle.dr_made_laws.proofs.put_laws.frames_put_partial.Goals as goal

pub returns : goal.returns
returns c = record { cut = frames_put_partial; whole = all_moves_put_partial }
