use Rattle.dr_made_laws.proofs.FramesObjects.{frames_make_objects, all_moves_make_objects}
use Rattle.dr_made_laws.proofs.object_laws.frames_make_objects.Goals as goal

pub returns : goal.returns
returns c = record { cut = frames_make_objects; whole = all_moves_make_objects }
