use Rattle.dr_made_laws.proofs.FramesObjects.{frames_make_lines, all_moves_make_lines}
use Rattle.dr_made_laws.proofs.PartialLemmas.{objects_make_partial, no_objects_make_partial}
use Rattle.dr_made_laws.proofs.object_laws.objects_make_partial.Goals as goal

pub returns : goal.returns
returns c = record { objects = objects_make_partial; nothing = no_objects_make_partial; cut = frames_make_lines; whole = all_moves_make_lines }
