use Rattle.dr_made_laws.proofs.MadeLemmas.{parts_make_object}
use Rattle.dr_made_laws.proofs.object_laws.parts_make_object.Goals as goal

pub returns : goal.returns
returns c = parts_make_object
