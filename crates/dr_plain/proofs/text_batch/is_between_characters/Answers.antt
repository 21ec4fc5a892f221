use Rattle.dr_plain.proofs.BatchSteps.{text_between}
use Rattle.dr_plain.proofs.text_batch.is_between_characters.Goals as goal

pub returns : goal.returns
returns c = text_between c.args.all.now c.args.place c.is_char_boundary.result c.is_char_boundary-2.result c.requires.utf8 c.requires.within c.is_char_boundary.ensures.test.0 c.is_char_boundary-2.ensures.test.0
