use Rattle.std.proofs.Common.{◌∙◌, ap, refl}
use Rattle.std.proofs.Math.Seq.{map-set_same}
use Rattle.dr_agreement.specs.AtHand.{form_of}
use Rattle.dr_agreement.proofs.AtHandLemmas.{end_others, end_set}
use Rattle.dr_columns.proofs.StepLemmas.{lent_back}
use Rattle.dr_columns.proofs.chunks.Chunks.take_back.Goals as goal

pub returns-clause-added : goal.returns-clause-added
returns-clause-added c = λ s p rows given now R x before more h lent joined goes_on g.
    lent_back s p rows given now R x c.args.self.now c.args.leaf before more c.args.kept c.take_back.new.self _ h lent c.requires.within refl (c.take_back.ensures.rest ∙ joined) goes_on g

pub returns-clause-ended : goal.returns-clause-ended
returns-clause-ended c = end_set c.args.self.now.leaves.items c.args.leaf c.take_back.new.self c.requires.within ∙ c.take_back.ensures.ended

pub returns-clause-ends : goal.returns-clause-ends
returns-clause-ends c = λ i d. end_others c.args.self.now.leaves.items c.args.leaf i c.take_back.new.self d

pub returns-clause-forms : goal.returns-clause-forms
returns-clause-forms c = map-set_same form_of c.args.self.now.leaves.items c.args.leaf c.take_back.new.self c.index_mut.result.now (c.take_back.ensures.form ∙ ap form_of c.index_mut.ensures.value)
