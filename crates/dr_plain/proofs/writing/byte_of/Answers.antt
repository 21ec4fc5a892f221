use Rattle.std.proofs.Common.{◌∙◌, take, get_or, false, refl}
use Rattle.dr_plain.proofs.WriteSteps.{byte_more, bit_is}
use Rattle.dr_plain.proofs.writing.byte_of.Goals as goal

pub loop-value-preserved : goal.loop-value-preserved
loop-value-preserved c = byte_more (take c.min.result c.args.values.now) c.loop-value.value-index c.loop-value.byte c.loop-value.worth c.from.result (get_or (take c.min.result c.args.values.now) c.loop-value.value-index false) false c.loop-value.invariant c.loop-value-test.true refl (c.from.ensures ∙ bit_is (get_or (take c.min.result c.args.values.now) c.loop-value.value-index false))
