use Rattle.dr_plain.proofs.WriteSteps.{Byte}
use Rattle.dr_plain.proofs.writing.byte_of.Given as goal

abbrev pub invariant-loop-value : goal.invariant-loop-value
invariant-loop-value l = Byte l.value-items l.value-index l.byte l.worth
