use Rattle.dr_meaning.specs.Record.{int_value}
use Rattle.dr_formats.specs.Plain.{plain_number_bytes}
use Rattle.dr_plain.proofs.WriteSteps.{Joined}
use Rattle.dr_plain.proofs.writing.write_int64s.Given as goal

abbrev pub invariant-values : goal.invariant-values
invariant-values l = Joined (plain_number_bytes 64) int_value l.values l.fn.out.items l.out.items l.value-index
