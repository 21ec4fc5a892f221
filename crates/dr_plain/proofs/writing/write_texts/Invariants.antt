use Rattle.dr_meaning.specs.Record.{text_value}
use Rattle.dr_formats.specs.Plain.{plain_text_bytes}
use Rattle.dr_plain.specs.Views.{text_at}
use Rattle.dr_plain.proofs.WriteSteps.{Joined}
use Rattle.dr_plain.proofs.writing.write_texts.Given as goal

abbrev pub invariant-texts : goal.invariant-texts
invariant-texts l = Joined plain_text_bytes (λ p. text_value (text_at l.bytes p)) l.texts l.fn.out.items l.out.items l.text-index
