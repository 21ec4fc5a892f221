use Rattle.dr_meaning.specs.Record.{text_value}
use Rattle.dr_formats.specs.Plain.{plain_text_bytes}
use Rattle.dr_levels.specs.Texts.{bytes_at}
use Rattle.dr_plain.proofs.WriteSteps.{Joined}
use Rattle.dr_page.proofs.value_writer.append_texts.Given as goal

abbrev pub invariant-places : goal.invariant-places
invariant-places l = Joined plain_text_bytes (λ p. text_value (bytes_at l.bytes p)) l.places l.fn.out.items l.out.items l.place-index
