use Rattle.dr_lines.specs.Cutting.{pending}
use Rattle.dr_input.proofs.TakenLemmas.{ahead_nothing}
use Rattle.dr_input.proofs.reader.Records.new.Goals as goal

pub returns-clause-left : goal.returns-clause-left
returns-clause-left c = λ left. ahead_nothing left (pending c.in_ok-lines.lines) c.in_ok-lines.ensures.pending
