use Rattle.dr_rows_beside.proofs.AnswerLemmas.{none_holds, some_holds}
use Rattle.dr_rows_beside.proofs.answers.holds.Goals as goal

pub returns-in-None : goal.returns-in-None
returns-in-None c = none_holds c.args.test.now c.args.row.now c.in_ok-truth.field-0 c.in-None.is c.in_ok-truth.ensures.slots

pub returns-in-Some : goal.returns-in-Some
returns-in-Some c = some_holds c.args.test.now c.args.row.now c.in_ok-truth.field-0 c.in-Some.value c.in-Some.is c.in_ok-truth.ensures.slots
