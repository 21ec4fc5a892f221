use Rattle.std.specs.Prelude.{List, Option}
use Rattle.dr_meaning.specs.Record.{Value}
use Rattle.dr_partials.specs.Putting.{Put}
use Rattle.dr_kept_laws.proofs.GroupFlowLaws.{fired_of_all}
use Rattle.dr_kept_laws.proofs.row_laws.fired_of_all.Goals as goal

pub returns : goal.returns
returns c = record { values = fired_of_all (List (Option Value)); puts = fired_of_all Put }
