use Rattle.std.specs.Prelude.{List, Option}
use Rattle.dr_meaning.specs.Record.{Value}
use Rattle.dr_partials.specs.Putting.{Put}
use Rattle.dr_kept_laws.proofs.FiredTogetherLaws.{all_fired_together}
use Rattle.dr_kept_laws.proofs.row_laws.all_fired_together.Goals as goal

pub returns : goal.returns
returns c = record { values = all_fired_together (List (Option Value)); puts = all_fired_together Put }
