use Rattle.std.specs.Prelude.{Bool, Option}
use Rattle.dr_meaning.specs.Record.{Value}
use Rattle.dr_partials.specs.Putting.{Put}
use Rattle.dr_moves.proofs.FiringLemmas.{rows_fire}
use Rattle.dr_moves.proofs.firing_laws.rows_fire.Goals as goal

pub returns : goal.returns
returns c = record { truths = rows_fire Bool; values = rows_fire (Option Value); puts = rows_fire Put }
