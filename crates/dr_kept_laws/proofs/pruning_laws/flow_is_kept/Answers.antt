use Rattle.std.specs.Prelude.{Option}
use Rattle.dr_meaning.specs.Record.{Value}
use Rattle.dr_partials.specs.Putting.{Put}
use Rattle.dr_kept_laws.proofs.FlaggedLemmas.{flow_is_kept}
use Rattle.dr_kept_laws.proofs.pruning_laws.flow_is_kept.Goals as goal

pub returns : goal.returns
returns c = record { values = flow_is_kept (Option Value); puts = flow_is_kept Put }
