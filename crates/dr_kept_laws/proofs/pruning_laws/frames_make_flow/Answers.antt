use Rattle.std.specs.Prelude.{Option}
use Rattle.dr_meaning.specs.Record.{Value}
use Rattle.dr_partials.specs.Putting.{Put}
use Rattle.dr_kept_laws.proofs.FrameLemmas.{frames_make_flow}
use Rattle.dr_kept_laws.proofs.pruning_laws.frames_make_flow.Goals as goal

pub returns : goal.returns
returns c = record { values = frames_make_flow (Option Value); puts = frames_make_flow Put }
