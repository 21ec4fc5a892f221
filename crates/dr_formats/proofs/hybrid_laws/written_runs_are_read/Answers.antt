use Rattle.dr_formats.proofs.HybridLemmas.{written_runs_are_read}
use Rattle.dr_formats.proofs.HybridGrammar.{written_runs_are_spelled}
use Rattle.dr_formats.proofs.hybrid_laws.written_runs_are_read.Goals as goal

pub returns : goal.returns
returns c = record { spelled = written_runs_are_spelled; read = written_runs_are_read }
