use Rattle.dr_partials.proofs.PutLemmas.{puts_are_merged, puts_commute}
use Rattle.dr_partials.proofs.partial_laws.puts_are_merged.Goals as goal

pub returns : goal.returns
returns c = record { merged = puts_are_merged; commute = puts_commute }
