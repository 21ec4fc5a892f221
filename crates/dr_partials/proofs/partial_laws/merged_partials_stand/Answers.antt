use Rattle.dr_partials.proofs.PartialLemmas.{merged_stands, empty_stands_for_none}
use Rattle.dr_partials.proofs.partial_laws.merged_partials_stand.Goals as goal

pub returns : goal.returns
returns c = record { merged = merged_stands; empty = empty_stands_for_none }
