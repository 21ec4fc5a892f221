use Rattle.dr_formats.proofs.HybridGrammar.{one_list_of_values}
use Rattle.dr_formats.proofs.hybrid_laws.one_list_of_values.Goals as goal

pub returns : goal.returns
returns c = one_list_of_values
