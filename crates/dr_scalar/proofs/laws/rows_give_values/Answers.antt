use Rattle.dr_scalar.proofs.TypeLemmas.{rows_give_values}
use Rattle.dr_scalar.proofs.laws.rows_give_values.Goals as goal

pub returns : goal.returns
returns c = rows_give_values
