use Rattle.dr_scalar.proofs.TestLemmas.{leaves_tell, test_leaves_tell}
use Rattle.dr_scalar.proofs.laws.leaves_tell.Goals as goal

pub returns : goal.returns
returns c = record { expression = leaves_tell; tests = test_leaves_tell }
