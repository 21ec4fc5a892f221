use Rattle.dr_scalar.proofs.SameReadLemmas.{same_leaves_tell, same_test_leaves_tell}
use Rattle.dr_scalar.proofs.laws.same_leaves_tell.Goals as goal

pub returns : goal.returns
returns c = record { expression = same_leaves_tell; tests = same_test_leaves_tell }
