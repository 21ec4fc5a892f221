use Rattle.dr_scalar.proofs.LeafPathLemmas.{leaves_are_paths, test_leaves_are_paths}
use Rattle.dr_scalar.proofs.laws.leaves_are_paths.Goals as goal

pub returns : goal.returns
returns c = record { expression = leaves_are_paths; tests = test_leaves_are_paths }
