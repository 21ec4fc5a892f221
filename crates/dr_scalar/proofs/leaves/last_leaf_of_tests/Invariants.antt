use Rattle.std.proofs.Common.{◌≡◌, take}
use Rattle.dr_scalar.specs.Leaves.{tests_leaves, greatest}
use Rattle.dr_scalar.proofs.leaves.last_leaf_of_tests.Given as goal

-- the last of those in the tests so far
abbrev pub invariant-tests : goal.invariant-tests
invariant-tests l = l.last ≡ greatest (tests_leaves (take l.test-index l.tests))
