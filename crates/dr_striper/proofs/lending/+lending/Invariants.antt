use Rattle.std.proofs.Common.{length, ◌+◌}
use Rattle.dr_striper.proofs.lending.+lending.Given as goal

abbrev pub decreases-lend_path : goal.decreases-lend_path
decreases-lend_path l = length l.steps.now + length l.steps.now + length l.steps.now

abbrev pub decreases-lend_one : goal.decreases-lend_one
decreases-lend_one l = length l.rest.now + length l.rest.now + length l.rest.now + 2

abbrev pub decreases-lend_inner : goal.decreases-lend_inner
decreases-lend_inner l = length l.rest.now + length l.rest.now + length l.rest.now + 1
