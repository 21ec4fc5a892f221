use Rattle.std.proofs.Common.{length, ◌+◌}
use Rattle.dr_striper.proofs.planting.+planting.Given as goal

abbrev pub decreases-put_path : goal.decreases-put_path
decreases-put_path l = length l.steps.now + length l.steps.now + length l.steps.now

abbrev pub decreases-put_one : goal.decreases-put_one
decreases-put_one l = length l.rest.now + length l.rest.now + length l.rest.now + 2

abbrev pub decreases-fresh_branch : goal.decreases-fresh_branch
decreases-fresh_branch l = length l.rest.now + length l.rest.now + length l.rest.now + 1
