use Rattle.std.proofs.Common.{◌≡◌, ◌+◌, ◌^◌, ◌≤◌, map, drop}
use Rattle.dr_dispatch.specs.Job.{pairs, pairs_of}
use Rattle.dr_board.proofs.job.count_pairs.Given as goal

abbrev pub invariant-tablets : goal.invariant-tablets
invariant-tablets l = (pairs l.job ≡ l.count + pairs_of (map (λ v. v.items) (drop l.leaves-index l.leaves-items))) × (l.count ≤ 2 ^ 60)
