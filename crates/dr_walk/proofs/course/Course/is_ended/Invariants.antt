use Rattle.std.proofs.Common.{◌≡◌, ◌<◌, ℕ, get_or, None}
use Rattle.dr_walk.proofs.course.Course.is_ended.Given as goal

-- the leaves so far have none
abbrev pub invariant-heads : goal.invariant-heads
invariant-heads l = (k : ℕ) → k < l.head-index → get_or l.self.heads.items k None ≡ None
