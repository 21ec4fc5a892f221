use Rattle.std.proofs.Common.{length}
use Rattle.dr_rewrite.proofs.nested.+leaf_query_through.Given as goal

-- how many queries are below the last
abbrev pub decreases-leaf_query_through : goal.decreases-leaf_query_through
decreases-leaf_query_through l = length l.inner.now
