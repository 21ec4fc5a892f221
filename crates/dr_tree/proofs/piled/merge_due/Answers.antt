use Rattle.dr_tree.proofs.PileLemmas.{still_merges}
use Rattle.dr_tree.proofs.piled.merge_due.Goals as goal

pub returns-then-not-merge_last : goal.returns-then-not-merge_last
returns-then-not-merge_last c = λ plan fs most all h. c.merge_last.ensures plan fs most all (c.merges.invariant.1 plan fs most all h)

pub merges-preserved : goal.merges-preserved
merges-preserved c = (
  still_merges c.merge_last.ensures c.merges.invariant.0,
  λ plan fs most all h. c.merge_last.ensures plan fs most all (c.merges.invariant.1 plan fs most all h),
)
