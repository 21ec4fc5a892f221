use Rattle.std.proofs.Common.{◌≡◌, map, take, drop, suc}
use Rattle.dr_striper.specs.Shapes.{size_one, size_each}
use Rattle.dr_striper.specs.Ended.{ended_each}
use Rattle.dr_striper.specs.Views.{nulls, twig_view, twigs_view, shape_view, shapes_view}
use Rattle.dr_striper.proofs.PassingLemmas.{onto_twigs}
use Rattle.dr_striper.proofs.ending.+ending.Given as goal

abbrev pub decreases-end : goal.decreases-end
decreases-end l = size_each (shapes_view l.branches.now)

abbrev pub decreases-end_one : goal.decreases-end_one
decreases-end_one l = size_one (shape_view l.branch.now)

abbrev pub decreases-end_inner : goal.decreases-end_inner
decreases-end_inner l = suc (size_each (shapes_view l.inner.now))

-- the branches from this one on are still to end
abbrev pub invariant-end-branches : goal.invariant-end-branches
invariant-end-branches l =
    (onto_twigs (map twig_view (take l.number l.branches)) (ended_each (nulls l.above) (twigs_view (drop l.number l.branches))) ≡ ended_each (nulls l.above) (twigs_view l.initial.branches))
    × (drop l.number l.branches ≡ drop l.number l.initial.branches)
    × (shapes_view l.branches ≡ shapes_view l.initial.branches)
