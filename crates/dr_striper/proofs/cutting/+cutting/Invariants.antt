use Rattle.std.proofs.Common.{◌≡◌, map, take, drop}
use Rattle.dr_striper.specs.Views.{twig_view, twigs_view, shapes_view}
use Rattle.dr_striper.specs.Back.{backs}
use Rattle.dr_striper.proofs.CuttingLemmas.{onto, size_one, size_each}
use Rattle.dr_striper.proofs.cutting.+cutting.Given as goal

abbrev pub decreases-take_back : goal.decreases-take_back
decreases-take_back l = size_each (twigs_view l.branches.now)

abbrev pub decreases-take_back_one : goal.decreases-take_back_one
decreases-take_back_one l = size_one (twig_view l.branch.now)

-- the branches from this one on are still to be taken back
abbrev pub invariant-take_back-branches : goal.invariant-take_back-branches
invariant-take_back-branches l =
    (onto (map twig_view (take l.number l.branches)) (backs l.kept (drop l.number l.branches)) ≡ backs l.kept l.initial.branches)
    × (drop l.number l.branches ≡ drop l.number l.initial.branches)
    × (shapes_view l.branches ≡ shapes_view l.initial.branches)
