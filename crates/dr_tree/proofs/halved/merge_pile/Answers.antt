use Rattle.std.proofs.Common.{subst}
use Rattle.dr_tree.specs.Piles.{IsPile}
use Rattle.dr_tree.proofs.halved.merge_pile.Goals as goal

pub returns-in_ok-merge_all-in-Some : goal.returns-in_ok-merge_all-in-Some
returns-in_ok-merge_all-in-Some g c =
    λ plan fs most all h. c.in_ok-merge_all-in-Some.ensures plan fs most all (subst (IsPile plan fs most all) c.in-Some.ensures.items h)
