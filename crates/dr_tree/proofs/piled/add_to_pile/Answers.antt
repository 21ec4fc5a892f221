use Rattle.std.proofs.Common.{sym, subst}
use Rattle.dr_tree.specs.Piles.{IsPile}
use Rattle.dr_tree.proofs.piled.add_to_pile.Goals as goal

pub returns-clause-added : goal.returns-clause-added
returns-clause-added c = λ plan fs most all h. c.merge_due.ensures plan fs most all (subst (IsPile plan fs most all) (sym c.in_ok-push.ensures.items) h)
