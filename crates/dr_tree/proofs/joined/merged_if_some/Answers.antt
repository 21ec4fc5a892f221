use Rattle.std.specs.Prelude.{Option, option_to_list, ◌++◌}
use Rattle.std.proofs.Common.{ap₂, subst}
use Rattle.dr_group.specs.declared.group_map.GroupMap.{GroupMap}
use Rattle.dr_tree.specs.Piles.{IsPile}
use Rattle.dr_tree.proofs.joined.merged_if_some.Goals as goal

pub returns : goal.returns
returns c = λ plan fs most all h.
    c.in_ok-merged.ensures plan fs most all
    (subst (IsPile plan fs most all) (ap₂ (λ (o p : Option GroupMap). option_to_list o ++ option_to_list p) c.in-Some.is c.in-Some-theirs.is) h)
