use Rattle.std.proofs.Common.{map, subst, List}
use Rattle.dr_group.specs.Groups.{group_view}
use Rattle.dr_group.specs.Distinct.{tuples_of}
use Rattle.dr_group.specs.Keys.{AreNumbered}
use Rattle.dr_group.specs.declared.group.Group.{Group}
use Rattle.dr_group.proofs.group_map.GroupMap.arrange.Goals as goal

pub invariant_of-self-in-None : goal.invariant_of-self-in-None
invariant_of-self-in-None c =
    let s = c.args.self.now in
    record {
      distinct = s.distinct;
      indexed = s.indexed;
      numbered = subst (λ (gs : List Group). AreNumbered c.in_ok-of-in-None.field-0.numbers (tuples_of (map group_view gs))) c.deref-in-None.ensures.value c.in_ok-of-in-None.ensures;
    }
