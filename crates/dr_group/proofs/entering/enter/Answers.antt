use Rattle.std.proofs.Common.{map, subst, Option, IfSome}
use Rattle.dr_group.specs.declared.ordered_index.OrderedIndex.{OrderedIndex}
use Rattle.dr_group.specs.Groups.{group_view}
use Rattle.dr_group.specs.Distinct.{tuples_of}
use Rattle.dr_group.specs.Keys.{AreNumbered}
use Rattle.dr_group.proofs.OrderedLemmas.{kept_for}
use Rattle.dr_group.proofs.entering.enter.Goals as goal

pub returns-in-Some-clause-kept : goal.returns-in-Some-clause-kept
returns-in-Some-clause-kept c =
    kept_for c.push.result (AreNumbered c.in-Some.ordered.numbers) (AreNumbered c.push.new.self.numbers) (tuples_of (map group_view c.args.groups.now)) (subst (λ (o : Option OrderedIndex). IfSome o (λ x. AreNumbered x.numbers (tuples_of (map group_view c.args.groups.now)))) c.in-Some.is c.requires.numbered) c.push.ensures.kept
