use Rattle.std.proofs.Common.{ap, map, subst, List, Option, IfSome, IfOk}
use Rattle.dr_partials.specs.Partials.{Group}
use Rattle.dr_group.specs.Distinct.{IsFound, tuples_of}
use Rattle.dr_group.specs.Groups.{group_view}
use Rattle.dr_group.specs.Keys.{AreNumbered}
use Rattle.dr_group.specs.Views.{lent_cell}
use Rattle.dr_group.specs.declared.ordered_index.OrderedIndex.{OrderedIndex}
use Rattle.dr_group.proofs.group_map.GroupMap.seek.Goals as goal

pub returns-in-Some-clause-found : goal.returns-in-Some-clause-found
returns-in-Some-clause-found c =
    let ready = c.prepare.new.self in
    let gs : List Group = map group_view ready.groups.items in
    let numbered : AreNumbered c.in-Some.ordered.numbers (tuples_of gs) = subst (λ (o : Option OrderedIndex). IfSome o (λ x. AreNumbered x.numbers (tuples_of gs))) c.in-Some.is ready.numbered in
    subst (λ (hs : List Group). IfOk c.find.result (IsFound (map lent_cell c.args.key.now) hs)) (ap (λ v. map group_view v.items) c.in_ok-prepare.ensures.groups) (c.find.ensures gs numbered)
