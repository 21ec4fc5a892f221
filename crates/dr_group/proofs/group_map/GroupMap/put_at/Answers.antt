use Rattle.std.proofs.Common.{map, option_map}
use Rattle.dr_group.specs.Groups.{group_view, put_view, taken_view}
use Rattle.dr_group.proofs.HeldLemmas.{ordered_put}
use Rattle.dr_group.proofs.NumberLemmas.{tuples_stay}
use Rattle.dr_group.proofs.group_map.GroupMap.put_at.Goals as goal

pub returns-clause-groups : goal.returns-clause-groups
returns-clause-groups c =
    let s = c.args.self.now in
    ordered_put c.take_at.result s.gatherings.items (put_view c.args.key.now c.args.taken) (map group_view s.groups.items) (map group_view c.take_at.new.self.groups.items) c.args.number s.distinct c.requires.0 c.requires.1
    c.take_at.ensures.groups

pub returns-clause-tuples : goal.returns-clause-tuples
returns-clause-tuples c =
    let s = c.args.self.now in
    tuples_stay c.take_at.result s.gatherings.items c.args.number (option_map taken_view c.args.taken) (map group_view s.groups.items) (map group_view c.take_at.new.self.groups.items) c.take_at.ensures.groups
