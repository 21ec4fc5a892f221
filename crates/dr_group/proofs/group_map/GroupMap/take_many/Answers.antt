use Rattle.std.proofs.Common.{map, arith}
use Rattle.dr_group.specs.Groups.{group_view}
use Rattle.dr_group.specs.ManyTaken.{many_view}
use Rattle.dr_group.proofs.ManyLemmas.{many_put, as_many}
use Rattle.dr_group.proofs.group_map.GroupMap.take_many.Goals as goal

pub take_many_at-requires : goal.take_many_at-requires
take_many_at-requires c = omega (arith, as_many c.args.self.now.groups.items, c.requires)

pub returns-clause-groups : goal.returns-clause-groups
returns-clause-groups c =
    let s = c.args.self.now in
    many_put c.take_many_at.result s.gatherings.items c.args.number c.args.aggregate (many_view c.args.many) (map group_view s.groups.items) (map group_view c.take_many_at.new.self.groups.items) s.distinct c.take_many_at.ensures.groups
