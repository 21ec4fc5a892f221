use Rattle.std.proofs.Common.{arith, map}
use Rattle.std.proofs.lemmas.List.{length-map}
use Rattle.dr_group.specs.Groups.{group_view}
use Rattle.dr_group.proofs.DistinctLemmas.{order_length}
use Rattle.dr_group.proofs.group_map.GroupMap.len.Goals as goal

pub returns : goal.returns
returns c =
    let s = c.args.self.now in
    omega (arith, c.len.ensures, s.groups.ok.0, order_length (map group_view s.groups.items) s.distinct, length-map s.groups.items group_view)
