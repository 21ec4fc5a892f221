use Rattle.std.proofs.Common.{map, None}
use Rattle.dr_group.specs.Views.{lent_cell}
use Rattle.dr_group.specs.Groups.{group_view, put_of}
use Rattle.dr_group.specs.Maps.{groups_view}
use Rattle.dr_group.proofs.NumberLemmas.{found_numbered, items_put, nothing_put}
use Rattle.dr_group.proofs.group_map.GroupMap.group_of.Goals as goal

pub returns-then-is_at-clause-groups : goal.returns-then-is_at-clause-groups
returns-then-is_at-clause-groups c = λ items e.
    let s = c.args.self.now in
    items_put items s.gatherings.items (put_of (map lent_cell c.args.key.now) None) (groups_view s) (groups_view s) e
    (nothing_put s.gatherings.items (map group_view s.groups.items) c.find-hinted.result (map lent_cell c.args.key.now) s.distinct (c.is_at.ensures c.if-is_at.true))

pub returns-then-is_at-clause-found : goal.returns-then-is_at-clause-found
returns-then-is_at-clause-found c =
    found_numbered (map group_view c.args.self.now.groups.items) c.find-hinted.result (map lent_cell c.args.key.now) (c.is_at.ensures c.if-is_at.true)

pub returns-clause-groups : goal.returns-clause-groups
returns-clause-groups c = λ items e.
    let s = c.args.self.now in
    items_put items s.gatherings.items (put_of (map lent_cell c.args.key.now) None) (groups_view s) (groups_view c.find_or_make.new.self) e c.in_ok-number.ensures.groups
