use Rattle.dr_meta.specs.Views.{item_view}
use Rattle.dr_meta.proofs.OneTreeLemmas.{leaf_entered, group_entered}
use Rattle.dr_meta.proofs.one_tree.enter.Goals as goal
use Rattle.std.proofs.Common.{sym}

pub returns-then-is_some-clause-step : goal.returns-then-is_some-clause-step
returns-then-is_some-clause-step c = leaf_entered (item_view c.args.item.now) c.args.groups.now.items c.pop.new.self.items c.open_group.new.groups.items c.in-Some.left c.in-Some.ensures.items (c.is_repetition.ensures.some c.if-not-is_repetition.false) c.if-is_some.ensures c.in_ok-open_group.ensures

pub returns-in_ok-open_group-in-Some-group_size-clause-step : goal.returns-in_ok-open_group-in-Some-group_size-clause-step
returns-in_ok-open_group-in-Some-group_size-clause-step c = group_entered (item_view c.args.item.now) c.args.groups.now.items c.pop.new.self.items c.open_group.new.groups.items c.open_group-in-Some-group_size.new.groups.items c.in-Some.left c.in-Some-group_size.fields c.in-Some.ensures.items (c.is_repetition.ensures.some c.if-not-is_repetition.false) (sym c.in-Some-group_size.ensures) c.in_ok-open_group.ensures c.in_ok-open_group-in-Some-group_size.ensures
