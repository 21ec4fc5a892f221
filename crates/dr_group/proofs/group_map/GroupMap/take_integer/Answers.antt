use Rattle.std.proofs.Common.{map, option_map, Some, arith}
use Rattle.dr_meaning.specs.Record.{int_value}
use Rattle.dr_group.specs.Groups.{group_view, put_of}
use Rattle.dr_group.specs.Maps.{groups_view}
use Rattle.dr_group.proofs.HeldLemmas.{ordered_put, put_items}
use Rattle.dr_group.proofs.ManyLemmas.{as_many}
use Rattle.dr_group.proofs.NumberLemmas.{numbered_found, tuples_stay}
use Rattle.dr_group.proofs.group_map.GroupMap.take_integer.Goals as goal

pub take_integer_at-requires : goal.take_integer_at-requires
take_integer_at-requires c = omega (arith, as_many c.args.self.now.groups.items, c.requires)

pub returns-clause-groups : goal.returns-clause-groups
returns-clause-groups c = λ items tuple e found.
    let s = c.args.self.now in
    let p = put_of tuple (Some (record { aggregate = c.args.aggregate; value = option_map int_value c.args.integer })) in
    let h = numbered_found (map group_view s.groups.items) c.args.number tuple found in
    put_items c.take_integer_at.result items s.gatherings.items p (groups_view s) (groups_view c.take_integer_at.new.self) e
    (ordered_put c.take_integer_at.result s.gatherings.items p (map group_view s.groups.items) (map group_view c.take_integer_at.new.self.groups.items) c.args.number s.distinct h.0 h.1 c.take_integer_at.ensures.groups)

pub returns-clause-tuples : goal.returns-clause-tuples
returns-clause-tuples c =
    let s = c.args.self.now in
    tuples_stay c.take_integer_at.result s.gatherings.items c.args.number (Some (record { aggregate = c.args.aggregate; value = option_map int_value c.args.integer })) (map group_view s.groups.items) (map group_view c.take_integer_at.new.self.groups.items) c.take_integer_at.ensures.groups
