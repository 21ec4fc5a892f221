use Rattle.std.proofs.Common.{◌∙◌, ap, sym, refl, subst, map, take, length, option_map, slice_set, List, Some}
use Rattle.dr_meaning.specs.Record.{int_value}
use Rattle.dr_group.specs.Gathering.{Becomes, take_at_by}
use Rattle.dr_group.specs.Groups.{group_view, accumulators_view}
use Rattle.dr_group.specs.declared.gathering.Gathering.{Gathering}
use Rattle.dr_group.specs.declared.group.Group.{Group}
use Rattle.dr_group.proofs.HeldLemmas.{held_taken, held_distinct, held_hashes}
use Rattle.dr_group.proofs.OrderedLemmas.{held_tuples, numbered_same}
use Rattle.dr_group.proofs.group_map.GroupMap.take_integer_at.Goals as goal

pub invariant_of-self : goal.invariant_of-self
invariant_of-self c =
    let s = c.args.self.now in
    let g = c.index_mut-group.result.now in
    let h : Group = record { keys = g.keys; accumulators = c.take_integer_into.new.accumulators } in
    record {
      distinct = held_distinct s.groups.items c.args.number g h c.requires c.index_mut-group.ensures.value refl s.distinct;
      indexed = s.indexed ∙ ap (take (length s.index.links.items)) (sym (held_hashes s.groups.items c.args.number g h c.index_mut-group.ensures.value refl));
      numbered = numbered_same s.ordered (map group_view s.groups.items) (map group_view (slice_set s.groups.items c.args.number h)) (held_tuples s.groups.items c.args.number g h c.index_mut-group.ensures.value refl) s.numbered;
    }

pub returns-clause-groups : goal.returns-clause-groups
returns-clause-groups c =
    let s = c.args.self.now in
    let g = c.index_mut-group.result.now in
    let h : Group = record { keys = g.keys; accumulators = c.take_integer_into.new.accumulators } in
    let v = option_map int_value c.args.integer in
    held_taken c.take_integer_into.result s.gatherings.items (Some (record { aggregate = c.args.aggregate; value = v })) s.groups.items c.args.number g h c.requires c.index_mut-group.ensures.value refl
    (subst (λ (ks : List Gathering). Becomes (accumulators_view g.accumulators.items) (accumulators_view h.accumulators.items) (take_at_by ks c.args.aggregate v (accumulators_view g.accumulators.items)) c.take_integer_into.result)
    c.deref.ensures.value c.take_integer_into.ensures)
