use Rattle.std.proofs.Common.{◌∙◌, ap, sym, refl, subst, map, take, length, slice_set, List, IfOk, ◌≡◌}
use Rattle.dr_group.specs.Groups.{group_view, accumulators_view}
use Rattle.dr_group.specs.ManyTaken.{many_view, take_each_at}
use Rattle.dr_group.specs.declared.gathering.Gathering.{Gathering}
use Rattle.dr_group.specs.declared.group.Group.{Group}
use Rattle.dr_group.proofs.HeldLemmas.{held_distinct, held_hashes}
use Rattle.dr_group.proofs.ManyLemmas.{held_each}
use Rattle.dr_group.proofs.OrderedLemmas.{held_tuples, numbered_same}
use Rattle.dr_group.proofs.group_map.GroupMap.take_many_at.Goals as goal

pub invariant_of-self : goal.invariant_of-self
invariant_of-self c =
    let s = c.args.self.now in
    let g = c.index_mut-group.result.now in
    let h : Group = record { keys = g.keys; accumulators = c.take_many_into.new.accumulators } in
    record {
      distinct = held_distinct s.groups.items c.args.number g h c.requires c.index_mut-group.ensures.value refl s.distinct;
      indexed = s.indexed ∙ ap (take (length s.index.links.items)) (sym (held_hashes s.groups.items c.args.number g h c.index_mut-group.ensures.value refl));
      numbered = numbered_same s.ordered (map group_view s.groups.items) (map group_view (slice_set s.groups.items c.args.number h)) (held_tuples s.groups.items c.args.number g h c.index_mut-group.ensures.value refl) s.numbered;
    }

pub returns-clause-groups : goal.returns-clause-groups
returns-clause-groups c =
    let s = c.args.self.now in
    let g = c.index_mut-group.result.now in
    let h : Group = record { keys = g.keys; accumulators = c.take_many_into.new.accumulators } in
    held_each c.take_many_into.result s.gatherings.items c.args.aggregate (many_view c.args.many) s.groups.items c.args.number g h c.requires c.index_mut-group.ensures.value refl
    (subst (λ (ks : List Gathering). IfOk c.take_many_into.result (λ done. accumulators_view h.accumulators.items ≡ take_each_at ks c.args.aggregate (many_view c.args.many) (accumulators_view g.accumulators.items)))
    c.deref.ensures.value c.take_many_into.ensures)

pub returns-clause-tuples : goal.returns-clause-tuples
returns-clause-tuples c =
    let s = c.args.self.now in
    let g = c.index_mut-group.result.now in
    let h : Group = record { keys = g.keys; accumulators = c.take_many_into.new.accumulators } in
    held_tuples s.groups.items c.args.number g h c.index_mut-group.ensures.value refl
