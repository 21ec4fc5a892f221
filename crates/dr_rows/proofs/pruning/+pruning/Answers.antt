use Rattle.std.proofs.Common.{◌≡◌, ◌≢◌, ◌<◌, ◌≤◌, ◌∙◌, sym, ap, refl, arith, rules, length, map, List}
use Rattle.std.specs.Prelude.{ℕ, Option, option_map, Bool, not, ◌==◌, vec_len}
use Rattle.dr_nested.specs.PathView.{step_view}
use Rattle.dr_meaning.specs.Path.{Step}
use Rattle.dr_meaning.specs.Record.{Instances, put_at}
use Rattle.dr_nested.specs.Views.{instances_view, slot_view, node_view}
use Rattle.dr_nested.proofs.LookingLemmas.{at_past}
use Rattle.dr_nested.proofs.SelectionLemmas.{steps_by_first}
use Rattle.dr_rows.specs.Pruning.{Pruned, kept_if, pruned_along, pruned_field, pruned_instance, some_instances}
use Rattle.dr_rows.proofs.PruningLemmas.{not_empty, left_more, kept_more, kept_all, held_field, some_if, at_slot, put_slot, same_slots, field_kept, absent_kept}
use Rattle.dr_rows.proofs.pruning.+pruning.Goals as goal

pub prune_field-returns-in-Some-clause-kept : goal.prune_field-returns-in-Some-clause-kept
prune_field-returns-in-Some-clause-kept t c =
    let n = c.args.node.now in
    let i = c.args.place in
    let f = pruned_instance (pruned_along (map step_view c.args.chain.now)) in
    let h : i < length n.slots.items = c.in-Some.ensures.item.3.0 in
    let x = c.in-Some.slot.now in
    let y = c.prune_slot.new.slot in
    field_kept c.prune_slot.result _ (slot_view y) (slot_view x) _ (λ (xs : Instances). put_at i xs (node_view n))
    (λ xs e. put_slot n _ i x y xs refl h c.in-Some.ensures.value e) c.prune_slot.ensures.kept
    ∙ ap (λ (zs : Instances). option_map (λ (xs : Instances). put_at i xs (node_view n)) (pruned_field f zs c.args.answers.now.rest.now).kept) (sym (at_slot n i x h c.in-Some.ensures.value))

pub prune_field-returns-in-Some-clause-left : goal.prune_field-returns-in-Some-clause-left
prune_field-returns-in-Some-clause-left t c =
    let n = c.args.node.now in
    let i = c.args.place in
    let f = pruned_instance (pruned_along (map step_view c.args.chain.now)) in
    c.prune_slot.ensures.left
    ∙ ap (λ (zs : Instances). (pruned_field f zs c.args.answers.now.rest.now).left) (sym (at_slot n i c.in-Some.slot.now c.in-Some.ensures.item.3.0 c.in-Some.ensures.value))

pub prune_field-returns-in-None-clause-kept : goal.prune_field-returns-in-None-clause-kept
prune_field-returns-in-None-clause-kept t c =
    let n = c.args.node.now in
    let f = pruned_instance (pruned_along (map step_view c.args.chain.now)) in
    absent_kept f c.args.place (node_view n) _ c.next.result c.args.answers.now.rest.now (at_past n n.slots.items c.args.place refl c.in-None.ensures.item.3) (same_slots n _ refl) c.next.ensures.answer

pub prune_field-returns-in-None-clause-left : goal.prune_field-returns-in-None-clause-left
prune_field-returns-in-None-clause-left t c =
    let n = c.args.node.now in
    let f = pruned_instance (pruned_along (map step_view c.args.chain.now)) in
    c.next.ensures.rest ∙ ap (λ (zs : Instances). (pruned_field f zs c.args.answers.now.rest.now).left) (sym (at_past n n.slots.items c.args.place refl c.in-None.ensures.item.3))

pub prune_node-returns-in-len1-up-clause-kept : goal.prune_node-returns-in-len1-up-clause-kept
prune_node-returns-in-len1-up-clause-kept t c =
    c.prune_field.ensures.kept ∙ ap (λ (p : List Step). (pruned_along p (node_view c.args.node.now) c.args.answers.now.rest.now).kept) (steps_by_first c.args.chain.now _ c.in-len1-up.len_at_least)

pub prune_held-returns-clause-kept : goal.prune_held-returns-clause-kept
prune_held-returns-clause-kept t c =
    let f = pruned_instance (pruned_along (map step_view c.args.chain.now)) in
    let xs = c.args.instances.now in
    let ys = c.prune_instances.new.instances in
    let bs = c.args.answers.now.rest.now in
    let h : length xs.items ≢ 0 = not_empty (length xs.items) (vec_len xs) c.is_empty.result (omega (arith, xs.ok.0)) c.is_empty.ensures c.if-is_empty.false in
    let m : vec_len ys ≡ length ys.items = omega (arith, ys.ok.0) in
    let n : c.is_empty-2.result ≡ (length ys.items == 0) = c.is_empty-2.ensures ∙ ap (λ (k : ℕ). k == 0) m in
    ap (λ (b : Bool). kept_if (not b) (instances_view ys.items)) n
    ∙ some_if ys.items ∙ ap some_instances c.prune_instances.ensures.kept ∙ ap (λ (p : Pruned (Option Instances)). p.kept) (sym (held_field f xs.items bs h))

pub prune_held-returns-clause-left : goal.prune_held-returns-clause-left
prune_held-returns-clause-left t c =
    let f = pruned_instance (pruned_along (map step_view c.args.chain.now)) in
    let xs = c.args.instances.now in
    let bs = c.args.answers.now.rest.now in
    let h : length xs.items ≢ 0 = not_empty (length xs.items) (vec_len xs) c.is_empty.result (omega (arith, xs.ok.0)) c.is_empty.ensures c.if-is_empty.false in
    c.prune_instances.ensures.left ∙ ap (λ (p : Pruned (Option Instances)). p.left) (sym (held_field f xs.items bs h))

pub prune_instances-instances-preserved : goal.prune_instances-instances-preserved
prune_instances-instances-preserved t c =
    let f = pruned_instance (pruned_along (map step_view c.args.chain.now)) in
    let xs = c.instances.instances.items in
    let ys = c.settle-kept.new.instances.items in
    let k = c.instances.number in
    let x = c.index_mut.result.now in
    let y = c.prune_instance-passes.new.instance in
    let bs = c.instances.answers.rest.now in
    let cs = c.prune_instance-passes.new.answers.rest.now in
    let h : k < length xs = omega (arith, c.instances.invariant.length) in
    record {
      before = c.settle-kept.ensures.within;
      length = search rules;
      kept = kept_more f xs ys c.instances.kept c.settle-kept.result k c.prune_instance-passes.result x y bs cs h c.index_mut.ensures.value c.instances.invariant.before c.settle-kept.ensures.front c.settle-kept.ensures.rest
          c.prune_instance-passes.ensures.kept c.prune_instance-passes.ensures.left ∙ c.instances.invariant.kept;
      left = left_more f xs ys k x y bs cs h c.index_mut.ensures.value c.settle-kept.ensures.rest c.prune_instance-passes.ensures.left ∙ c.instances.invariant.left;
    }

pub prune_instances-returns-clause-kept : goal.prune_instances-returns-clause-kept
prune_instances-returns-clause-kept t c =
    let f = pruned_instance (pruned_along (map step_view c.args.chain.now)) in
    let xs = c.instances.instances.items in
    let h : length xs ≤ c.instances.number = omega (arith, c.instances.invariant.length) in
    ap instances_view c.truncate.ensures.items ∙ kept_all f xs c.instances.kept c.instances.number c.instances.answers.rest.now h ∙ c.instances.invariant.kept
