use Rattle.std.proofs.Common.{◌+◌, ◌-◌, ◌∙◌, sym, arith}
use Rattle.dr_open.proofs.PassingLemmas.{leaf_at_place, group_at_place, fields_within}
use Rattle.dr_open.proofs.skipping.skip_fields.Goals as goal
use Rattle.dr_open.proofs.skipping.skip_fields.Goals.{in-Some, in-None}

pub overflow_add-left : goal.overflow_add-left
overflow_add-left c =
    let h = group_at_place c.args.items.now c.items.elements c.items.left c.items.leaves c.in-Some.inner _ (omega arith) (omega arith) c.items.invariant.are_fields (sym c.in-Some.is ∙ c.group_size.ensures) in
    omega (arith, fields_within c.args.items.now (c.items.elements + 1) (c.items.left - 1 + c.in-Some.inner) h.0)

pub items-preserved : goal.items-preserved
items-preserved c =
    elim c.match-group_size.branch [
      | in-Some w ↦
          let h = group_at_place c.args.items.now c.items.elements c.items.left c.items.leaves w.in-Some.inner _ (omega arith) (omega arith) c.items.invariant.are_fields (sym w.in-Some.is ∙ c.group_size.ensures) in
          record { leaves = omega arith; are_fields = rw w.left-is h.0; same = rw (w.left-is, w.leaves-is) (h.1 ∙ c.items.invariant.same) }
      | in-None w ↦
          let h = leaf_at_place c.args.items.now c.items.elements c.items.left c.items.leaves _ (omega arith) (omega arith) c.items.invariant.are_fields (sym w.in-None.is ∙ c.group_size.ensures) in
          record { leaves = omega arith; are_fields = rw w.left-is h.0; same = rw (w.left-is, w.leaves-is) (h.1 ∙ c.items.invariant.same) }
    ]
