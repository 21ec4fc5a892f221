use Rattle.std.proofs.Common.{arith, sym, ap, ◌∙◌, ◌≢◌, length}
use Rattle.std.proofs.lemmas.Grind.{common_steps}
use Rattle.dr_meaning.specs.Record.{all_instances, fits_repetition, is_instance, is_record}
use Rattle.dr_nested.specs.Views.{rep_view, shape_view, fields_view, instances_view}
use Rattle.dr_nested.proofs.ViewLemmas.{view-node}
use Rattle.dr_nested.proofs.FittingLemmas.{held_fits, when_true, when_false, lengths_differ}
use Rattle.dr_nested.proofs.fitting.+fitting.Goals as goal

pub is_group-returns-then-len : goal.is_group-returns-then-len
is_group-returns-then-len t c =
    let h : length c.args.node.now.slots.items ≢ length c.args.fields.now.items = λ e. omega (arith, c.args.node.now.slots.ok.0, c.args.fields.now.ok.0, e) in
    sym (ap (is_record (fields_view c.args.fields.now.items)) (view-node c.args.node.now) ∙ lengths_differ c.args.fields.now.items c.args.node.now.slots.items h)

pub is_group-returns-then-not-is_slot : goal.is_group-returns-then-not-is_slot
is_group-returns-then-not-is_slot t c = rw (view-node c.args.node.now) (grind (arith, common_steps))

pub is_group-returns : goal.is_group-returns
is_group-returns t c = rw (view-node c.args.node.now) (grind (arith, common_steps))

pub is_slot-returns-then-fits_repetition : goal.is_slot-returns-then-fits_repetition
is_slot-returns-then-fits_repetition t c =
    let f = c.args.field.now in
    let xs = c.in-Held.instances in
    sym (held_fits f xs c.args.slot.now c.len.result c.in-Held.is (omega (arith, xs.ok.0, c.len.ensures))
    ∙ when_true (fits_repetition (rep_view f.rep) c.len.result) (all_instances (is_instance (shape_view f.shape)) (instances_view xs.items)) (sym c.fits_repetition.ensures ∙ c.if-fits_repetition.true)
    ∙ sym c.are_instances.ensures)

pub is_slot-returns-else-fits_repetition : goal.is_slot-returns-else-fits_repetition
is_slot-returns-else-fits_repetition t c =
    let f = c.args.field.now in
    let xs = c.in-Held.instances in
    c.if-fits_repetition.false
    ∙ sym (held_fits f xs c.args.slot.now c.len.result c.in-Held.is (omega (arith, xs.ok.0, c.len.ensures))
    ∙ when_false (fits_repetition (rep_view f.rep) c.len.result) (all_instances (is_instance (shape_view f.shape)) (instances_view xs.items)) (sym c.fits_repetition.ensures ∙ c.if-fits_repetition.false))
