use Rattle.std.proofs.Common.{arith}
use Rattle.std.specs.List.{flat_map}
use Rattle.dr_meaning.specs.Binding as binding
use Rattle.dr_resolve.specs.Faults.{earlier, first_view}
use Rattle.dr_planning.proofs.RuleLemmas.{noted_item, noted_items}
use Rattle.dr_planning.proofs.rules.note_within.Goals as goal

pub returns : goal.returns
returns c = λ fs ls bs h.
    let rule = λ (i : binding.BoundItem). binding.within_faults i.term in
    noted_items fs ls rule bs c.args.items.now c.items.item-index (first_view c.items.first) (earlier (first_view c.args.first.now) (binding.first_fault (flat_map rule bs)))
    h (omega arith) (c.items.invariant fs ls bs h)

pub items-preserved : goal.items-preserved
items-preserved c = λ fs ls bs h.
    let rule = λ (i : binding.BoundItem). binding.within_faults i.term in
    noted_item fs ls rule bs c.args.items.now c.items.item-index c.item-item.result (first_view c.items.first) (first_view c.note_within_term.new.first) (earlier (first_view c.args.first.now) (binding.first_fault (flat_map rule bs)))
    h (omega arith) c.item-item.is (λ b ib. c.note_within_term.ensures fs ls b.term ib.term) (c.items.invariant fs ls bs h)
