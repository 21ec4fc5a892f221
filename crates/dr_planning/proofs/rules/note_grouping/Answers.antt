use Rattle.std.proofs.Common.{arith}
use Rattle.std.specs.List.{flat_map}
use Rattle.dr_meaning.specs.Binding as binding
use Rattle.dr_resolve.specs.Faults.{earlier, first_view}
use Rattle.dr_planning.proofs.RuleLemmas.{noted_item, noted_items}
use Rattle.dr_planning.proofs.rules.note_grouping.Goals as goal

pub returns : goal.returns
returns c = λ fs ls ks bs h k.
    noted_items fs ls (binding.grouping_faults ks) bs c.args.items.now c.items.item-index (first_view c.items.first) (earlier (first_view c.args.first.now) (binding.first_fault (flat_map (binding.grouping_faults ks) bs)))
    h (omega arith) (c.items.invariant fs ls ks bs h k)

pub items-preserved : goal.items-preserved
items-preserved c = λ fs ls ks bs h k.
    noted_item fs ls (binding.grouping_faults ks) bs c.args.items.now c.items.item-index c.item-item.result (first_view c.items.first) (first_view c.note_grouping_item.new.first) (earlier (first_view c.args.first.now) (binding.first_fault (flat_map (binding.grouping_faults ks) bs)))
    h (omega arith) c.item-item.is (λ b ib. c.note_grouping_item.ensures fs ls ks b ib k) (c.items.invariant fs ls ks bs h k)
