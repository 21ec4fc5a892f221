use Rattle.std.proofs.Common.{◌≤◌, ◌+◌, List, length, sym, ap, subst, ◌∙◌}
use Rattle.std.proofs.lemmas.Bool.{ne_eqb}
use Rattle.dr_plan.specs.Views.{fold_view}
use Rattle.dr_group.specs.Views.{accumulator_view}
use Rattle.dr_group.specs.declared.accumulator.Accumulator.{Accumulator}
use Rattle.dr_within.specs.declared.within_values.ItemValues.{ItemValues}
use Rattle.dr_within.proofs.WithinLemmas.{next_entry, GathersFront, gathers_start, gathers_end, gathers_more, gathers_same}
use Rattle.dr_within.proofs.within_values.WithinValues.gathered.Goals as goal
use Rattle.dr_within.proofs.within_values.WithinValues.gathered.Goals.{then-entry-item+in_ok-join_into, else-entry-item}

pub entries-init : goal.entries-init
entries-init c = λ items g t. gathers_start items c.args.item (fold_view c.args.fold) c.args.self.now.entries.items (accumulator_view c.new-total.result) c.new-total.ensures t g

pub entries-preserved : goal.entries-preserved
entries-preserved c = λ items g t.
    let es = c.args.self.now.entries.items in
    let k = c.entries.entry-index in
    let e = c.entry-item.result in
    let j = c.args.item in
    let a = fold_view c.args.fold in
    let d = next_entry es c.deref-entry-items.result.now k e c.deref-entry-items.ensures.value c.entries-test.true c.entry-item.is in
    let before = c.entries.invariant items g t in
    elim c.if-entry-item.branch [
      | then-entry-item+in_ok-join_into w ↦ gathers_more items j a es k (k + 1) e (accumulator_view c.entries.total) (accumulator_view c.if-entry-item.total) d t g w.if-entry-item.true
          (λ same. ap accumulator_view w.total-is ∙ w.in_ok-join_into.ensures same) before
      | else-entry-item w ↦ gathers_same items j a es k (k + 1) e (accumulator_view c.if-entry-item.total) d (ne_eqb e.item j w.if-entry-item.false)
          (subst (λ (x : Accumulator). GathersFront items j a es k (accumulator_view x)) (sym w.total-is) before)
    ]

pub returns : goal.returns
returns c = λ items g t.
    let es = c.args.self.now.entries.items in
    let k = c.entries.entry-index in
    let past : length es ≤ k = subst (λ (xs : List ItemValues). length xs ≤ k) c.deref-entry-items.ensures.value c.entries-test.false in
    gathers_end items c.args.item (fold_view c.args.fold) es k (accumulator_view c.entries.total) past (c.entries.invariant items g t)
