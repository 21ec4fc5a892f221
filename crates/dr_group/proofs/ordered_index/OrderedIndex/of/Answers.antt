use Rattle.std.proofs.Common.{rules, ◌≡◌, ◌∙◌, ap, sym, subst, map, take, length, List, Option, Some, ℕ}
use Rattle.std.specs.BTreeMap.{Updates}
use Rattle.dr_group.specs.Groups.{group_view}
use Rattle.dr_group.specs.Keys.{AreNumbered, key_order}
use Rattle.dr_group.specs.Distinct.{tuples_of}
use Rattle.dr_group.specs.Views.{cell_view}
use Rattle.dr_nested.specs.declared.record.Value.{Value as Held}
use Rattle.dr_group.proofs.OrderedLemmas.{numbered_more, groups_more, groups_before}
use Rattle.dr_group.proofs.ordered_index.OrderedIndex.of.Goals as goal

pub groups-preserved : goal.groups-preserved
groups-preserved c =
    let m = c.groups.numbers in
    let n = c.insert.new.self in
    let gs = c.args.groups.now in
    let at = c.groups.number in
    let before = tuples_of (map group_view (take at gs)) in
    let number : c.in-Ok.number ≡ at = search rules in
    let count : length before ≡ at = groups_before gs at c.groups-test.true in
    subst (AreNumbered n) (sym (groups_more gs at c.index-groups-number.result c.in_ok-copied.field-0 c.groups-test.true c.index-groups-number.is (c.in_ok-copied.ensures ∙ ap (λ (ks : List (Option Held)). map cell_view ks) c.deref.ensures)))
    (numbered_more m n before c.in_ok-copied.field-0 c.groups.invariant (subst (λ (i : ℕ). Updates key_order m n c.in_ok-copied.field-0 (Some i)) (number ∙ sym count) c.in_ok-insert.ensures.updates))
