use Rattle.std.proofs.Common.{◌∙◌, ap, ap₂, arith, map, take, drop, List, length, ◌-◌}
use Rattle.dr_nested.specs.PathView.{path_view}
use Rattle.dr_plan.specs.Views.{record_item_view}
use Rattle.dr_cells.specs.PlanShapes.{plan_lists_view}
use Rattle.dr_sub.specs.ResultNames.{names_view, have_fault}
use Rattle.dr_sub.specs.declared.names.ResultName.{ResultName}
use Rattle.dr_sub.proofs.NameLemmas.{fault_found, fault_passed, rest_is}
use Rattle.dr_sub.proofs.names.first_fault.Goals as goal

pub returns-then-have_fault : goal.returns-then-have_fault
returns-then-have_fault c =
    fault_found (record_item_view (map path_view c.args.leaves.now)) (plan_lists_view c.args.lists.now.items) c.args.items.now c.items.number c.len-start.result c.index-items-number.result c.items.names.items c.push_names.new.names.items c.have_fault.result
    c.items-test.true c.index-items-number.is (omega (arith, c.len-start.ensures, c.items.names.ok.0)) c.in_ok-push_names.ensures
    (c.have_fault.ensures
    ∙ ap₂ (λ (xs ys : List ResultName). have_fault (names_view (take c.len-start.result xs)) (names_view (take (length ys - c.len-start.result) (drop c.len-start.result ys)))) c.deref.ensures.value c.deref-in-items.ensures.value
    ∙ ap (λ (ys : List ResultName). have_fault (names_view (take c.len-start.result c.push_names.new.names.items)) (names_view ys)) (rest_is c.push_names.new.names.items c.len-start.result))
    c.if-have_fault.true
    ∙ c.items.invariant

pub items-preserved : goal.items-preserved
items-preserved c =
    fault_passed (record_item_view (map path_view c.args.leaves.now)) (plan_lists_view c.args.lists.now.items) c.args.items.now c.items.number c.len-start.result c.index-items-number.result c.items.names.items c.push_names.new.names.items c.have_fault.result
    c.items-test.true c.index-items-number.is (omega (arith, c.len-start.ensures, c.items.names.ok.0)) c.in_ok-push_names.ensures
    (c.have_fault.ensures
    ∙ ap₂ (λ (xs ys : List ResultName). have_fault (names_view (take c.len-start.result xs)) (names_view (take (length ys - c.len-start.result) (drop c.len-start.result ys)))) c.deref.ensures.value c.deref-in-items.ensures.value
    ∙ ap (λ (ys : List ResultName). have_fault (names_view (take c.len-start.result c.push_names.new.names.items)) (names_view ys)) (rest_is c.push_names.new.names.items c.len-start.result))
    c.if-have_fault.false
    ∙ c.items.invariant
