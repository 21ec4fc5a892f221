use Rattle.std.proofs.Common.{◌≡◌, ◌∙◌, ◌++◌, sym, ap, ap₂, map, List, Some, arith, length, get_or, append-nil, string_bytes, ℕ}
use Rattle.std.proofs.lemmas.Result.{on_ok_weaker}
use Rattle.dr_meaning.specs.Path.{begins_with}
use Rattle.dr_nested.specs.declared.path.Step as steps
use Rattle.dr_nested.specs.PathView.{step_view}
use Rattle.dr_plan.specs.declared.objects.ListPlan as list_plans
use Rattle.dr_sub_meaning.specs.ResultRecords as meaning
use Rattle.dr_sub_meaning.specs.ResultFaults as faults
use Rattle.dr_sub.specs.ResultNames.{names_view, lists_to}
use Rattle.dr_sub.proofs.NameLemmas.{list_found, list_passed, no_list_left, names_pushed, level_of, inner_of}
use Rattle.dr_sub.proofs.names.+push_lists.Goals as goal

pub lists-preserved : goal.lists-preserved
lists-preserved t c =
    let ls = c.args.lists.now.items in
    let e : c.deref-list-items.result.now ≡ ls = c.deref-list-items.ensures.value in
    record {
      names = c.lists.invariant.names;
      left = sym (list_passed ls c.lists.list-index c.list-item.result (map step_view c.args.at.now) (map step_view c.args.chain.now) c.begins_with.result
          (omega (arith, ap length e, c.lists-test.true)) (c.list-item.is ∙ ap (λ (xs : List list_plans.ListPlan). get_or xs c.lists.list-index c.list-item.result) e) (c.begins_with.ensures ∙ ap (λ (xs : List steps.Step). begins_with (map step_view xs) (map step_view c.args.chain.now)) c.deref.ensures.value) c.if-begins_with.false)
          ∙ c.lists.invariant.left;
    }

pub returns : goal.returns
returns t c =
    c.lists.invariant.names ∙ sym (append-nil (names_view c.args.names.now.items))
    ∙ ap (λ (ms : List faults.ResultName). names_view c.args.names.now.items ++ ms)
    (sym (no_list_left c.args.lists.now.items c.lists.list-index (map step_view c.args.at.now) (map step_view c.args.chain.now) (omega (arith, ap length c.deref-list-items.ensures.value, c.lists-test.false))) ∙ c.lists.invariant.left)

pub returns-then-begins_with : goal.returns-then-begins_with
returns-then-begins_with t c =
    let ls = c.args.lists.now.items in
    let l = c.list-item.result in
    let e : c.deref-list-items.result.now ≡ ls = c.deref-list-items.ensures.value in
    let at = map step_view c.args.at.now in
    let q = map step_view c.args.chain.now in
    let found = list_found ls c.lists.list-index l at q c.begins_with.result
    (omega (arith, ap length e, c.lists-test.true)) (c.list-item.is ∙ ap (λ (xs : List list_plans.ListPlan). get_or xs c.lists.list-index c.list-item.result) e)
    (c.begins_with.ensures ∙ ap (λ (xs : List steps.Step). begins_with (map step_view xs) q) c.deref.ensures.value) c.if-begins_with.true in
    on_ok_weaker c.push_lists.result (λ h.
    names_pushed c.lists.names.items c.push.new.self.items _ (record { inside = at; name = meaning.field_name (string_bytes (list_plans.out-ListPlan l).name); leads_to = Some (level_of l) }) (lists_to (level_of l) (inner_of l) q)
    (names_view c.push_lists.new.names.items)
    (h ∙ ap (λ (xs : List steps.Step). names_view c.push.new.self.items ++ lists_to (map step_view xs) (inner_of l) q) c.deref-then-begins_with-2.ensures.value)
    c.in_ok-push.ensures.items
    (ap₂ (λ (n : List ℕ) (xs : List steps.Step). record { inside = at; name = n; leads_to = Some (map step_view xs) }) (c.in_ok-field_name.ensures ∙ ap meaning.field_name c.as_str.ensures.value) c.deref-then-begins_with.ensures.value)
    ∙ ap₂ (λ (ms ns : List faults.ResultName). ms ++ ns) c.lists.invariant.names (sym found ∙ c.lists.invariant.left))
    c.push_lists.ensures
