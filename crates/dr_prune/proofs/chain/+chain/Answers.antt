use Rattle.std.proofs.Common.{◌≡◌, ◌<◌, ◌≤◌, ◌+◌, ◌++◌, ◌∷◌, ℕ, List, append-nil, length, get_or, drop, map, ap, ap₂, sym, ◌∙◌, arith}
use Rattle.std.proofs.lemmas.List.{length-map}
use Rattle.std.proofs.lemmas.Result.{on_ok_weaker}
use Rattle.dr_nested.specs.declared.shape.Field.{Field}
use Rattle.dr_nested.specs.Views.{fields_view}
use Rattle.dr_nested.specs.PathView.{step_view}
use Rattle.dr_walk.proofs.FieldLemmas.{count_from, fields_in}
use Rattle.dr_kept_laws.specs.ChainNumbers.{numbers_in}
use Rattle.dr_prune.proofs.ChainLemmas.{goes_through, goes_past, goes_nowhere, at_end, counted_from}
use Rattle.dr_prune.proofs.chain.+chain.Goals as goal

pub add_in_group-returns-in-empty : goal.add_in_group-returns-in-empty
add_in_group-returns-in-empty t c =
    let xs = c.args.numbers.now.items in
    let p = map step_view c.args.path.now in
    let n : length p ≡ length c.args.path.now = length-map c.args.path.now step_view in
    let e = at_end (fields_view c.args.fields.now.items) c.args.first p (omega (arith, n, c.in-empty.len_below)) in
    sym (append-nil xs) ∙ ap (λ (ys : List ℕ). xs ++ ys) (sym e)

pub add_from_step-add_of_field-requires : goal.add_from_step-add_of_field-requires
add_from_step-add_of_field-requires t c =
    let fs = c.args.fields.now.items in
    let k = c.fields.place in
    let f = c.field-item.result in
    let more : k < length fs = omega (arith, c.fields-test.true, ap length c.deref-field-items.ensures.value) in
    let here : f ≡ get_or fs k f = c.field-item.is ∙ ap (λ (xs : List Field). get_or xs k f) c.deref-field-items.ensures.value in
    let e = count_from fs k f more here in
    (omega arith, omega (arith, e, c.fields.invariant.count, c.requires))

pub add_from_step-returns-then-place-step : goal.add_from_step-returns-then-place-step
add_from_step-returns-then-place-step t c =
    let fs = c.args.fields.now.items in
    let k = c.fields.place in
    let f = c.field-item.result in
    let more : k < length fs = omega (arith, c.fields-test.true, ap length c.deref-field-items.ensures.value) in
    let here : f ≡ get_or fs k f = c.field-item.is ∙ ap (λ (xs : List Field). get_or xs k f) c.deref-field-items.ensures.value in
    let e = goes_through fs k f c.fields.number (step_view c.args.step.now) (map step_view c.args.rest.now) more here c.if-place-step.true in
    on_ok_weaker c.add_of_field.result (λ h. h ∙ ap₂ (λ (xs ys : List ℕ). xs ++ ys) c.fields.invariant.same (sym e ∙ c.fields.invariant.numbers)) c.add_of_field.ensures

pub add_from_step-count_repeated-number-requires : goal.add_from_step-count_repeated-number-requires
add_from_step-count_repeated-number-requires t c =
    let fs = c.args.fields.now.items in
    let k = c.fields.place in
    let f = c.field-item.result in
    let more : k < length fs = omega (arith, c.fields-test.true, ap length c.deref-field-items.ensures.value) in
    let here : f ≡ get_or fs k f = c.field-item.is ∙ ap (λ (xs : List Field). get_or xs k f) c.deref-field-items.ensures.value in
    let e = count_from fs k f more here in
    omega (arith, e, c.fields.invariant.count, c.requires)

pub add_from_step-overflow_add-number : goal.add_from_step-overflow_add-number
add_from_step-overflow_add-number t c =
    let fs = c.args.fields.now.items in
    let k = c.fields.place in
    let f = c.field-item.result in
    let more : k < length fs = omega (arith, c.fields-test.true, ap length c.deref-field-items.ensures.value) in
    let here : f ≡ get_or fs k f = c.field-item.is ∙ ap (λ (xs : List Field). get_or xs k f) c.deref-field-items.ensures.value in
    let e = count_from fs k f more here in
    let n : c.count_repeated-number.result ≡ fields_in f = c.count_repeated-number.ensures in
    omega (arith, e, n, c.fields.invariant.count, c.requires)

pub add_from_step-fields-preserved : goal.add_from_step-fields-preserved
add_from_step-fields-preserved t c =
    let fs = c.args.fields.now.items in
    let k = c.fields.place in
    let f = c.field-item.result in
    let more : k < length fs = omega (arith, c.fields-test.true, ap length c.deref-field-items.ensures.value) in
    let here : f ≡ get_or fs k f = c.field-item.is ∙ ap (λ (xs : List Field). get_or xs k f) c.deref-field-items.ensures.value in
    let e = count_from fs k f more here in
    let n : c.count_repeated-number.result ≡ fields_in f = c.count_repeated-number.ensures in
    let s = step_view c.args.step.now in
    let p = map step_view c.args.rest.now in
    let past : k < c.args.step.now.place = omega (arith, c.fields.invariant.within, c.if-place-step.false) in
    record {
      within = omega (arith, past);
      count = omega (arith, e, n, c.fields.invariant.count);
      same = c.fields.invariant.same;
      numbers = ap (λ (m : ℕ). numbers_in (fields_view (drop (k + 1) fs)) (c.fields.number + m) (counted_from (k + 1) s ∷ p)) n
          ∙ sym (goes_past fs k f c.fields.number s p more here past)
          ∙ c.fields.invariant.numbers;
    }

pub add_from_step-returns : goal.add_from_step-returns
add_from_step-returns t c =
    let fs = c.args.fields.now.items in
    let k = c.fields.place in
    let s = step_view c.args.step.now in
    let p = map step_view c.args.rest.now in
    let end : length fs ≤ k = omega (arith, c.fields-test.false, ap length c.deref-field-items.ensures.value) in
    let e = goes_nowhere fs k c.fields.number (counted_from k s ∷ p) end in
    c.fields.invariant.same ∙ sym (append-nil c.args.numbers.now.items)
    ∙ ap (λ (ys : List ℕ). c.args.numbers.now.items ++ ys) (sym e ∙ c.fields.invariant.numbers)
