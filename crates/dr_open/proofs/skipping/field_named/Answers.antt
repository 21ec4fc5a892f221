use Rattle.std.proofs.Common.{List, ◌+◌, ◌-◌, ◌∙◌, refl, sym, ap, subst, map, arith}
use Rattle.std.specs.Prelude.{IsSome}
use Rattle.dr_meta.specs.declared.file.SchemaItem.{SchemaItem}
use Rattle.dr_meta.specs.Views.{item_view}
use Rattle.dr_open.specs.Places.{passed, place_among, behind_leaves}
use Rattle.dr_open.specs.Sources.{first_named}
use Rattle.dr_formats.specs.FileSchema.{repetition_from}
use Rattle.dr_open.proofs.PassingLemmas.{first_from, is_there}
use Rattle.dr_open.proofs.OpeningLemmas.{repetition_there}
use Rattle.dr_open.proofs.PlaceLemmas.{behind_both}
use Rattle.dr_open.proofs.FieldLemmas.{fields_at, shape_there, one_there, found_here, named_here, stepped}
use Rattle.dr_open.proofs.skipping.field_named.Goals as goal

pub returns-then-eq-clause-shape : goal.returns-then-eq-clause-shape
returns-then-eq-clause-shape c =
    let left = c.args.fields - c.fields.counter in
    shape_there left (left - 1) (item_view c.in_ok-item.item.now) (map item_view c.in_ok-item.behind.now) (omega arith)
    (fields_at c.args.items.now c.fields.at left c.in_ok-item.item.now c.in_ok-item.behind.now c.in_ok-item.ensures.cases.0 c.fields.invariant.are_fields)

pub returns-then-eq-clause-repetition : goal.returns-then-eq-clause-repetition
returns-then-eq-clause-repetition c =
    let left = c.args.fields - c.fields.counter in
    let r = repetition_there left (left - 1) (item_view c.in_ok-item.item.now) (map item_view c.in_ok-item.behind.now) (omega arith)
    (fields_at c.args.items.now c.fields.at left c.in_ok-item.item.now c.in_ok-item.behind.now c.in_ok-item.ensures.cases.0 c.fields.invariant.are_fields) in
    is_there (repetition_from c.in_ok-item.item.now.repetition) r.0 r.1

pub returns-then-eq-clause-some : goal.returns-then-eq-clause-some
returns-then-eq-clause-some c =
    let left = c.args.fields - c.fields.counter in
    λ l ns h. c.fields.invariant.same l ns h
    ∙ ap (behind_leaves c.fields.before) (ap (place_among l left) (first_from c.args.items.now c.fields.at c.in_ok-item.item.now c.in_ok-item.behind.now c.in_ok-item.ensures.cases.0)
    ∙ found_here c.args.name.now left (left - 1) (item_view c.in_ok-item.item.now) (map item_view c.in_ok-item.behind.now) (omega arith)
    (fields_at c.args.items.now c.fields.at left c.in_ok-item.item.now c.in_ok-item.behind.now c.in_ok-item.ensures.cases.0 c.fields.invariant.are_fields)
    (sym c.eq.ensures ∙ c.if-eq.true) l ns h)

pub returns-then-eq-clause-first : goal.returns-then-eq-clause-first
returns-then-eq-clause-first c =
    let left = c.args.fields - c.fields.counter in
    c.fields.invariant.named ∙ (ap (first_named c.args.name.now left) (first_from c.args.items.now c.fields.at c.in_ok-item.item.now c.in_ok-item.behind.now c.in_ok-item.ensures.cases.0)
    ∙ named_here c.args.name.now left (left - 1) (item_view c.in_ok-item.item.now) (map item_view c.in_ok-item.behind.now) (omega arith)
    (fields_at c.args.items.now c.fields.at left c.in_ok-item.item.now c.in_ok-item.behind.now c.in_ok-item.ensures.cases.0 c.fields.invariant.are_fields)
    (sym c.eq.ensures ∙ c.if-eq.true))

pub skip_fields-field-requires : goal.skip_fields-field-requires
skip_fields-field-requires c =
    let left = c.args.fields - c.fields.counter in
    subst (λ (xs : List SchemaItem). IsSome (passed 1 (map item_view xs))) (sym c.in_ok-item.ensures.cases.0)
    (one_there left (left - 1) (item_view c.in_ok-item.item.now) (map item_view c.in_ok-item.behind.now) (omega arith)
    (fields_at c.args.items.now c.fields.at left c.in_ok-item.item.now c.in_ok-item.behind.now c.in_ok-item.ensures.cases.0 c.fields.invariant.are_fields))

pub overflow_add-before : goal.overflow_add-before
overflow_add-before c =
    let left = c.args.fields - c.fields.counter in
    let h = stepped c.args.name.now c.args.items.now c.fields.at left (left - 1) c.in_ok-item.item.now c.in_ok-item.behind.now c.skip_fields-field.result.leaves c.skip_fields-field.result.elements (omega arith) c.fields.invariant.in_list
    c.in_ok-item.ensures.cases.0 c.fields.invariant.are_fields (sym c.eq.ensures ∙ c.if-eq.false) c.skip_fields-field.ensures.passed c.skip_fields-field.ensures.within in
    omega (arith, h.in_list, h.leaves_within, c.fields.invariant.within)

pub fields-preserved : goal.fields-preserved
fields-preserved c =
    let left = c.args.fields - c.fields.counter in
    let h = stepped c.args.name.now c.args.items.now c.fields.at left (c.args.fields - (c.fields.counter + 1)) c.in_ok-item.item.now c.in_ok-item.behind.now c.skip_fields-field.result.leaves c.skip_fields-field.result.elements (omega arith) c.fields.invariant.in_list
    c.in_ok-item.ensures.cases.0 c.fields.invariant.are_fields (sym c.eq.ensures ∙ c.if-eq.false) c.skip_fields-field.ensures.passed c.skip_fields-field.ensures.within in
    record {
      in_list = h.in_list;
      within = omega (arith, h.leaves_within, c.fields.invariant.within);
      are_fields = h.are_fields;
      same = λ l ns e. c.fields.invariant.same l ns e ∙ (ap (behind_leaves c.fields.before) (h.place l ns e) ∙ behind_both c.fields.before c.skip_fields-field.result.leaves _ _ refl);
      named = c.fields.invariant.named ∙ h.named;
    }
