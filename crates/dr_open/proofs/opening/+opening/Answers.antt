use Rattle.std.proofs.Common.{rules, ◌≡◌, ℕ, ◌+◌, ◌-◌, List, [], ◌∷◌, ◌∙◌, sym, ap, subst, refl, map, length, drop, length-drop, arith}
use Rattle.std.specs.Prelude.{IsSome, option_map}
use Rattle.std.proofs.lemmas.Option.{none-some}
use Rattle.dr_formats.specs.Metadata.{SchemaElement}
use Rattle.dr_meta.specs.declared.file.SchemaItem.{SchemaItem}
use Rattle.dr_meta.specs.Views.{item_view, lent}
use Rattle.dr_nested.specs.Views.{field_view, rep_view}
use Rattle.dr_open.specs.Places.{passed}
use Rattle.dr_open.specs.Opens.{fields_part}
use Rattle.dr_open.specs.OpenViews.{fields_part_view, shape_part_view, field_part_view}
use Rattle.dr_open.proofs.PassingLemmas.{from_place, first_from, rest_from}
use Rattle.dr_open.proofs.FieldLemmas.{fields_at, shape_there}
use Rattle.dr_open.proofs.OpeningLemmas.{Opening, group_part, opening_begins, opening_goes_on, opening_ends, part_goes_on, lent_there, lent_name, place_behind_first, more_there, repetition_there}
use Rattle.dr_open.proofs.opening.+opening.Goals as goal
use Rattle.dr_open.proofs.opening.+opening.Goals.{open_fields-else-fields-test, open_fields-then-fields-test+in_default, open_fields-then-fields-test+in-Some+in_default-repetition}

pub open_shape-returns-in_ok-open_fields-in-Some-clause-part : goal.open_shape-returns-in_ok-open_fields-in-Some-clause-part
open_shape-returns-in_ok-open_fields-in-Some-clause-part t c =
    let b : map item_view (drop c.as_group.result.elements c.args.behind.now) ≡ map item_view (drop c.in_ok-open_fields-in-Some.field-0.elements c.args.behind.now) = ap (λ k. map item_view (drop k c.args.behind.now)) c.as_group.ensures.elements in
    group_part c.args.depth (c.args.depth - 1) c.args.room c.in-Some.fields (item_view c.args.item.now) (map item_view c.args.behind.now) (fields_part_view c.in_ok-open_fields-in-Some.field-0 c.args.behind.now) (shape_part_view c.as_group.result c.args.behind.now)
    (omega arith) (sym c.in-Some.is ∙ c.group_size.ensures) c.in_ok-open_fields-in-Some.ensures.part c.as_group.ensures.shape c.as_group.ensures.left b

pub open_fields-open_field-requires : goal.open_fields-open_field-requires
open_fields-open_field-requires t c =
    let left = c.args.fields - c.fields.counter in (
      search rules,
      shape_there left (left - 1) (item_view c.in-Some.item.now) (map item_view c.in-Some.behind.now) (omega arith)
          (fields_at c.args.items.now c.fields.elements left c.in-Some.item.now c.in-Some.behind.now c.in-Some.ensures.cases.0 c.fields.invariant.are_fields),
    )

pub open_fields-fields-init : goal.open_fields-fields-init
open_fields-fields-init t c =
    let e : c.args.fields ≡ c.args.fields - 0 = omega arith in
    record {
      within = omega arith;
      are_fields = subst (λ (j : ℕ). IsSome (passed j (from_place 0 c.args.items.now))) e c.requires;
      opening = opening_begins c.new-earlier.result (map field_view c.new-opened.result.items) c.args.depth c.args.room (c.args.fields - 0) c.args.fields (from_place 0 c.args.items.now) c.new-earlier.ensures.empty (ap (map field_view) c.new-opened.ensures.items) (sym e);
    }

pub open_fields-fields-preserved : goal.open_fields-fields-preserved
open_fields-fields-preserved t c =
    let xs = c.args.items.now in
    let left = c.args.fields - c.fields.counter in
    let n = c.args.fields - (c.fields.counter + 1) in
    let item = c.in-Some.item.now in
    let behind = c.in-Some.behind.now in
    let whole = fields_part [] c.args.depth c.args.room c.args.fields (map item_view xs) in
    let first = first_from xs c.fields.elements item behind c.in-Some.ensures.cases.0 in
    let opening : Opening c.fields.earlier (map field_view c.fields.opened.items) c.args.depth c.fields.left left (item_view item ∷ map item_view behind) whole =
    subst (λ (es : List SchemaElement). Opening c.fields.earlier (map field_view c.fields.opened.items) c.args.depth c.fields.left left es whole) first c.fields.invariant.opening in
    let part = field_part_view c.in_ok-part.part behind in
    let on = part_goes_on opening.earlier c.args.depth c.fields.left left n (item_view item) (map item_view behind) (option_map lent c.in_ok-name.name) (rep_view c.in-Some-repetition.rep) part (omega arith)
    (fields_at xs c.fields.elements left item behind c.in-Some.ensures.cases.0 c.fields.invariant.are_fields)
    (ap (option_map rep_view) (sym c.in-Some-repetition.is) ∙ c.repetition.ensures)
    (lent_there c.in_ok-name.name ∙ c.in_ok-name.ensures.fresh opening.earlier opening.holds)
    (lent_name c.in_ok-name.name item.name.now c.in_ok-name.ensures.text) c.in_ok-part.ensures.part in
    let next = place_behind_first xs c.fields.elements c.in_ok-part.part.elements (c.fields.elements + (1 + c.in_ok-part.part.elements)) item behind c.in-Some.ensures.cases.0 refl in
    let later = opening_goes_on c.fields.earlier c.fresh_name.new.earlier (map field_view c.fields.opened.items) (map field_view c.put_field.new.fields.items) c.args.depth c.fields.left left n (item_view item ∷ map item_view behind) item.name.now part whole opening on
    (c.in_ok-name.ensures.names opening.earlier opening.holds) c.in_ok-put_field.ensures in
    record {
      within = omega (arith, c.in_ok-part.ensures.within, ap (λ (zs : List SchemaItem). length zs) c.in-Some.ensures.cases.0, ap (λ (zs : List SchemaItem). length zs) (rest_from xs c.fields.elements), length-drop c.fields.elements xs);
      are_fields = subst (λ (es : List SchemaElement). IsSome (passed n es)) next on.are_fields;
      opening = subst (λ (es : List SchemaElement). Opening c.fresh_name.new.earlier (map field_view c.put_field.new.fields.items) c.args.depth c.in_ok-part.part.left n es whole) next later;
    }

pub open_fields-returns-clause-part : goal.open_fields-returns-clause-part
open_fields-returns-clause-part t c =
    elim c.fields-test.branch [
      | open_fields-else-fields-test w ↦
          opening_ends c.fields.earlier (map field_view c.fields.opened.items) c.args.depth c.fields.left (c.args.fields - c.fields.counter) (from_place c.fields.elements c.args.items.now) _ c.fields.invariant.opening (omega arith)
      | open_fields-then-fields-test+in_default w ↦ absurd (omega (arith, more_there c.args.items.now c.fields.elements (c.args.fields - c.fields.counter) c.fields.invariant.are_fields, w.in_default.ensures.cases, w.fields-test.true))
      | open_fields-then-fields-test+in-Some+in_default-repetition w ↦
          let left = c.args.fields - c.fields.counter in
          let r = repetition_there left (left - 1) (item_view w.in-Some.item.now) (map item_view w.in-Some.behind.now) (omega (arith, w.fields-test.true))
          (fields_at c.args.items.now c.fields.elements left w.in-Some.item.now w.in-Some.behind.now w.in-Some.ensures.cases.0 c.fields.invariant.are_fields) in
          absurd (none-some r.0 (sym (ap (option_map rep_view) w.in_default-repetition.is) ∙ (w.repetition.ensures ∙ r.1)))
    ]
