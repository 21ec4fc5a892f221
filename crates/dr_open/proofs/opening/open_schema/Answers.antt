use Rattle.std.proofs.Common.{List, ◌∙◌, sym, ap, subst, map, refl}
use Rattle.std.specs.Prelude.{IsSome, option_and_then, string_bytes}
use Rattle.std.proofs.lemmas.Bool.{eqb-true, eqb-false}
use Rattle.dr_formats.specs.FileSchema.{file_schema, open_schema}
use Rattle.dr_meta.specs.declared.file.SchemaItem.{SchemaItem}
use Rattle.dr_meta.specs.Views.{item_view}
use Rattle.dr_nested.specs.Views.{fields_view}
use Rattle.dr_open.specs.OpenViews.{fields_part_view}
use Rattle.dr_open.proofs.OpeningLemmas.{nothing_open, is_open_part, no_fields_there, name_or}
use Rattle.dr_open.proofs.OpenedLemmas.{opened}
use Rattle.dr_open.proofs.opening.open_schema.Goals as goal

pub returns-then-is_empty : goal.returns-then-is_empty
returns-then-is_empty c =
    let tree = subst (λ (xs : List SchemaItem). IsSome (file_schema (map item_view xs))) c.in-Some.ensures.cases.0 c.requires in
    sym (ap (λ (xs : List SchemaItem). option_and_then open_schema (file_schema (map item_view xs))) c.in-Some.ensures.cases.0
    ∙ nothing_open c.in-Some-group_size.count (item_view c.in-Some.root.now) (map item_view c.in-Some.rest.now) (fields_part_view c.in_ok-fields.field-0 c.in-Some.rest.now) tree (sym c.in-Some-group_size.is ∙ c.group_size.ensures) c.in_ok-fields.ensures.part
    (no_fields_there c.in_ok-fields.field-0.fields (eqb-true _ _ (sym c.is_empty.ensures ∙ c.if-is_empty.true))))

pub invariant_of-result : goal.invariant_of-result
invariant_of-result c =
    let name = c.in_ok-name.ensures.ok ∙ (ap (λ b. b.now) c.unwrap_or.ensures ∙ name_or c.short_name.result c.in-Some.root.now.name.now _ c.short_name.ensures.variant c.short_name.ensures.text refl) in
    record {
      valid = is_open_part (file_schema (map item_view c.args.items.now)) (record { name = string_bytes c.in_ok-name.name; fields = fields_view c.in_ok-fields.field-0.fields.items })
          (opened c.args.items.now c.in-Some.root.now c.in-Some.rest.now c.in-Some-group_size.count c.in_ok-fields.field-0 (string_bytes c.in_ok-name.name) c.in-Some.ensures.cases.0 c.requires (sym c.in-Some-group_size.is ∙ c.group_size.ensures) c.in_ok-fields.ensures.part
          (eqb-false _ _ (sym c.is_empty.ensures ∙ c.if-is_empty.false)) name);
    }

pub returns : goal.returns
returns c =
    let name = c.in_ok-name.ensures.ok ∙ (ap (λ b. b.now) c.unwrap_or.ensures ∙ name_or c.short_name.result c.in-Some.root.now.name.now _ c.short_name.ensures.variant c.short_name.ensures.text refl) in
    sym (opened c.args.items.now c.in-Some.root.now c.in-Some.rest.now c.in-Some-group_size.count c.in_ok-fields.field-0 (string_bytes c.in_ok-name.name) c.in-Some.ensures.cases.0 c.requires (sym c.in-Some-group_size.is ∙ c.group_size.ensures) c.in_ok-fields.ensures.part
    (eqb-false _ _ (sym c.is_empty.ensures ∙ c.if-is_empty.false)) name)
