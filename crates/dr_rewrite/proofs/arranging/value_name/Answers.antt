use Rattle.std.proofs.Common.{◌∙◌, List, length, refl, sym, ap}
use Rattle.std.specs.List.{slice_get}
use Rattle.std.proofs.lemmas.Option.{slice_get_read, slice_get_past}
use Rattle.dr_plan.specs.declared.plan.RecordItem.{RecordItem}
use Rattle.dr_rewrite.specs.Arranging.{record_name}
use Rattle.dr_rewrite.proofs.ArrangingLemmas.{value_found, column_found}
use Rattle.dr_rewrite.proofs.arranging.value_name.Goals as goal

pub returns-in-Some : goal.returns-in-Some
returns-in-Some c =
    c.name_of_item.ensures ∙ (ap (λ (xs : List RecordItem). record_name (slice_get xs c.in-Some.item.now)) c.deref-in-Some.ensures.value
    ∙ sym (value_found c.args.selection.now c.in-Objects.items c.in-Objects.object c.args.number c.deref.result.now _ c.in-Objects.is c.deref.ensures.value (slice_get_read c.deref.result.now (length c.deref.result.now) c.args.number c.in-Some.item.now refl c.in-Some.ensures.lookup.3.0 (c.in-Some.ensures.lookup.3.1 c.in-Some.item.now))))

pub returns-in-None : goal.returns-in-None
returns-in-None c =
    sym (value_found c.args.selection.now c.in-Objects.items c.in-Objects.object c.args.number c.deref.result.now _ c.in-Objects.is c.deref.ensures.value (slice_get_past c.deref.result.now c.args.number c.in-None.ensures.lookup.3))

pub returns-in-Some-get : goal.returns-in-Some-get
returns-in-Some-get c =
    c.as_str.ensures.value
    ∙ sym (column_found c.args.selection.now c.in-Groups.field-0 c.in-Groups.field-1 c.in-Groups.items c.args.number c.deref-in-Groups.result.now _ c.in-Groups.is c.deref-in-Groups.ensures.value (slice_get_read c.deref-in-Groups.result.now (length c.deref-in-Groups.result.now) c.args.number c.in-Some-get.item.now refl c.in-Some-get.ensures.lookup.3.0 (c.in-Some-get.ensures.lookup.3.1 c.in-Some-get.item.now)))

pub returns-in-None-get : goal.returns-in-None-get
returns-in-None-get c =
    sym (column_found c.args.selection.now c.in-Groups.field-0 c.in-Groups.field-1 c.in-Groups.items c.args.number c.deref-in-Groups.result.now _ c.in-Groups.is c.deref-in-Groups.ensures.value (slice_get_past c.deref-in-Groups.result.now c.args.number c.in-None-get.ensures.lookup.3))
