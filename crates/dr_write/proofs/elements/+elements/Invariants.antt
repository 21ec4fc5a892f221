use Rattle.std.proofs.Common.{◌≡◌, ◌++◌, drop}
use Rattle.dr_formats.specs.Writing.{elements}
use Rattle.dr_nested.specs.Views.{fields_view}
use Rattle.dr_meta.specs.Views.{items_view}
use Rattle.dr_write.proofs.elements.+elements.Given as goal

-- the elements of the fields from this one on are still to join
abbrev pub invariant-push_fields-fields : goal.invariant-push_fields-fields
invariant-push_fields-fields l = items_view l.items ++ elements (fields_view (drop l.field-index l.fields.items)) ≡ items_view l.initial.items ++ elements (fields_view l.fields.items)
