-- What the open parts stand for, and the names of fields that were seen.
use Rattle.std.specs.Prelude.{◌≡◌, ℕ, List, map, drop, true, option_map}
use Rattle.std.specs.List.{list_any}
use Rattle.std.specs.Str.{bytes_eq}
use Rattle.std.specs.Ordering.{nat_cmp}
use Rattle.std.specs.declared.cmp.Ordering.{Ordering}
use Rattle.std.specs.Cmp.Lexicographic.{slice_cmp}
use Rattle.std.specs.BTreeSet.{BTreeSet, contains}
use denote.Ref.{Bor}
use Rattle.dr_meaning.specs.Schema.{is_short_name}
use Rattle.dr_nested.specs.Views.{shape_view, field_view, fields_view}
use Rattle.dr_meta.specs.declared.file.SchemaItem.{SchemaItem}
use Rattle.dr_meta.specs.Views.{item_view}
use Rattle.dr_open.specs.Opens.{FieldsPart, ShapePart, FieldPart}
use Rattle.dr_open.specs.declared.opening.OpenedFields.{OpenedFields}
use Rattle.dr_open.specs.declared.opening.OpenedField.{OpenedField}
use Rattle.dr_open.specs.declared.opening.OpenedShape.{OpenedShape}

-- an open part, and the elements behind so many
abbrev pub fields_part_view : OpenedFields → List SchemaItem → FieldsPart
fields_part_view o items = record { fields = fields_view o.fields.items; left = o.left; behind = map item_view (drop o.elements items) }

abbrev pub shape_part_view : OpenedShape → List SchemaItem → ShapePart
shape_part_view o items = record { shape = option_map shape_view o.shape; left = o.left; behind = map item_view (drop o.elements items) }

abbrev pub field_part_view : OpenedField → List SchemaItem → FieldPart
field_part_view o items = record { field = option_map field_view o.field; left = o.left; behind = map item_view (drop o.elements items) }

-- a text's place in the order of texts
abbrev pub text_order : Bor (List ℕ) → Bor (List ℕ) → Ordering
text_order a b = slice_cmp nat_cmp a.now b.now

-- of the names of the right form, the set has those that earlier fields have
abbrev pub HoldsNames : BTreeSet (Bor (List ℕ)) → List (List ℕ) → Type 0
HoldsNames s earlier = (q : Bor (List ℕ)) → is_short_name q.now ≡ true → contains text_order s q ≡ list_any (bytes_eq q.now) earlier
