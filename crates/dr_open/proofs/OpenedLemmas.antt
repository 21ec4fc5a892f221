-- The open part of the schema that a list of elements is.
use Rattle.std.proofs.Common.{◌≡◌, ℕ, List, ◌∷◌, ◌∙◌, ap, subst, map}
use Rattle.std.specs.Prelude.{IsSome, option_and_then, Some, vec_len}
use Rattle.dr_formats.specs.FileSchema.{file_schema, open_schema, open_name}
use Rattle.dr_meta.specs.declared.file.SchemaItem.{SchemaItem}
use Rattle.dr_meta.specs.Views.{item_view}
use Rattle.dr_meta.specs.OneTree.{size_of_group}
use Rattle.dr_nested.specs.Views.{fields_view}
use Rattle.dr_open.specs.OpenViews.{fields_part_view}
use Rattle.dr_open.specs.declared.opening.OpenedFields.{OpenedFields}
use Rattle.dr_open.proofs.OpeningLemmas.{root_part, something_open, not_empty}

-- the schema of the open fields
pub opened : (xs : List SchemaItem) (root : SchemaItem) (rest : List SchemaItem) (count : ℕ) (o : OpenedFields) (name : List ℕ) → xs ≡ root ∷ rest → IsSome (file_schema (map item_view xs)) → Some count ≡ size_of_group root.kind root.children
    → root_part count (map item_view rest) ≡ Some (fields_part_view o rest) → (vec_len o.fields ≡ 0 → ⊥) → name ≡ open_name root.name.now
    → option_and_then open_schema (file_schema (map item_view xs)) ≡ Some (record { name = name; fields = fields_view o.fields.items })
opened xs root rest count o name h t g p q w =
    ap (λ (xs : List SchemaItem). option_and_then open_schema (file_schema (map item_view xs))) h
    ∙ something_open count (item_view root) (map item_view rest) (fields_part_view o rest) name (subst (λ (xs : List SchemaItem). IsSome (file_schema (map item_view xs))) h t) g p (not_empty o.fields q) w
