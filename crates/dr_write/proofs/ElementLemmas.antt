-- The elements of a schema, field by field.
use Rattle.std.proofs.Common.{◌≡◌, ℕ, suc, List, [], ◌∷◌, length, refl, ap, pos}
use Rattle.dr_formats.specs.Writing.{count_fields, group_element}
use Rattle.std.specs.Prelude.{ℤ, Option, Some, None}
use Rattle.dr_meaning.specs.Schema.{Fields}
use Rattle.dr_nested.specs.declared.shape.Field.{Field}
use Rattle.dr_nested.specs.Views.{fields_view}

-- how many fields a group has
pub count_view : (fs : List Field) → count_fields (fields_view fs) ≡ length fs
count_view [] = refl
count_view (f ∷ fs) = ap suc (count_view fs)

-- the element of a group
pub element_of_group : (m n : List ℕ) (r : Option ℤ) (z : ℤ) (fs : Fields) → m ≡ n → z ≡ pos (count_fields fs)
    → record { type = None; type_length = None; repetition = r; name = m; children = Some z; converted = None } ≡ group_element n r fs
element_of_group m n r z fs e f = rw (e, f) refl
