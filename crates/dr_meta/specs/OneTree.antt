-- A list of schema elements read with the groups that are still open, the innermost first, by how many fields each still has.
use Rattle.std.specs.Prelude.{ℕ, suc, ◌+◌, List, [], ◌∷◌, length, ℤ, pos, negsuc, Option, Some, None, option_map, option_and_then, map, reverse}
use Rattle.dr_formats.specs.Metadata.{SchemaElement}
use Rattle.dr_formats.specs.FileSchema.{FileFields, no_file_fields, file_field, FileShape, file_leaf, file_group, FieldsRead, fields_read, FileSchema, file_leaves}

-- how many leaves a schema has
abbrev pub count_leaves : FileSchema → ℕ
count_leaves s = length (file_leaves s.fields)

abbrev mutual
  -- how many leaves fields have
  pub leaves_of_fields : FileFields → ℕ
  leaves_of_fields no_file_fields = 0
  leaves_of_fields (file_field n r s fs) = leaves_of_shape s + leaves_of_fields fs

  pub leaves_of_shape : FileShape → ℕ
  leaves_of_shape (file_leaf t c) = 1
  leaves_of_shape (file_group fs) = leaves_of_fields fs

-- how many leaves the elements have, if they are the fields that are still to come of these groups
abbrev pub leaves_left : List ℕ → List SchemaElement → Option ℕ
leaves_left [] [] = Some 0
leaves_left [] (e ∷ es) = None
leaves_left (n ∷ s) es =
    option_and_then (λ (f : FieldsRead). option_map (λ m. leaves_of_fields f.fields + m) (leaves_left s f.behind)) (fields_read (length es) n es)

-- so many leaves more, if there is an answer
abbrev pub and_leaves : Option ℕ → Option ℕ → Option ℕ
and_leaves None o = None
and_leaves (Some k) o = option_map (λ m. k + m) o

-- how many fields a group has; none where the element is a leaf, or says no number
abbrev pub size_of_group : Option ℤ → Option ℤ → Option ℕ
size_of_group (Some t) n = None
size_of_group None None = None
size_of_group None (Some (pos n)) = Some n
size_of_group None (Some (negsuc n)) = None

-- the open groups, the innermost first, of which is kept how many fields each has besides the next
abbrev pub still_open : List ℕ → List ℕ
still_open kept = map (λ n. suc n) (reverse kept)
