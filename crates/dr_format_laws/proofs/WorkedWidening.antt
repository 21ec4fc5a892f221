-- Records under a wider schema, by computation: a field more in the record, in an optional group, in a repeated group.
use Rattle.std.specs.Prelude.{◌≡◌, ℕ, List, [], ◌∷◌, map, replicate, true, false, pos, Some, None, codes, refl}
use Rattle.std.proofs.Common.{subst}
use Rattle.std.specs.Str.{is_utf8, chars}
use Rattle.std.specs.List.{list_all}
use Rattle.dr_meaning.specs.Schema.{required, optional, repeated, int64_kind, text_kind, Schema, Fields, no_fields, field, leaf, group, is_group}
use Rattle.dr_meaning.specs.Path.{Leaf, leaves}
use Rattle.dr_meaning.specs.Record.{int_value, text_value, Node, no_slots, slot, no_instances, is_record}
use Rattle.dr_meaning.specs.Column.{Triplet, triplet, column}
use Rattle.dr_meaning.proofs.WorkedRecords.{texts, numbers, nodes}
use Rattle.dr_formats.specs.FileSchema.{FileFields, no_file_fields, file_field, file_leaf, file_group}
use Rattle.dr_formats.specs.Lacking.{outline}
use Rattle.dr_formats.specs.Widening.{is_wider, widened}
use Rattle.dr_formats.specs.Page.{data_page_v1}
use Rattle.dr_formats.specs.File.{IsFileOf}
use Rattle.dr_formats.proofs.WorkedFiles.{one_schema, one_record, one_file, one_file_is_written, one_file_fits}
use Rattle.dr_format_laws.specs.WideningLaws.{AreWider, widened_records, AreFields}
use Rattle.dr_format_laws.proofs.WideFiles.{written_file_is_of_widened}

-- message T { required int64 a; optional group g { required int64 b; } repeated group h { required string c; } }
abbrev narrow : Schema
narrow = record {
  name = codes "T";
  fields = field (codes "a") required (leaf int64_kind) (field (codes "g") optional (group (field (codes "b") required (leaf int64_kind) no_fields))
      (field (codes "h") repeated (group (field (codes "c") required (leaf text_kind) no_fields)) no_fields));
}

-- message U { repeated group h { optional string z; required string c; } optional int64 x; required int64 a; optional group g { required int64 b; repeated int64 y; } }
abbrev wide : Schema
wide = record {
  name = codes "U";
  fields = field (codes "h") repeated (group (field (codes "z") optional (leaf text_kind) (field (codes "c") required (leaf text_kind) no_fields))) (field (codes "x") optional (leaf int64_kind)
      (field (codes "a") required (leaf int64_kind) (field (codes "g") optional (group (field (codes "b") required (leaf int64_kind) (field (codes "y") repeated (leaf int64_kind) no_fields))) no_fields)));
}

pub are_wider : AreWider narrow wide
are_wider = (refl, refl, refl)

abbrev h_of : List ℕ → Node
h_of c = slot (texts (c ∷ [])) no_slots

abbrev wide_h_of : List ℕ → Node
wide_h_of c = slot no_instances (slot (texts (c ∷ [])) no_slots)

-- {"a":1,"g":{"b":2},"h":[{"c":"p"},{"c":"q"}]} and {"a":3}
abbrev two : List Node
two = slot (numbers (1 ∷ [])) (slot (nodes (slot (numbers (2 ∷ [])) no_slots ∷ [])) (slot (nodes (h_of (codes "p") ∷ h_of (codes "q") ∷ [])) no_slots))
    ∷ slot (numbers (3 ∷ [])) (slot no_instances (slot no_instances no_slots)) ∷ []

-- the fields at their new places, the new ones absent
abbrev wide_two : List Node
wide_two = slot (nodes (wide_h_of (codes "p") ∷ wide_h_of (codes "q") ∷ [])) (slot no_instances (slot (numbers (1 ∷ [])) (slot (nodes (slot (numbers (2 ∷ [])) (slot no_instances no_slots) ∷ [])) no_slots)))
    ∷ slot no_instances (slot no_instances (slot (numbers (3 ∷ [])) (slot no_instances no_slots))) ∷ []

pub two_widened : widened_records narrow wide two ≡ wide_two
two_widened = refl

pub are_records : (list_all (is_record narrow.fields) two ≡ true) × (list_all (is_record wide.fields) wide_two ≡ true)
unfolding is_utf8 chars lib.Utf8.encode
are_records = (refl, refl)

abbrev columns : Schema → List Node → List (List Triplet)
columns s R = map (λ (l : Leaf). column l.path R) (leaves s.fields)

abbrev number : ℕ → ℕ → ℕ → Triplet
number r d n = triplet r d (Some (int_value (pos n)))

abbrev text : ℕ → ℕ → List ℕ → Triplet
text r d t = triplet r d (Some (text_value t))

-- a, g.b, h.c
abbrev a_column : List Triplet
a_column = number 0 0 1 ∷ number 0 0 3 ∷ []

abbrev b_column : List Triplet
b_column = number 0 1 2 ∷ triplet 0 0 None ∷ []

abbrev c_column : List Triplet
c_column = text 0 1 (codes "p") ∷ text 1 1 (codes "q") ∷ triplet 0 0 None ∷ []

pub narrow_columns : columns narrow two ≡ a_column ∷ b_column ∷ c_column ∷ []
narrow_columns = refl

-- h.z, h.c, x, a, g.b, g.y: what is new has the outline of what is in its group, or a NULL for each record
pub wide_columns : columns wide wide_two ≡ outline 1 1 c_column ∷ c_column ∷ replicate 2 (triplet 0 0 None) ∷ a_column ∷ b_column ∷ outline 0 1 b_column ∷ []
wide_columns = refl

-- ---- two fields of one name

-- message T { required int64 a; }, and the same field twice, once as a text
abbrev once : Fields
once = field (codes "a") required (leaf int64_kind) no_fields

abbrev twice : Fields
twice = field (codes "a") required (leaf int64_kind) (field (codes "a") required (leaf text_kind) no_fields)

abbrev one : Node
one = slot (numbers (1 ∷ [])) no_slots

-- what isn't a schema may pass as wider, but has other records
pub twice_is_no_schema : (is_wider once twice ≡ true) × (is_group twice ≡ false) × (is_record once one ≡ true) × (is_record twice (widened once twice one) ≡ false)
twice_is_no_schema = (refl, refl, refl, refl)

-- ---- the fields of files

-- message T { required int64 a (TIMESTAMP_MILLIS); optional group g { required int64 b; } repeated group h { required binary c; } }, written by others
abbrev foreign : FileFields
foreign = file_field (codes "a") required (file_leaf (pos 2) (Some (pos 9))) (file_field (codes "g") optional (file_group (file_field (codes "b") required (file_leaf (pos 2) None) no_file_fields))
    (file_field (codes "h") repeated (file_group (file_field (codes "c") required (file_leaf (pos 6) None) no_file_fields)) no_file_fields))

pub foreign_fields : AreFields foreign narrow.fields
foreign_fields = (refl, refl, refl, (refl, refl, (refl, refl, refl, tt), (refl, refl, (refl, refl, refl, tt), tt)))

-- with a DOUBLE in the place of a leaf, or one more, they are others
pub closed_is_other : AreFields (file_field (codes "a") required (file_leaf (pos 5) None) no_file_fields) once → ⊥
closed_is_other h = no_kind h.2
  where
    no_kind : None ≡ Some int64_kind → ⊥
    no_kind e = absurd (cc)

pub more_is_other : AreFields (file_field (codes "a") required (file_leaf (pos 2) None) (file_field (codes "d") required (file_leaf (pos 5) None) no_file_fields)) once → ⊥
more_is_other h = h.3

-- ---- a file by the law

-- message T { optional string b; required int64 a; }, and {"a":1} under it
abbrev wide_one : Schema
wide_one = record { name = codes "T"; fields = field (codes "b") optional (leaf text_kind) (field (codes "a") required (leaf int64_kind) no_fields) }

abbrev wide_record : Node
wide_record = slot no_instances (slot (numbers (1 ∷ [])) no_slots)

-- the file of `message T { required int64 a; }` and {"a":1}
pub one_file_is_wider : IsFileOf one_file wide_one (leaves wide_one.fields) (wide_record ∷ [])
one_file_is_wider =
    subst (λ bytes. IsFileOf bytes wide_one (leaves wide_one.fields) (wide_record ∷ [])) one_file_is_written
    (written_file_is_of_widened data_page_v1 one_schema wide_one (leaves wide_one.fields) (one_record ∷ []) (refl, refl, refl) one_file_fits ((0, refl), ((1, refl), tt)))
