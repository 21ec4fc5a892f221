-- Printed texts: result objects and records as compact JSON (RFC 8259), one to a line.
use Rattle.std.specs.Prelude.{ℕ, List, [], ◌∷◌, ◌++◌, true, false, Option, Some, None, codes}
use Rattle.std.specs.Fmt.{signed_decimal}
use Rattle.std.specs.List.{join_with_byte, flat_map}
use Rattle.json.specs.Print.{quoted}
use Rattle.dr_meaning.specs.Schema.{Repetition, required, optional, repeated, Fields, no_fields, field, Shape, leaf, group}
use Rattle.dr_meaning.specs.Record.{Value, bool_value, int_value, text_value, Node, no_slots, slot, gap, Instances, no_instances, instance, Instance}
use Rattle.dr_meaning.specs.Record.{atom, inner}
use Rattle.dr_meaning.specs.Query.{Object, no_entries, cell, list, Objects, no_objects, object}

abbrev pub value_text : Value → List ℕ
value_text (bool_value true) = codes "true"
value_text (bool_value false) = codes "false"
value_text (int_value z) = signed_decimal z
value_text (text_value t) = quoted t

abbrev pub cell_text : Option Value → List ℕ
cell_text None = codes "null"
cell_text (Some v) = value_text v

-- parts separated by commas, in brackets
abbrev pub braced : List (List ℕ) → List ℕ
braced parts = 123 ∷ (join_with_byte 44 parts ++ 125 ∷ [])

abbrev pub bracketed : List (List ℕ) → List ℕ
bracketed parts = 91 ∷ (join_with_byte 44 parts ++ 93 ∷ [])

abbrev pub member_text : List ℕ → List ℕ → List ℕ
member_text n t = quoted n ++ 58 ∷ t

-- ---- results

abbrev mutual
  pub entry_texts : Object → List (List ℕ)
  entry_texts no_entries = []
  entry_texts (cell n v o) = member_text n (cell_text v) ∷ entry_texts o
  entry_texts (list n os o) = member_text n (bracketed (object_texts os)) ∷ entry_texts o

  pub object_texts : Objects → List (List ℕ)
  object_texts no_objects = []
  object_texts (object o os) = braced (entry_texts o) ∷ object_texts os

abbrev pub object_text : Object → List ℕ
object_text o = braced (entry_texts o)

-- the objects, one to a line
unfoldable pub result_text : List Object → List ℕ
result_text os = flat_map (λ o. object_text o ++ 10 ∷ []) os

-- ---- records: fields in schema order; an absent optional field isn't printed, a repeated one always is, as a list; a dropped field isn't printed

abbrev pub instance_texts : (Instance → List ℕ) → Instances → List (List ℕ)
instance_texts f no_instances = []
instance_texts f (instance x xs) = f x ∷ instance_texts f xs

-- a field that isn't repeated: its instance, if there is one
abbrev pub single_members : List ℕ → List (List ℕ) → List (List ℕ)
single_members n [] = []
single_members n (t ∷ ts) = member_text n t ∷ []

abbrev pub field_members : Repetition → List ℕ → List (List ℕ) → List (List ℕ)
field_members required n ts = single_members n ts
field_members optional n ts = single_members n ts
field_members repeated n ts = member_text n (bracketed ts) ∷ []

abbrev pub atom_text : Instance → List ℕ
atom_text (atom v) = value_text v
atom_text (inner n) = []

abbrev pub inner_text : (Node → List (List ℕ)) → Instance → List ℕ
inner_text f (atom v) = []
inner_text f (inner n) = braced (f n)

abbrev pub slot_members : (Instances → List (List ℕ)) → (Node → List (List ℕ)) → Node → List (List ℕ)
slot_members f rest no_slots = []
slot_members f rest (slot xs n) = f xs ++ rest n
slot_members f rest (gap n) = rest n

abbrev mutual
  pub record_members : Fields → Node → List (List ℕ)
  record_members no_fields = λ n. []
  record_members (field n r s fs) = slot_members (λ xs. field_members r n (instance_texts (shape_text s) xs)) (record_members fs)

  pub shape_text : Shape → Instance → List ℕ
  shape_text (leaf k) = atom_text
  shape_text (group fs) = inner_text (record_members fs)

-- a record's line
unfoldable pub record_text : Fields → Node → List ℕ
record_text fs n = braced (record_members fs n) ++ 10 ∷ []
