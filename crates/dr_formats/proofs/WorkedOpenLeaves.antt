-- Which leaves of a file are open, and the schema of these, by computation.
use Rattle.std.specs.Prelude.{◌≡◌, ℕ, zero, suc, List, [], ◌∷◌, map, replicate, false, ℤ, pos, neg_ℤ, Option, Some, None, codes, refl}
use Rattle.dr_meaning.specs.Schema.{Repetition, required, optional, repeated, Kind, bool_kind, int32_kind, int64_kind, text_kind, Fields, no_fields, field, leaf, group, Schema, most_leaves, greatest_depth}
use Rattle.dr_meaning.specs.Path.{Step, Leaf}
use Rattle.dr_formats.specs.Metadata.{SchemaElement}
use Rattle.dr_formats.specs.OpenSchemaLaws.{open_ones, leaves_of_part}
use Rattle.dr_formats.specs.FileSchema.{FileFields, no_file_fields, file_field, file_leaf, file_group, repetition_from, file_schema, kind_from, open_kind, FileLeaf, file_leaves, same_names, same_repetitions, place_of, open_fields, open_schema}

-- ---- numbers

-- BOOLEAN 0, INT32 1, INT64 2, BYTE_ARRAY 6 have a kind; INT96 3, FLOAT 4, DOUBLE 5, FIXED_LEN_BYTE_ARRAY 7 and any other have none
pub types : map kind_from (pos 0 ∷ pos 1 ∷ pos 2 ∷ pos 3 ∷ pos 4 ∷ pos 5 ∷ pos 6 ∷ pos 7 ∷ pos 8 ∷ neg_ℤ (pos 1) ∷ []) ≡
    Some bool_kind ∷ Some int32_kind ∷ Some int64_kind ∷ None ∷ None ∷ None ∷ Some text_kind ∷ None ∷ None ∷ None ∷ []
types = refl

-- REQUIRED 0, OPTIONAL 1, REPEATED 2
pub repetitions : map repetition_from (None ∷ Some (pos 0) ∷ Some (pos 1) ∷ Some (pos 2) ∷ Some (pos 3) ∷ Some (neg_ℤ (pos 1)) ∷ []) ≡ None ∷ Some required ∷ Some optional ∷ Some repeated ∷ None ∷ None ∷ []
repetitions = refl

-- of the converted types 0 to 22 closed are DECIMAL 5, UINT_32 13, UINT_64 14, BSON 20, INTERVAL 21
abbrev of_type : ℕ → Option Kind
of_type c = open_kind (pos 2) (Some (pos c))

abbrev yes : Option Kind
yes = Some int64_kind

pub conversions : (map of_type (0 ∷ 1 ∷ 2 ∷ 3 ∷ 4 ∷ 5 ∷ 6 ∷ 7 ∷ 8 ∷ 9 ∷ 10 ∷ 11 ∷ 12 ∷ 13 ∷ 14 ∷ 15 ∷ 16 ∷ 17 ∷ 18 ∷ 19 ∷ 20 ∷ 21 ∷ 22 ∷ []) ≡
    yes ∷ yes ∷ yes ∷ yes ∷ yes ∷ None ∷ yes ∷ yes ∷ yes ∷ yes ∷ yes ∷ yes ∷ yes ∷ None ∷ None ∷ yes ∷ yes ∷ yes ∷ yes ∷ yes ∷ None ∷ None ∷ yes ∷ []) × (open_kind (pos 6) None ≡ Some text_kind) × (open_kind (pos 5) None ≡ None)
conversions = (refl, refl, refl)

-- ---- the tree of a list of elements

abbrev element : Option ℕ → Option ℕ → List ℕ → Option ℕ → SchemaElement
element t r n c = record { type = number t; type_length = None; repetition = number r; name = n; children = number c; converted = None }
  where
    number : Option ℕ → Option ℤ
    number None = None
    number (Some n) = Some (pos n)

-- depth first: a root of two fields, of which the first is a group of two, and that a group of one
pub depth_first : file_schema (element None None (codes "R") (Some 2) ∷ element None (Some 2) (codes "g") (Some 2) ∷ element None (Some 1) (codes "h") (Some 1) ∷ element (Some 2) (Some 0) (codes "x") None
    ∷ element (Some 6) (Some 2) (codes "y") (Some 7) ∷ element (Some 1) (Some 1) (codes "z") None ∷ []) ≡
    Some (record {
      name = codes "R";
      fields = file_field (codes "g") repeated (file_group (file_field (codes "h") optional (file_group (file_field (codes "x") required (file_leaf (pos 2) None) no_file_fields))
          (file_field (codes "y") repeated (file_leaf (pos 6) None) no_file_fields))) (file_field (codes "z") optional (file_leaf (pos 1) None) no_file_fields);
    })
depth_first = refl

-- a root without fields; a group without fields
pub empty_groups : (file_schema (element None None [] (Some 0) ∷ []) ≡ Some (record { name = []; fields = no_file_fields })) × (file_schema (element None None [] (Some 1) ∷ element None (Some 0) (codes "g") (Some 0) ∷ []) ≡ Some (record { name = []; fields = file_field (codes "g") required (file_group no_file_fields) no_file_fields }))
empty_groups = (refl, refl)

-- ---- the open part

abbrev number : List ℕ → FileFields → FileFields
number n fs = file_field n required (file_leaf (pos 2) None) fs

abbrev double : List ℕ → FileFields → FileFields
double n fs = file_field n required (file_leaf (pos 5) None) fs

abbrev within : Repetition → List ℕ → FileFields → FileFields → FileFields
within r n inside fs = file_field n r (file_group inside) fs

abbrev of_root : List ℕ → FileFields → Option Schema
of_root n fs = open_schema (record { name = n; fields = fs })

-- an open leaf; its second sibling; a group of closed leaves alone; a group of one of each; a name that isn't of the form; a group whose name was there
abbrev mixed : FileFields
mixed = number (codes "a") (number (codes "a") (within optional (codes "g") (double (codes "x") no_file_fields) (within repeated (codes "h") (double (codes "x") (file_field (codes "y") optional (file_leaf (pos 6) (Some (pos 0))) no_file_fields))
    (number (codes "9") (within repeated (codes "h") (number (codes "z") no_file_fields) no_file_fields)))))

pub open_of_mixed : of_root (codes "R") mixed ≡ Some (record { name = codes "R"; fields = field (codes "a") required (leaf int64_kind) (field (codes "h") repeated (group (field (codes "y") optional (leaf text_kind) no_fields)) no_fields) })
open_of_mixed = refl

-- its leaves, in order, with the kinds of those that are open
abbrev file_leaf_of : List (List ℕ) → List Repetition → Option Kind → FileLeaf
file_leaf_of ns rs k = record { names = ns; repetitions = rs; kind = k }

pub leaves_of_mixed : file_leaves mixed ≡
    file_leaf_of (codes "a" ∷ []) (required ∷ []) (Some int64_kind) ∷ file_leaf_of (codes "a" ∷ []) (required ∷ []) None
    ∷ file_leaf_of (codes "g" ∷ codes "x" ∷ []) (optional ∷ required ∷ []) None
    ∷ file_leaf_of (codes "h" ∷ codes "x" ∷ []) (repeated ∷ required ∷ []) None ∷ file_leaf_of (codes "h" ∷ codes "y" ∷ []) (repeated ∷ optional ∷ []) (Some text_kind)
    ∷ file_leaf_of (codes "9" ∷ []) (required ∷ []) None ∷ file_leaf_of (codes "h" ∷ codes "z" ∷ []) (repeated ∷ required ∷ []) None ∷ []
leaves_of_mixed = refl

-- the open ones of these are the leaves of the open part
pub open_leaves_of_mixed : (open_ones (file_leaves mixed) ≡ file_leaf_of (codes "a" ∷ []) (required ∷ []) (Some int64_kind) ∷ file_leaf_of (codes "h" ∷ codes "y" ∷ []) (repeated ∷ optional ∷ []) (Some text_kind) ∷ [])
    × (leaves_of_part (of_root (codes "R") mixed) ≡ open_ones (file_leaves mixed)) × (leaves_of_part None ≡ [])
open_leaves_of_mixed = (refl, refl, refl)

-- a closed leaf's name is taken all the same
pub closed_takes_name : of_root (codes "R") (double (codes "a") (number (codes "a") (number (codes "b") no_file_fields))) ≡ Some (record { name = codes "R"; fields = field (codes "b") required (leaf int64_kind) no_fields })
closed_takes_name = refl

-- nothing open: no schema; a root's name that isn't of the form, or of 65 letters: `Records`
pub roots : (of_root (codes "R") (double (codes "a") no_file_fields) ≡ None) × (of_root (codes "R") no_file_fields ≡ None)
    × (map (λ n. of_root n (number (codes "a") no_file_fields)) (codes "my table" ∷ replicate 65 97 ∷ replicate 64 97 ∷ []) ≡
    Some (record { name = codes "Records"; fields = field (codes "a") required (leaf int64_kind) no_fields }) ∷ Some (record { name = codes "Records"; fields = field (codes "a") required (leaf int64_kind) no_fields }) ∷ Some (record { name = replicate 64 97; fields = field (codes "a") required (leaf int64_kind) no_fields }) ∷ [])
roots = (refl, refl, refl)

-- names of 64 and 65 letters
pub long_names : of_root (codes "R") (number (replicate 65 97) (number (replicate 64 97) no_file_fields)) ≡ Some (record { name = codes "R"; fields = field (replicate 64 97) required (leaf int64_kind) no_fields })
long_names = refl

-- so many groups round a leaf
abbrev nested : ℕ → FileFields
nested zero = number (codes "a") no_file_fields
nested (suc n) = within optional (codes "g") (nested n) no_file_fields

abbrev nested_fields : ℕ → Fields
nested_fields zero = field (codes "a") required (leaf int64_kind) no_fields
nested_fields (suc n) = field (codes "g") optional (group (nested_fields n)) no_fields

abbrev kinds : List FileLeaf → List (Option Kind)
kinds ls = map (λ (l : FileLeaf). l.kind) ls

-- a path of 32 parts is open, one of 33 is closed
pub depths : (of_root (codes "R") (nested 31) ≡ Some (record { name = codes "R"; fields = nested_fields 31 })) × (of_root (codes "R") (nested 32) ≡ None) × (kinds (file_leaves (nested 31)) ≡ Some int64_kind ∷ []) × (kinds (file_leaves (nested 32)) ≡ None ∷ [])
depths = (refl, refl, refl, refl)

-- with room for so many leaves the first open ones are taken, and groups that hold none of them are left out; the room of a file's schema is 1,024
abbrev with_room : ℕ → Fields
with_room n = (open_fields [] greatest_depth (number (codes "a") (within repeated (codes "g") (double (codes "x") (number (codes "y") no_file_fields)) (within repeated (codes "h") (number (codes "z") no_file_fields) no_file_fields))) n).fields

pub rooms : (with_room 0 ≡ no_fields) × (with_room 1 ≡ field (codes "a") required (leaf int64_kind) no_fields) × (with_room 2 ≡ field (codes "a") required (leaf int64_kind) (field (codes "g") repeated (group (field (codes "y") required (leaf int64_kind) no_fields)) no_fields))
    × (with_room 3 ≡ with_room 9) × (most_leaves ≡ 1024)
rooms = (refl, refl, refl, refl, refl)

-- ---- the place of a schema's leaf

abbrev leaf_named : List (List ℕ) → List Step → Kind → Leaf
leaf_named ns p k = record { names = ns; path = p; kind = k }

abbrev step : Repetition → Step
step r = record { place = 7; repetition = r }

-- by names, repetitions and kind, wherever it stands; not one of another name, repetition, kind, or number of parts; not a closed one
pub places : map (λ l. place_of l (file_leaves mixed)) (leaf_named (codes "a" ∷ []) (step required ∷ []) int64_kind ∷ leaf_named (codes "h" ∷ codes "y" ∷ []) (step repeated ∷ step optional ∷ []) text_kind
    ∷ leaf_named (codes "b" ∷ []) (step required ∷ []) int64_kind ∷ leaf_named (codes "a" ∷ []) (step optional ∷ []) int64_kind ∷ leaf_named (codes "a" ∷ []) (step required ∷ []) int32_kind
    ∷ leaf_named (codes "h" ∷ []) (step repeated ∷ []) text_kind ∷ leaf_named (codes "h" ∷ codes "y" ∷ []) (step optional ∷ step optional ∷ []) text_kind ∷ leaf_named (codes "h" ∷ codes "z" ∷ []) (step repeated ∷ step required ∷ []) int64_kind ∷ [])
    ≡ Some 0 ∷ Some 4 ∷ None ∷ None ∷ None ∷ None ∷ None ∷ None ∷ []
places = refl

-- a path isn't that of another number of parts, by its names alone or by its repetitions alone
pub lengths : (same_names (codes "a" ∷ []) [] ≡ false) × (same_names [] (codes "a" ∷ []) ≡ false) × (same_names (codes "a" ∷ codes "b" ∷ []) (codes "a" ∷ []) ≡ false)
    × (same_repetitions (step required ∷ []) [] ≡ false) × (same_repetitions [] (required ∷ []) ≡ false) × (same_repetitions (step required ∷ []) (required ∷ required ∷ []) ≡ false)
lengths = (refl, refl, refl, refl, refl, refl)
