-- Older files under a wider schema, by computation: which leaves are lacking, what stands in for them, and whole files.
use Rattle.std.specs.Prelude.{◌≡◌, ℕ, List, [], ◌∷◌, map, replicate, true, false, pos, Option, Some, None, codes, refl}
use Rattle.std.specs.Str.{is_utf8, chars}
use Rattle.dr_meaning.specs.Schema.{Repetition, required, optional, repeated, int64_kind, text_kind, Schema, Fields, no_fields, field, Shape, leaf, group}
use Rattle.dr_meaning.specs.Path.{Leaf, leaves}
use Rattle.dr_meaning.specs.Record.{int_value, Node, no_slots, slot, no_instances}
use Rattle.dr_meaning.specs.Column.{triplet}
use Rattle.dr_meaning.proofs.WorkedSchemas.{document}
use Rattle.dr_meaning.proofs.WorkedRecords.{texts, numbers, nodes, record_10, record_20}
use Rattle.dr_formats.specs.Compact.{read_struct, struct_bytes}
use Rattle.dr_formats.specs.Hybrid.{hybrid, hybrid_bytes}
use Rattle.dr_formats.specs.Page.{page_triplets, body_bytes}
use Rattle.dr_formats.specs.FileSchema.{FileFields, no_file_fields, file_field, FileShape, file_leaf, file_group, FileSchema}
use Rattle.dr_formats.specs.Lacking.{lacking_after, names_begin, stand_in, outline}
use Rattle.dr_formats.specs.File.{bad_schema, bad_codec, HasCause, IsFileOf, footer_of}
use Rattle.dr_formats.specs.Writing.{file_bytes}
use Rattle.dr_formats.specs.Widening.{is_wider, widened}
use Rattle.dr_formats.proofs.FileLemmas.{known_cause_holds}
use Rattle.dr_formats.proofs.WorkedFiles.{one_file, document_file}
use Rattle.dr_formats.proofs.WorkedDamaged.{changed, footer_or}

-- ---- which leaves are lacking

abbrev whole_number : FileShape
whole_number = file_leaf (pos 2) None

abbrev text : FileShape
text = file_leaf (pos 6) None

-- a DOUBLE, which is closed
abbrev double : FileShape
double = file_leaf (pos 5) None

-- message T { required int64 a; optional group g { required double d; repeated group h { optional string s; required int64 n; } optional group e { required
-- double x; } } }
abbrev file_fields : FileFields
file_fields = file_field (codes "a") required whole_number (file_field (codes "g") optional (file_group
    (file_field (codes "d") required double
    (file_field (codes "h") repeated (file_group (file_field (codes "s") optional text (file_field (codes "n") required whole_number no_file_fields)))
    (file_field (codes "e") optional (file_group (file_field (codes "x") required double no_file_fields)) no_file_fields)))) no_file_fields)

-- a part of a path in a table's schema; where its field stands there doesn't matter
pub record Part : Type 0 where
  pub name : List ℕ
  pub repetition : Repetition

abbrev part : List ℕ → Repetition → Part
part n r = record { name = n; repetition = r }

abbrev leaf_of : List Part → Leaf
leaf_of ps = record { names = map (λ (p : Part). p.name) ps; path = map (λ (p : Part). record { place = 7; repetition = p.repetition }) ps; kind = text_kind }

abbrev after : List Part → Option ℕ
after ps = lacking_after (leaf_of ps).names (leaf_of ps).path file_fields

abbrev g : Part
g = part (codes "g") optional

abbrev h : Part
h = part (codes "h") repeated

-- in the record: optional or repeated, also a group of which the leaf is required; in a group; in a repeated one, also a group as a whole
pub may_lack : map after ((part (codes "b") optional ∷ []) ∷ (part (codes "b") repeated ∷ []) ∷ (part (codes "b") optional ∷ part (codes "x") required ∷ []) ∷ (g ∷ part (codes "x") optional ∷ []) ∷ (g ∷ h ∷ part (codes "x") repeated ∷ [])
    ∷ (g ∷ h ∷ part (codes "k") repeated ∷ part (codes "x") required ∷ []) ∷ []) ≡ Some 0 ∷ Some 0 ∷ Some 0 ∷ Some 1 ∷ Some 2 ∷ Some 2 ∷ []
may_lack = refl

-- a required part, in the record or in a group, also a group as a whole; another repetition at a part before it, of either kind
pub may_not_lack : map after ((part (codes "b") required ∷ []) ∷ (g ∷ part (codes "x") required ∷ []) ∷ (g ∷ part (codes "k") required ∷ part (codes "x") optional ∷ []) ∷ (part (codes "g") repeated ∷ part (codes "x") optional ∷ [])
    ∷ (g ∷ part (codes "h") optional ∷ part (codes "x") optional ∷ []) ∷ []) ≡ replicate 5 None
may_not_lack = refl

-- what is there doesn't lack: a leaf, also of another repetition, a closed one; a group in the place of a leaf, a leaf in the place of a group
pub is_there : map after ((part (codes "a") required ∷ []) ∷ (part (codes "a") optional ∷ []) ∷ (g ∷ part (codes "d") optional ∷ []) ∷ (g ∷ []) ∷ (part (codes "a") required ∷ part (codes "x") optional ∷ []) ∷ [] ∷ []) ≡ replicate 6 None
is_there = refl

-- of two fields of one name the first counts
abbrev twice : FileFields
twice = file_field (codes "g") optional (file_group (file_field (codes "n") optional text no_file_fields)) (file_field (codes "g") optional (file_group (file_field (codes "m") optional text no_file_fields)) no_file_fields)

pub first_of_two : map (λ (ps : List Part). lacking_after (leaf_of ps).names (leaf_of ps).path twice) ((g ∷ part (codes "m") optional ∷ []) ∷ (g ∷ part (codes "n") optional ∷ []) ∷ []) ≡ Some 1 ∷ None ∷ []
first_of_two = refl

-- ---- stand-ins

abbrev G : List (List ℕ)
G = codes "g" ∷ []

-- names of which some begin with others, each whole
pub names : map (names_begin G) (G ∷ (codes "g" ∷ codes "h" ∷ []) ∷ (codes "gg" ∷ codes "h" ∷ []) ∷ (codes "h" ∷ codes "g" ∷ []) ∷ [] ∷ []) ≡ true ∷ true ∷ false ∷ false ∷ false ∷ []
names = refl

abbrev T : FileSchema
T = record { name = codes "T"; fields = file_fields }

abbrev s_leaf : Leaf
s_leaf = record { names = codes "g" ∷ codes "h" ∷ codes "s" ∷ []; path = map (λ r. record { place = 0; repetition = r }) (optional ∷ repeated ∷ optional ∷ []); kind = text_kind }

-- the first open leaf below the group, behind a closed one, with the greatest levels of the group; in a group that is repeated; none where all are closed
pub stand_ins : (stand_in T (leaf_of (g ∷ part (codes "x") optional ∷ [])) 1 ≡ Some (record { leaf = s_leaf; repetition = 0; definition = 1 }))
    × (stand_in T (leaf_of (g ∷ h ∷ part (codes "x") repeated ∷ [])) 2 ≡ Some (record { leaf = s_leaf; repetition = 1; definition = 2 }))
    × (stand_in T (leaf_of (g ∷ part (codes "e") optional ∷ part (codes "y") optional ∷ [])) 2 ≡ None)
stand_ins = (refl, refl, refl)

-- the column of Name.Language.Code of the worked records, with other values: what is lacking in Language has a NULL for each of its triplets, what is lacking in Name
-- one for each name, what would be lacking in the record one for each record
pub outlines : map (λ (l : ℕ). outline l l (triplet 0 2 (Some (int_value (pos 1))) ∷ triplet 2 2 (Some (int_value (pos 2))) ∷ triplet 1 1 None ∷ triplet 1 2 (Some (int_value (pos 3))) ∷ triplet 0 1 None ∷ [])) (2 ∷ 1 ∷ 0 ∷ [])
    ≡ (triplet 0 2 None ∷ triplet 2 2 None ∷ triplet 1 1 None ∷ triplet 1 2 None ∷ triplet 0 1 None ∷ [])
    ∷ (triplet 0 1 None ∷ triplet 1 1 None ∷ triplet 1 1 None ∷ triplet 0 1 None ∷ [])
    ∷ (triplet 0 0 None ∷ triplet 0 0 None ∷ []) ∷ []
outlines = refl

-- levels that differ: up to repetition level 1, definition levels up to 3
pub outline_levels : outline 1 3 (triplet 0 4 (Some (int_value (pos 1))) ∷ triplet 1 2 None ∷ triplet 2 4 (Some (int_value (pos 2))) ∷ triplet 1 3 None ∷ []) ≡ triplet 0 3 None ∷ triplet 1 2 None ∷ triplet 1 3 None ∷ []
outline_levels = refl

-- ---- files

-- `message T { required int64 a; optional string b; }`, and {"a":1}
abbrev two_schema : Schema
two_schema = record { name = codes "T"; fields = field (codes "a") required (leaf int64_kind) (field (codes "b") optional (leaf text_kind) no_fields) }

abbrev two_record : Node
two_record = slot (numbers (1 ∷ [])) (slot no_instances no_slots)

-- the file of `message T { required int64 a; }` and {"a":1} is one of it
pub one_file_is_wider : IsFileOf one_file two_schema (leaves two_schema.fields) (two_record ∷ [])
unfolding footer_of read_struct page_triplets hybrid
one_file_is_wider = (footer_or (footer_of one_file), refl, refl, refl, (refl, refl, refl, refl, refl))

-- of what the record lacks no chunk is read: another codec and damaged pages of `a` don't matter, where `b` alone is asked for
abbrev b_leaf : List Leaf
b_leaf = record { names = codes "b" ∷ []; path = record { place = 1; repetition = optional } ∷ []; kind = text_kind } ∷ []

pub no_chunk_is_read : IsFileOf (changed 67 2 (changed 5 10 one_file)) two_schema b_leaf (two_record ∷ [])
unfolding footer_of read_struct
no_chunk_is_read = (footer_or (footer_of (changed 67 2 (changed 5 10 one_file))), refl, refl, refl, (refl, refl, refl, refl, refl))

pub codec_of_what_is_there : HasCause (changed 67 2 one_file) two_schema (leaves two_schema.fields) bad_codec
unfolding footer_of read_struct page_triplets hybrid
codec_of_what_is_there = known_cause_holds (changed 67 2 one_file) two_schema (leaves two_schema.fields) bad_codec refl

-- `message T { required int64 a; required int64 q; }`; `message T { optional int64 a; optional string b; }`
abbrev required_schema : Schema
required_schema = record { name = codes "T"; fields = field (codes "a") required (leaf int64_kind) (field (codes "q") required (leaf int64_kind) no_fields) }

abbrev changed_schema : Schema
changed_schema = record { name = codes "T"; fields = field (codes "a") optional (leaf int64_kind) (field (codes "b") optional (leaf text_kind) no_fields) }

pub required_is_refused : HasCause one_file required_schema (leaves required_schema.fields) bad_schema
unfolding footer_of read_struct
required_is_refused = known_cause_holds one_file required_schema (leaves required_schema.fields) bad_schema refl

pub changed_is_refused : HasCause one_file changed_schema (leaves changed_schema.fields) bad_schema
unfolding footer_of read_struct
changed_is_refused = known_cause_holds one_file changed_schema (leaves changed_schema.fields) bad_schema refl

-- the worked records' schema with a field more in each of its groups, at its front, in its middle and at its end, and a group as a whole:
-- message Document { repeated int64 Tag; required int64 DocId; optional group Links { repeated int64 Backward; optional group Extra { required int64 X; } repeated
-- int64 Forward; } repeated group Name { repeated group Language { required string Code; optional string Country; optional string Region; } optional string Url; repeated
-- string Alias; } }
abbrev wide_schema : Schema
wide_schema = record {
  name = codes "Document";
  fields = field (codes "Tag") repeated (leaf int64_kind) (field (codes "DocId") required (leaf int64_kind)
      (field (codes "Links") optional (group (field (codes "Backward") repeated (leaf int64_kind) (field (codes "Extra") optional (group (field (codes "X") required (leaf int64_kind) no_fields)) (field (codes "Forward") repeated (leaf int64_kind) no_fields))))
      (field (codes "Name") repeated (group (field (codes "Language") repeated (group (field (codes "Code") required (leaf text_kind) (field (codes "Country") optional (leaf text_kind) (field (codes "Region") optional (leaf text_kind) no_fields))))
      (field (codes "Url") optional (leaf text_kind) (field (codes "Alias") repeated (leaf text_kind) no_fields)))) no_fields)));
}

abbrev wide_language : List ℕ → List (List ℕ) → Node
wide_language code country = slot (texts (code ∷ [])) (slot (texts country) (slot no_instances no_slots))

abbrev wide_name : List Node → List (List ℕ) → Node
wide_name languages url = slot (nodes languages) (slot (texts url) (slot no_instances no_slots))

abbrev wide_document : ℕ → List Node → List Node → Node
wide_document id links ns = slot no_instances (slot (numbers (id ∷ [])) (slot (nodes links) (slot (nodes ns) no_slots)))

abbrev wide_links : List ℕ → List ℕ → Node
wide_links backward forward = slot (numbers backward) (slot no_instances (slot (numbers forward) no_slots))

-- the two worked records, with the new fields absent
abbrev wide_10 : Node
wide_10 = wide_document 10 (wide_links [] (20 ∷ 40 ∷ 60 ∷ []) ∷ [])
    (wide_name (wide_language (codes "en-us") (codes "us" ∷ []) ∷ wide_language (codes "en") [] ∷ []) (codes "http://A" ∷ [])
    ∷ wide_name [] (codes "http://B" ∷ [])
    ∷ wide_name (wide_language (codes "en-gb") (codes "gb" ∷ []) ∷ []) [] ∷ [])

abbrev wide_20 : Node
wide_20 = wide_document 20 (wide_links (10 ∷ 30 ∷ []) (80 ∷ []) ∷ []) (wide_name [] (codes "http://C" ∷ []) ∷ [])

pub document_file_is_wider : IsFileOf document_file wide_schema (leaves wide_schema.fields) (wide_10 ∷ wide_20 ∷ [])
unfolding file_bytes struct_bytes body_bytes hybrid_bytes footer_of read_struct page_triplets hybrid is_utf8 chars lib.Utf8.encode
document_file_is_wider = (footer_or (footer_of document_file), refl, refl, refl, (refl, refl, refl, refl, refl))

-- ---- wider schemas

pub wide_is_wider : (is_wider document wide_schema.fields ≡ true) × (is_wider wide_schema.fields document ≡ false) × (is_wider document document ≡ true)
wide_is_wider = (refl, refl, refl)

-- a required field more; another repetition; another kind; a group in the place of a leaf
abbrev only : List ℕ → Repetition → Shape → Fields
only n r s = field n r s no_fields

pub not_wider : map (is_wider (only (codes "a") required (leaf int64_kind))) (field (codes "q") required (leaf int64_kind) (only (codes "a") required (leaf int64_kind)) ∷ only (codes "a") optional (leaf int64_kind) ∷ only (codes "a") required (leaf text_kind)
    ∷ only (codes "a") required (group (only (codes "b") optional (leaf int64_kind))) ∷ no_fields ∷ field (codes "q") repeated (leaf int64_kind) (only (codes "a") required (leaf int64_kind)) ∷ []) ≡ false ∷ false ∷ false ∷ false ∷ false ∷ true ∷ []
not_wider = refl

pub records_widened : map (widened document wide_schema.fields) (record_10 ∷ record_20 ∷ []) ≡ wide_10 ∷ wide_20 ∷ []
records_widened = refl
