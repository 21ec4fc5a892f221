-- Schema text, by computation.
use Rattle.std.specs.Prelude.{◌≡◌, ℕ, List, [], ◌∷◌, ◌++◌, Ok, Err, codes, refl}
use Rattle.dr_meaning.specs.Schema.{Fields, no_fields, field, leaf, group, Schema, required, optional, repeated, int64_kind, text_kind}
use Rattle.dr_meaning.specs.SchemaText.{parse_schema, schema_text, empty_group, float_kind}

-- the schema of the worked examples
abbrev pub document_text : List ℕ
document_text = codes "message Document { required int64 DocId; optional group Links { repeated int64 Backward; repeated int64 Forward; } repeated group Name { repeated group Language { required string Code; optional string Country; } optional string Url; } }"

abbrev pub language : Fields
language = field (codes "Code") required (leaf text_kind) (field (codes "Country") optional (leaf text_kind) no_fields)

abbrev pub document : Fields
document = field (codes "DocId") required (leaf int64_kind)
    (field (codes "Links") optional (group (field (codes "Backward") repeated (leaf int64_kind) (field (codes "Forward") repeated (leaf int64_kind) no_fields)))
    (field (codes "Name") repeated (group (field (codes "Language") repeated (group language) (field (codes "Url") optional (leaf text_kind) no_fields))) no_fields))

abbrev pub document_schema : Schema
document_schema = record { name = codes "Document"; fields = document }

pub document_reads : parse_schema document_text ≡ Ok document_schema
unfolding parse_schema
document_reads = refl

pub document_prints : schema_text document_schema ≡ document_text ++ 10 ∷ []
unfolding schema_text
document_prints = refl

pub no_field : parse_schema (codes "message T { }") ≡ Err (record { place = 12; problem = empty_group })
unfolding parse_schema
no_field = refl

pub a_float : parse_schema (codes "message T { required double x; }") ≡ Err (record { place = 21; problem = float_kind })
unfolding parse_schema
a_float = refl
