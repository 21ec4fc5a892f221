-- The schema of made records, with the text of it and of the query that a trial asks.
use Rattle.std.specs.Prelude.{ℕ, List, codes}
use Rattle.dr_meaning.specs.Schema.{Fields, no_fields, field, leaf, group, required, optional, repeated, int64_kind, text_kind}

abbrev pub language_fields : Fields
language_fields =
    field (codes "Code") required (leaf text_kind)
    (field (codes "Country") optional (leaf text_kind) no_fields)

abbrev pub name_fields : Fields
name_fields =
    field (codes "Language") repeated (group language_fields)
    (field (codes "Url") optional (leaf text_kind) no_fields)

abbrev pub links_fields : Fields
links_fields =
    field (codes "Backward") repeated (leaf int64_kind)
    (field (codes "Forward") repeated (leaf int64_kind) no_fields)

-- the fields of a made record
abbrev pub document_fields : Fields
document_fields =
    field (codes "DocId") required (leaf int64_kind)
    (field (codes "Links") optional (group links_fields)
    (field (codes "Name") repeated (group name_fields) no_fields))

-- their schema, as a text
abbrev pub document_text : List ℕ
document_text = codes "message Document { required int64 DocId; optional group Links { repeated int64 Backward; repeated int64 Forward; } repeated group Name { repeated group Language { required string Code; optional string Country; } optional string Url; } }"

-- the query of a trial
abbrev pub trial_query : List ℕ
trial_query = codes "SELECT COUNT(*) AS records, COUNT(Name.Language.Code) AS codes, COUNT(Name.Url) AS urls, SUM(Links.Forward) AS forward, MAX(DocId) AS last FROM Document"
