-- Paths, chains, levels and projections of the worked schema, by computation.
use Rattle.std.specs.Prelude.{◌≡◌, ℕ, List, [], ◌∷◌, map, true, false, Option, Some, None, Ok, Err, codes, refl}
use Rattle.std.specs.Fmt.{digits}
use Rattle.json.specs.Print.{escape_byte}
use Rattle.std.specs.List.{list_all}
use Rattle.std.specs.Str.{is_utf8, chars}
use Rattle.dr_meaning.specs.Schema.{Repetition, text_kind, required, optional, repeated, is_schema}
use Rattle.dr_meaning.specs.Path.{Step, Leaf, Found, find_path, find_leaf, unknown_field, not_a_leaf, cut_at_dots, chain, chain_end, common, max_repetition, max_definition, is_leaf_path, leaves}
use Rattle.dr_meaning.specs.Record.{is_record, project}
use Rattle.dr_meaning.specs.Print.{record_text}
use Rattle.dr_meaning.proofs.WorkedSchemas.{document, document_schema}
use Rattle.dr_meaning.proofs.WorkedRecords.{record_10, record_20, record_30}

abbrev found_path : Option Found → List Step
found_path None = []
found_path (Some f) = f.path

-- the path of a field of the worked schema, by its name
abbrev pub path : List ℕ → List Step
path name = found_path (find_path (cut_at_dots name) document)

abbrev pub doc_id : List Step
doc_id = path (codes "DocId")

abbrev pub backward : List Step
backward = path (codes "Links.Backward")

abbrev pub forward : List Step
forward = path (codes "Links.Forward")

abbrev pub name : List Step
name = path (codes "Name")

abbrev pub language_level : List Step
language_level = path (codes "Name.Language")

abbrev pub code : List Step
code = path (codes "Name.Language.Code")

abbrev pub country : List Step
country = path (codes "Name.Language.Country")

abbrev pub url : List Step
url = path (codes "Name.Url")

pub six_leaves : map (λ (l : Leaf). l.path) (leaves document) ≡ doc_id ∷ backward ∷ forward ∷ code ∷ country ∷ url ∷ []
six_leaves = refl

pub no_such_field : find_path (cut_at_dots (codes "Name.Country")) document ≡ None
no_such_field = refl

pub found_code : find_leaf (codes "Name.Language.Code") document ≡ Ok (record { names = codes "Name" ∷ codes "Language" ∷ codes "Code" ∷ []; path = code; kind = text_kind })
found_code = refl

-- a group is no leaf; a leaf has no fields; names are told apart by case; an empty part names nothing
pub not_leaves : (find_leaf (codes "Name.Language") document ≡ Err not_a_leaf) × (find_leaf (codes "DocId.x") document ≡ Err unknown_field)
    × (find_leaf (codes "docid") document ≡ Err unknown_field) × (find_leaf (codes "Name.") document ≡ Err unknown_field) × (find_leaf [] document ≡ Err unknown_field)
not_leaves = (refl, refl, refl, refl, refl)

pub country_path : country ≡ record { place = 2; repetition = repeated } ∷ record { place = 0; repetition = repeated } ∷ record { place = 1; repetition = optional } ∷ []
country_path = refl

pub country_chain : chain country ≡ name ∷ language_level ∷ []
country_chain = refl

pub country_level : chain_end country ≡ language_level
country_level = refl

pub country_levels : (max_repetition country ≡ 2) × (max_definition country ≡ 3) × (common country url ≡ 1) × (common country country ≡ 2) × (common country doc_id ≡ 0)
country_levels = (refl, refl, refl, refl, refl)

pub document_is_schema : is_schema document_schema ≡ true
document_is_schema = refl

pub are_records : list_all (is_record document) (record_10 ∷ record_20 ∷ record_30 ∷ []) ≡ true
unfolding is_utf8 chars lib.Utf8.encode
are_records = refl

-- ---- projection to DocId and Country

pub projected_10 : record_text document (project (doc_id ∷ country ∷ []) record_10) ≡ codes "{\"DocId\":10,\"Name\":[{\"Language\":[{\"Country\":\"us\"},{}]},{\"Language\":[]},{\"Language\":[{\"Country\":\"gb\"}]}]}\n"
unfolding record_text escape_byte digits
projected_10 = refl

pub projected_20 : record_text document (project (doc_id ∷ country ∷ []) record_20) ≡ codes "{\"DocId\":20,\"Name\":[{\"Language\":[]}]}\n"
unfolding record_text escape_byte digits
projected_20 = refl

-- to no leaf: the record without fields
pub projected_to_none : record_text document (project [] record_10) ≡ codes "{}\n"
unfolding record_text escape_byte digits
projected_to_none = refl

-- a record's text; an absent repeated field is an empty list, an absent optional one isn't printed
pub text_30 : record_text document record_30 ≡ codes "{\"DocId\":30,\"Name\":[]}\n"
unfolding record_text escape_byte digits
text_30 = refl

-- ---- which paths are those of leaves

abbrev pub step : ℕ → Repetition → Step
step i r = record { place = i; repetition = r }

-- the six leaves; not a group, nor a path that goes on behind a leaf, nor one to a place that isn't there, nor the empty one
pub leaf_paths : (map (is_leaf_path document) (doc_id ∷ backward ∷ forward ∷ code ∷ country ∷ url ∷ []) ≡ true ∷ true ∷ true ∷ true ∷ true ∷ true ∷ [])
    × (map (is_leaf_path document) (name ∷ language_level ∷ (step 0 required ∷ step 0 required ∷ []) ∷ (step 3 required ∷ []) ∷ [] ∷ []) ≡ false ∷ false ∷ false ∷ false ∷ false ∷ [])
leaf_paths = (refl, refl)

-- nor one of another repetition, at each step
pub other_repetitions : map (λ r. is_leaf_path document (step 0 r ∷ [])) (required ∷ optional ∷ repeated ∷ []) ≡ true ∷ false ∷ false ∷ []
other_repetitions = refl

pub repetitions_on_path : (map (λ r. is_leaf_path document (step 1 r ∷ step 0 repeated ∷ [])) (required ∷ optional ∷ repeated ∷ []) ≡ false ∷ true ∷ false ∷ [])
    × (map (λ r. is_leaf_path document (step 1 optional ∷ step 0 r ∷ [])) (required ∷ optional ∷ repeated ∷ []) ≡ false ∷ false ∷ true ∷ [])
repetitions_on_path = (refl, refl)

-- the common level of a path and its own front, either way; of the empty path
pub fronts : (common country name ≡ 1) × (common name country ≡ 1) × (common [] country ≡ 0) × (common country [] ≡ 0) × (common code url ≡ 1) × (common backward forward ≡ 0)
fronts = (refl, refl, refl, refl, refl, refl)
