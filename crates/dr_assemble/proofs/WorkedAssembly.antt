-- Records of the columns of the worked records, by computation.
use Rattle.std.specs.Prelude.{◌≡◌, List, [], ◌∷◌, map, pos, Some, None, codes, refl}
use Rattle.std.specs.Str.{is_utf8, chars}
use Rattle.dr_meaning.specs.Path.{Step}
use Rattle.dr_meaning.specs.Record.{int_value, text_value, Node, no_slots, slot, gap, no_instances, project}
use Rattle.dr_meaning.specs.Column.{Triplet, triplet, column}
use Rattle.dr_meaning.proofs.WorkedSchemas.{document}
use Rattle.dr_meaning.proofs.WorkedRecords.{record_10, record_20, numbers}
use Rattle.dr_meaning.proofs.WorkedPaths.{doc_id, backward, forward, code, country, url}
use Rattle.dr_assemble.specs.Restoring.{strips}
use Rattle.dr_assemble.proofs.ByPaths.{restored_records}

abbrev records : List Node
records = record_10 ∷ record_20 ∷ []

abbrev six : List (List Step)
six = doc_id ∷ backward ∷ forward ∷ code ∷ country ∷ url ∷ []

-- all six columns give the records back
pub whole_records : restored_records document 2 (strips six (map (λ p. column p records) six)) ≡ Some records
unfolding is_utf8 chars lib.Utf8.encode
whole_records = refl

abbrev two : List (List Step)
two = doc_id ∷ country ∷ []

-- two columns, written out, give the projections; Name's instances without a country stay
pub projections : restored_records document 2 (strips two (
    (triplet 0 0 (Some (int_value (pos 10))) ∷ triplet 0 0 (Some (int_value (pos 20))) ∷ [])
    ∷ (triplet 0 3 (Some (text_value (codes "us"))) ∷ triplet 2 2 None ∷ triplet 1 1 None ∷ triplet 1 3 (Some (text_value (codes "gb"))) ∷ triplet 0 1 None ∷ [])
    ∷ [])) ≡ Some (map (project two) records)
unfolding is_utf8 chars lib.Utf8.encode
projections = refl

abbrev id_and_url : List (List Step)
id_and_url = doc_id ∷ url ∷ []

abbrev ten : List Triplet
ten = triplet 0 0 (Some (int_value (pos 10))) ∷ []

abbrev null : Triplet
null = triplet 0 0 None

-- {"DocId":10,"Name":[]}
abbrev no_names : Node
no_names = slot (numbers (10 ∷ [])) (gap (slot no_instances no_slots))

pub no_name : restored_records document 1 (strips id_and_url (ten ∷ (null ∷ []) ∷ [])) ≡ Some (no_names ∷ [])
no_name = refl

-- no rows; no columns
pub nothing : (restored_records document 0 (strips two ([] ∷ [] ∷ [])) ≡ Some []) × (restored_records document 2 [] ≡ Some (gap (gap (gap no_slots)) ∷ gap (gap (gap no_slots)) ∷ []))
nothing = (refl, refl)
