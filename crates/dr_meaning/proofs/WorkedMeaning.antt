-- Leaves that are enough for a query and leaves that aren't, by computation.
use Rattle.std.specs.Prelude.{◌≡◌, ℕ, List, [], ◌∷◌, map, pos, true, false, Some, None, codes, refl}
use Rattle.std.specs.Fmt.{digits}
use Rattle.json.specs.Print.{escape_byte}
use Rattle.dr_meaning.specs.Path.{Step}
use Rattle.dr_meaning.specs.Record.{int_value, project}
use Rattle.dr_meaning.specs.Expression.{constant, path_value, comparison, less}
use Rattle.dr_meaning.specs.Query.{count, within, Query, objects, meaning}
use Rattle.dr_meaning.specs.Print.{result_text}
use Rattle.dr_meaning.specs.MeaningLaws.{covers}
use Rattle.dr_meaning.proofs.WorkedSchemas.{document}
use Rattle.dr_meaning.proofs.WorkedRecords.{record_10}
use Rattle.dr_meaning.proofs.WorkedPaths.{doc_id, name, code, url}

-- SELECT COUNT(Name.Language.Code) WITHIN Name AS n FROM Document WHERE DocId < 20
abbrev codes_of_names : Query
codes_of_names = record {
  condition = Some (comparison less (path_value doc_id) (constant (int_value (pos 20))));
  selection = objects (record { name = codes "n"; term = within count (path_value code) name } ∷ []);
}

pub enough : covers (doc_id ∷ code ∷ []) codes_of_names ≡ true
enough = refl

pub without_condition : covers (code ∷ url ∷ []) codes_of_names ≡ false
without_condition = refl

pub without_item : covers (doc_id ∷ url ∷ []) codes_of_names ≡ false
without_item = refl

-- SELECT COUNT(1) WITHIN Name AS n FROM Document: no path of an expression, but an object for each name
abbrev each_name : Query
each_name = record {
  condition = None;
  selection = objects (record { name = codes "n"; term = within count (constant (int_value (pos 1))) name } ∷ []);
}

abbrev answer : List (List Step) → List ℕ
answer F = result_text (meaning document each_name (map (project F) (record_10 ∷ [])))

pub any_leaf_of_name : covers (url ∷ []) each_name ≡ true
any_leaf_of_name = refl

pub no_leaf_of_name : covers (doc_id ∷ []) each_name ≡ false
no_leaf_of_name = refl

pub with_names : answer (url ∷ []) ≡ result_text (meaning document each_name (record_10 ∷ []))
unfolding result_text meaning escape_byte digits
with_names = refl

-- such leaves do change what it means
pub without_names : answer (doc_id ∷ []) ≡ codes "{\"Name\":[]}\n"
unfolding result_text meaning escape_byte digits
without_names = refl
