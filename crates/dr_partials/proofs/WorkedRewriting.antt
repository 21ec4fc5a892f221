-- The queries of leaf servers, intermediate servers and the root, by computation.
use Rattle.std.specs.Prelude.{◌≡◌, ℕ, zero, suc, List, [], ◌∷◌, pos, Some, None, codes, refl}
use Rattle.std.specs.Fmt.{digits}
use Rattle.dr_meaning.specs.Schema.{optional}
use Rattle.dr_meaning.specs.Path.{Step}
use Rattle.dr_meaning.specs.Record.{Node, int_value, text_value}
use Rattle.dr_meaning.specs.Expression.{path_value}
use Rattle.dr_meaning.specs.Query.{count, sum, least, greatest, GroupTerm, key, count_rows, aggregate, GroupItem, Query, groups, no_entries, cell, meaning}
use Rattle.dr_meaning.proofs.WorkedSchemas.{document}
use Rattle.dr_meaning.proofs.WorkedRecords.{record_10, record_20, record_30}
use Rattle.dr_meaning.proofs.WorkedPaths.{doc_id, code, country, url}
use Rattle.dr_partials.specs.Trees.{Tree, leaf_server, intermediate_server, no_trees, next_tree}
use Rattle.dr_partials.specs.Rewriting.{leaf_query, concatenated, by_query, inner_query, root_query, tree_answer, root_answer}
use Rattle.dr_partials.proofs.WorkedPartials.{totals, by_country, of_each}

abbrev item : List ℕ → GroupTerm → GroupItem
item n t = record { name = n; term = t }

-- SELECT Name.Language.Country AS k0, COUNT(*) AS a0, MIN(Name.Language.Code) AS a1, MAX(Name.Language.Code) AS a2, COUNT(DocId) AS a3 FROM tablet
-- GROUP BY Name.Language.Country
pub leaf_by_country : leaf_query by_country ≡ record {
  condition = None;
  selection = groups (country ∷ []) (item (codes "k0") (key 0) ∷ item (codes "a0") count_rows ∷ item (codes "a1") (aggregate least (path_value code))
      ∷ item (codes "a2") (aggregate greatest (path_value code)) ∷ item (codes "a3") (aggregate count (path_value doc_id)) ∷ []);
}
unfolding leaf_query digits
leaf_by_country = refl

abbrev col : ℕ → List Step
col i = record { place = i; repetition = optional } ∷ []

-- SELECT k0, SUM(a0) AS a0, MIN(a1) AS a1, MAX(a2) AS a2, SUM(a3) AS a3 FROM children GROUP BY k0
pub inner_by_country : inner_query by_country ≡ by_query (record {
  condition = None;
  selection = groups (col 0 ∷ []) (item (codes "k0") (key 0) ∷ item (codes "a0") (aggregate sum (path_value (col 1))) ∷ item (codes "a1") (aggregate least (path_value (col 2)))
      ∷ item (codes "a2") (aggregate greatest (path_value (col 3))) ∷ item (codes "a3") (aggregate sum (path_value (col 4))) ∷ []);
})
unfolding inner_query digits
inner_by_country = refl

-- SELECT SUM(a0) AS n, k0 AS c, MIN(a1) AS l, MAX(a2) AS g, SUM(a3) AS d FROM children GROUP BY k0
pub root_by_country : root_query by_country ≡ by_query (record {
  condition = None;
  selection = groups (col 0 ∷ []) (item (codes "n") (aggregate sum (path_value (col 1))) ∷ item (codes "c") (key 0) ∷ item (codes "l") (aggregate least (path_value (col 2)))
      ∷ item (codes "g") (aggregate greatest (path_value (col 3))) ∷ item (codes "d") (aggregate sum (path_value (col 4))) ∷ []);
})
unfolding root_query
root_by_country = refl

-- two keys: the aggregates stand in the columns behind both
abbrev by_two : Query
by_two = record { condition = None; selection = groups (url ∷ doc_id ∷ []) (item (codes "d") (key 1) ∷ item (codes "s") (aggregate sum (path_value doc_id)) ∷ item (codes "u") (key 0) ∷ []) }

pub root_by_two : root_query by_two ≡ by_query (record {
  condition = None;
  selection = groups (col 0 ∷ col 1 ∷ []) (item (codes "d") (key 1) ∷ item (codes "s") (aggregate sum (path_value (col 2))) ∷ item (codes "u") (key 0) ∷ []);
})
unfolding root_query
root_by_two = refl

pub leaf_by_two : leaf_query by_two ≡ record { condition = None; selection = groups (url ∷ doc_id ∷ []) (item (codes "k0") (key 0) ∷ item (codes "k1") (key 1) ∷ item (codes "a0") (aggregate sum (path_value doc_id)) ∷ []) }
unfolding leaf_query digits
leaf_by_two = refl

-- a record query is its own leaf query, and its lines stand one behind another
pub of_each_rewritten : (leaf_query of_each ≡ of_each) × (inner_query of_each ≡ concatenated) × (root_query of_each ≡ concatenated)
unfolding leaf_query inner_query root_query
of_each_rewritten = (refl, refl, refl)

-- ---- over three tablets of one record each, two below one server

abbrev tablet_records : ℕ → List Node
tablet_records zero = record_10 ∷ []
tablet_records (suc zero) = record_20 ∷ []
tablet_records (suc (suc t)) = record_30 ∷ []

abbrev three : Tree
three = intermediate_server (intermediate_server (leaf_server 0) (next_tree (leaf_server 1) no_trees)) (next_tree (intermediate_server (leaf_server 2) no_trees) no_trees)

pub by_country_answered : tree_answer document by_country tablet_records three ≡
    cell (codes "k0") None (cell (codes "a0") (Some (int_value (pos 4))) (cell (codes "a1") (Some (text_value (codes "en"))) (cell (codes "a2") (Some (text_value (codes "en"))) (cell (codes "a3") (Some (int_value (pos 4))) no_entries))))
    ∷ cell (codes "k0") (Some (text_value (codes "gb"))) (cell (codes "a0") (Some (int_value (pos 1))) (cell (codes "a1") (Some (text_value (codes "en-gb"))) (cell (codes "a2") (Some (text_value (codes "en-gb"))) (cell (codes "a3") (Some (int_value (pos 1))) no_entries))))
    ∷ cell (codes "k0") (Some (text_value (codes "us"))) (cell (codes "a0") (Some (int_value (pos 1))) (cell (codes "a1") (Some (text_value (codes "en-us"))) (cell (codes "a2") (Some (text_value (codes "en-us"))) (cell (codes "a3") (Some (int_value (pos 1))) no_entries))))
    ∷ []
unfolding leaf_query inner_query meaning digits
by_country_answered = refl

pub by_country_at_root : root_answer document by_country tablet_records three ≡ meaning document by_country (record_10 ∷ record_20 ∷ record_30 ∷ [])
unfolding leaf_query inner_query root_query meaning digits
by_country_at_root = refl

-- COUNT of a tablet without names is 0, and stays a number; SUM of nothing beside SUM of something
pub totals_at_root : root_answer document totals tablet_records three ≡ cell (codes "r") (Some (int_value (pos 3))) (cell (codes "u") (Some (int_value (pos 3))) (cell (codes "s") (Some (int_value (pos 200))) no_entries)) ∷ []
unfolding leaf_query inner_query root_query meaning digits
totals_at_root = refl

-- the same of three tablets without records
pub totals_of_none : root_answer document totals (λ t. []) three ≡ cell (codes "r") (Some (int_value (pos 0))) (cell (codes "u") (Some (int_value (pos 0))) (cell (codes "s") None no_entries)) ∷ []
unfolding leaf_query inner_query root_query meaning digits
totals_of_none = refl

pub lines_at_root : root_answer document of_each tablet_records three ≡ meaning document of_each (record_10 ∷ record_20 ∷ record_30 ∷ [])
unfolding leaf_query inner_query root_query meaning
lines_at_root = refl
