-- The queries of leaf servers, intermediate servers and the root as texts of their own, by computation.
use Rattle.std.specs.Prelude.{◌≡◌, ℕ, List, [], ◌∷◌, ◌++◌, Option, Some, None, codes, refl}
use Rattle.std.specs.Fmt.{digits}
use Rattle.dr_meaning.specs.Schema.{Fields, no_fields, field, leaf, optional, int64_kind, text_kind}
use Rattle.dr_meaning.specs.Query.{Query}
use Rattle.dr_meaning.specs.Parse.{parse_query, items, keys, whole_expression, argument}
use Rattle.dr_meaning.specs.Binding.{bind}
use Rattle.dr_partials.specs.Rewriting.{Merging, concatenated, by_query, leaf_query, inner_query, root_query}
use Rattle.dr_partials.specs.RewritingText.{rewriting_text}
use Rattle.dr_meaning.proofs.WorkedSchemas.{document}
use Rattle.dr_vectors.proofs.BoundQueries.{query_of}

-- message Row { optional string k0; optional string a0; optional int64 a1; }: the columns of the rows that leaf servers give
abbrev columns : Fields
columns = field (codes "k0") optional (leaf text_kind) (field (codes "a0") optional (leaf text_kind) (field (codes "a1") optional (leaf int64_kind) no_fields))

abbrev line : List ℕ → List ℕ
line t = t ++ 10 ∷ []

abbrev lines_of : Fields → Option Query → List ℕ
lines_of fs None = []
lines_of fs (Some q) = rewriting_text fs q

-- the query that merges, as such lines
abbrev merging_lines : Merging → List ℕ
merging_lines concatenated = codes "one behind another"
merging_lines (by_query q) = rewriting_text columns q

abbrev lines_of_leaf : Option Query → List ℕ
lines_of_leaf None = []
lines_of_leaf (Some q) = rewriting_text document (leaf_query q)

abbrev lines_of_inner : Option Query → List ℕ
lines_of_inner None = []
lines_of_inner (Some q) = merging_lines (inner_query q)

abbrev lines_of_root : Option Query → List ℕ
lines_of_root None = []
lines_of_root (Some q) = merging_lines (root_query q)

-- ---- groups are merged by queries

abbrev greatest_codes : List ℕ
greatest_codes = codes "SELECT MAX(Name.Language.Code) AS m, Name.Language.Country, COUNT(DocId) AS n FROM Document WHERE DocId <= 20 GROUP BY Name.Language.Country"

abbrev inner_line : List ℕ
inner_line = line (codes "inner: SELECT k0, MAX(a0) AS a0, SUM(a1) AS a1 FROM children GROUP BY k0")

abbrev own_root_line : List ℕ
own_root_line = line (codes "root: SELECT k0 AS \"k0\", MAX(a0) AS \"a0\", SUM(a1) AS \"a1\" FROM children GROUP BY k0")

pub of_an_inner_server : lines_of_inner (query_of greatest_codes) ≡
    line (codes "leaf: SELECT k0 AS k0, MAX(a0) AS a0, SUM(a1) AS a1 FROM tablet GROUP BY k0") ++ (inner_line ++ own_root_line)
unfolding bind parse_query items keys whole_expression argument inner_query rewriting_text digits
of_an_inner_server = refl

pub of_the_root : lines_of_root (query_of greatest_codes) ≡
    line (codes "leaf: SELECT k0 AS k0, MAX(a0) AS a0, SUM(a1) AS a1 FROM tablet GROUP BY k0")
    ++ (inner_line ++ line (codes "root: SELECT MAX(a0) AS \"m\", k0 AS \"Name.Language.Country\", SUM(a1) AS \"n\" FROM children GROUP BY k0"))
unfolding bind parse_query items keys whole_expression argument root_query rewriting_text digits
of_the_root = refl

pub of_a_leaf_server : lines_of_leaf (query_of greatest_codes) ≡
    line (codes "leaf: SELECT Name.Language.Country AS k0, MAX(Name.Language.Code) AS a0, COUNT(DocId) AS a1 FROM tablet WHERE (DocId <= 20) GROUP BY Name.Language.Country")
    ++ (inner_line ++ own_root_line)
unfolding bind parse_query items keys whole_expression argument leaf_query rewriting_text digits
of_a_leaf_server = refl

-- ---- objects stand one behind another

abbrev of_each_record : List ℕ
of_each_record = codes "SELECT DocId, COUNT(Name.Url) WITHIN RECORD AS c FROM Document WHERE DocId <= 20"

pub of_objects : (lines_of_inner (query_of of_each_record) ≡ codes "one behind another") × (lines_of_root (query_of of_each_record) ≡ codes "one behind another")
    × (lines_of_leaf (query_of of_each_record) ≡ lines_of document (query_of of_each_record))
unfolding bind parse_query items keys whole_expression argument inner_query root_query leaf_query
of_objects = (refl, refl, refl)
