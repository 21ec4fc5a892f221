-- The lines that tell a query's rewriting, by computation; and that the leaf line is a query's text, of the leaf query.
use Rattle.std.specs.Prelude.{◌≡◌, ℕ, List, [], ◌∷◌, ◌++◌, true, false, pos, Option, Some, None, codes, refl, Ok, Err, Result}
use Rattle.std.specs.Fmt.{digits}
use Rattle.std.specs.Str.{is_utf8, chars}
use Rattle.dr_meaning.specs.Schema.{Fields, no_fields, field, leaf, group, Schema, required, repeated, optional, int64_kind, text_kind}
use Rattle.dr_meaning.specs.Path.{Step}
use Rattle.dr_meaning.specs.Record.{bool_value, int_value, text_value}
use Rattle.dr_meaning.specs.Expression.{Expression, constant, path_value, negative, arithmetic, plus, minus, times, comparison, equal, unequal, less, at_most, greater, at_least, like, contains, is_null, negation, conjunction, disjunction}
use Rattle.dr_meaning.specs.Query.{count, sum, least as least_value, greatest as greatest_value, expression, within, GroupItem, GroupTerm, key, count_rows, aggregate, Query, objects, groups}
use Rattle.dr_meaning.specs.Syntax.{QuerySyntax}
use Rattle.dr_meaning.specs.Parse.{parse_query, QueryFault, items, whole_expression, argument, keys}
use Rattle.dr_meaning.specs.BoundExpression.{BindFault}
use Rattle.dr_meaning.specs.Binding.{bind}
use Rattle.dr_meaning.proofs.WorkedSchemas.{document}
use Rattle.dr_meaning.proofs.WorkedPaths.{doc_id, forward, name, code, country, url}
use Rattle.dr_partials.specs.Rewriting.{leaf_query}
use Rattle.dr_partials.specs.RewritingText.{name_text, path_text, text_literal, expression_text, leaf_text, rewriting_text}

abbrev item : List ℕ → GroupTerm → GroupItem
item n t = record { name = n; term = t }

abbrev line : List ℕ → List ℕ
line t = t ++ 10 ∷ []

-- SELECT Name.Language.Country, COUNT(DocId) AS n FROM Document GROUP BY Name.Language.Country
abbrev by_country : Query
by_country = record { condition = None; selection = groups (country ∷ []) (item (codes "Name.Language.Country") (key 0) ∷ item (codes "n") (aggregate count (path_value doc_id)) ∷ []) }

pub lines_of_groups : rewriting_text document by_country ≡
    line (codes "leaf: SELECT Name.Language.Country AS k0, COUNT(DocId) AS a0 FROM tablet GROUP BY Name.Language.Country")
    ++ (line (codes "inner: SELECT k0, SUM(a0) AS a0 FROM children GROUP BY k0") ++ line (codes "root: SELECT k0 AS \"Name.Language.Country\", SUM(a0) AS \"n\" FROM children GROUP BY k0"))
unfolding rewriting_text digits
lines_of_groups = refl

-- SELECT MAX(DocId) AS m, Name.Url AS u, COUNT(*) AS r, MIN(DocId) AS l, DocId AS d, SUM(Links.Forward) AS s FROM Document WHERE DocId <= 20 GROUP BY Name.Url, DocId:
-- keys in the order of GROUP BY, aggregates in that of SELECT
abbrev by_two : Query
by_two = record {
  condition = Some (comparison at_most (path_value doc_id) (constant (int_value (pos 20))));
  selection = groups (url ∷ doc_id ∷ []) (item (codes "m") (aggregate greatest_value (path_value doc_id)) ∷ item (codes "u") (key 0) ∷ item (codes "r") count_rows
      ∷ item (codes "l") (aggregate least_value (path_value doc_id)) ∷ item (codes "d") (key 1) ∷ item (codes "s") (aggregate sum (path_value doc_id)) ∷ []);
}

pub lines_of_two_keys : rewriting_text document by_two ≡
    line (codes "leaf: SELECT Name.Url AS k0, DocId AS k1, MAX(DocId) AS a0, COUNT(*) AS a1, MIN(DocId) AS a2, SUM(DocId) AS a3 FROM tablet WHERE (DocId <= 20) GROUP BY Name.Url, DocId")
    ++ (line (codes "inner: SELECT k0, k1, MAX(a0) AS a0, SUM(a1) AS a1, MIN(a2) AS a2, SUM(a3) AS a3 FROM children GROUP BY k0, k1")
    ++ line (codes "root: SELECT MAX(a0) AS \"m\", k0 AS \"u\", SUM(a1) AS \"r\", MIN(a2) AS \"l\", k1 AS \"d\", SUM(a3) AS \"s\" FROM children GROUP BY k0, k1"))
unfolding rewriting_text digits
lines_of_two_keys = refl

-- SELECT COUNT(*) AS r FROM Document
pub lines_without_keys : rewriting_text document (record { condition = None; selection = groups [] (item (codes "r") count_rows ∷ []) }) ≡
    line (codes "leaf: SELECT COUNT(*) AS a0 FROM tablet") ++ (line (codes "inner: SELECT SUM(a0) AS a0 FROM children") ++ line (codes "root: SELECT SUM(a0) AS \"r\" FROM children"))
unfolding rewriting_text digits
lines_without_keys = refl

-- a record query: SELECT DocId, COUNT(Name.Language.Code) WITHIN Name AS c, SUM(Links.Forward) WITHIN RECORD AS s FROM Document WHERE Name.Url LIKE 'http%'
abbrev of_each : Query
of_each = record {
  condition = Some (like (path_value url) (codes "http%"));
  selection = objects (record { name = codes "DocId"; term = expression (path_value doc_id) } ∷ record { name = codes "c"; term = within count (path_value code) name }
      ∷ record { name = codes "s"; term = within sum (path_value forward) [] } ∷ []);
}

pub lines_of_records : rewriting_text document of_each ≡
    line (codes "leaf: SELECT DocId AS \"DocId\", COUNT(Name.Language.Code) WITHIN Name AS \"c\", SUM(Links.Forward) WITHIN RECORD AS \"s\" FROM tablet WHERE (Name.Url LIKE 'http%')")
    ++ (line (codes "inner: CONCAT children") ++ line (codes "root: CONCAT children"))
unfolding rewriting_text digits
lines_of_records = refl

-- ---- expressions

abbrev shown : Expression → List ℕ
shown e = expression_text (path_text document) e

abbrev number : ℕ → Expression
number n = constant (int_value (pos n))

abbrev truth : Expression
truth = constant (bool_value true)

pub literals : (shown (number 7) ≡ codes "7") × (shown truth ≡ codes "TRUE") × (shown (constant (bool_value false)) ≡ codes "FALSE") × (shown (constant (text_value (codes "it's"))) ≡ codes "'it''s'") × (text_literal [] ≡ codes "''")
unfolding digits
literals = (refl, refl, refl, refl, refl)

pub operators : (shown (arithmetic plus (number 1) (arithmetic minus (number 2) (arithmetic times (number 3) (negative (number 4))))) ≡ codes "(1 + (2 - (3 * (-4))))")
    × (shown (conjunction (negation truth) (disjunction (is_null (path_value url)) truth)) ≡ codes "((NOT TRUE) AND ((Name.Url IS NULL) OR TRUE))")
    × (shown (contains (path_value url) (codes "a'b")) ≡ codes "(Name.Url CONTAINS 'a''b')")
unfolding digits
operators = (refl, refl, refl)

pub comparisons : (shown (comparison equal (number 1) (number 2)) ≡ codes "(1 = 2)") × (shown (comparison unequal (number 1) (number 2)) ≡ codes "(1 <> 2)") × (shown (comparison less (number 1) (number 2)) ≡ codes "(1 < 2)")
    × (shown (comparison greater (number 1) (number 2)) ≡ codes "(1 > 2)") × (shown (comparison at_least (number 1) (number 2)) ≡ codes "(1 >= 2)")
unfolding digits
comparisons = (refl, refl, refl, refl, refl)

-- ---- names: a reserved word, in whatever case, stands in double quotes

pub reserved_names : (name_text (codes "Group") ≡ codes "\"Group\"") × (name_text (codes "groups") ≡ codes "groups") × (name_text (codes "max") ≡ codes "\"max\"")
reserved_names = (refl, refl, refl)

abbrev with_reserved : Fields
with_reserved = field (codes "a") required (leaf int64_kind) (field (codes "From") repeated (group (field (codes "x") optional (leaf int64_kind) (field (codes "null") optional (leaf text_kind) no_fields))) no_fields)

abbrev null_path : List Step
null_path = record { place = 1; repetition = repeated } ∷ record { place = 1; repetition = optional } ∷ []

pub reserved_path : path_text with_reserved null_path ≡ codes "\"From\".\"null\""
reserved_path = refl

-- ---- the leaf line, read again as the text of a query over the message `tablet`, is the leaf query

abbrev read_in : Schema → Result QuerySyntax QueryFault → Option Query
read_in s (Ok q) = bound (bind s q)
  where
    bound : Result Query BindFault → Option Query
    bound (Ok b) = Some b
    bound (Err f) = None
read_in s (Err f) = None

abbrev read_again : Fields → Query → Option Query
read_again fs q = read_in (record { name = codes "tablet"; fields = fs }) (parse_query (leaf_text (path_text fs) q.condition q.selection))

pub groups_read_again : read_again document by_country ≡ Some (leaf_query by_country)
unfolding leaf_query parse_query bind is_utf8 chars digits items whole_expression argument keys
groups_read_again = refl

pub keys_read_again : read_again document by_two ≡ Some (leaf_query by_two)
unfolding leaf_query parse_query bind is_utf8 chars digits items whole_expression argument keys
keys_read_again = refl

pub records_read_again : read_again document of_each ≡ Some (leaf_query of_each)
unfolding leaf_query parse_query bind is_utf8 chars digits items whole_expression argument keys
records_read_again = refl

-- SELECT SUM(a) AS s FROM T WHERE "From"."null" CONTAINS 'it''s' GROUP BY "From"."null", with reserved names
abbrev of_reserved : Query
of_reserved = record {
  condition = Some (conjunction (contains (path_value null_path) (codes "it's")) (negation (comparison less (path_value (record { place = 0; repetition = required } ∷ [])) (negative (number 3)))));
  selection = groups (null_path ∷ []) (item (codes "s") (aggregate sum (path_value (record { place = 0; repetition = required } ∷ []))) ∷ item (codes "k") (key 0) ∷ []);
}

pub reserved_read_again : read_again with_reserved of_reserved ≡ Some (leaf_query of_reserved)
unfolding leaf_query parse_query bind is_utf8 chars digits items whole_expression argument keys
reserved_read_again = refl
