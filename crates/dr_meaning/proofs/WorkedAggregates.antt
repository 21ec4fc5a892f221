-- Aggregates, groups, lists and levels, by computation.
use Rattle.std.specs.Prelude.{◌≡◌, ℕ, List, [], ◌∷◌, ◌++◌, map, Bool, true, false, pos, neg_ℤ, Option, Some, None, codes, refl}
use Rattle.std.specs.declared.cmp.Ordering.TheVariants.{Less, Equal, Greater}
use Rattle.std.specs.Fmt.{digits}
use Rattle.json.specs.Print.{escape_byte}
use Rattle.dr_meaning.specs.Path.{Step}
use Rattle.dr_meaning.specs.Record.{Value, bool_value, int_value, text_value, Node}
use Rattle.dr_meaning.specs.Expression.{Expression, constant, path_value, comparison, less, greater, is_null, negation}
use Rattle.dr_meaning.specs.Query.{count, sum, least, greatest, RecordItem, expression, within, GroupItem, GroupTerm, key, count_rows, aggregate, Query, objects, groups, meaning, aggregated, cell_order, tuple_order, no_levels, deeper, levels_of}
use Rattle.dr_meaning.specs.Print.{result_text}
use Rattle.dr_meaning.proofs.WorkedSchemas.{document}
use Rattle.dr_meaning.proofs.WorkedRecords.{record_10, record_20, record_30}
use Rattle.dr_meaning.proofs.WorkedPaths.{doc_id, backward, forward, name, language_level, code, country, url}

abbrev line : List ℕ → List ℕ
line t = codes "{" ++ (t ++ codes "}\n")

abbrev answer : Query → List Node → List ℕ
answer q ns = result_text (meaning document q ns)

abbrev all : List Node
all = record_10 ∷ record_20 ∷ record_30 ∷ []

abbrev path : List Step → Expression
path p = path_value p

abbrev number : ℕ → Expression
number n = constant (int_value (pos n))

abbrev item : List ℕ → Expression → RecordItem
item n e = record { name = n; term = expression e }

abbrev total : List ℕ → GroupTerm → GroupItem
total n t = record { name = n; term = t }

abbrev by : List (List Step) → List GroupItem → Query
by keys items = record { condition = None; selection = groups keys items }

abbrev of_each : List RecordItem → Query
of_each items = record { condition = None; selection = objects items }

-- ---- aggregates of values

abbrev truth : Bool → Value
truth b = bool_value b

abbrev whole : ℕ → Value
whole n = int_value (pos n)

abbrev text : List ℕ → Value
text t = text_value t

-- COUNT of nothing is 0; SUM, MIN and MAX of nothing are NULL
pub of_nothing : map (λ a. aggregated a []) (count ∷ sum ∷ least ∷ greatest ∷ []) ≡ Some (whole 0) ∷ None ∷ None ∷ None ∷ []
of_nothing = refl

pub of_numbers : map (λ a. aggregated a (whole 4 ∷ int_value (neg_ℤ (pos 7)) ∷ whole 9 ∷ whole 4 ∷ [])) (count ∷ sum ∷ least ∷ greatest ∷ []) ≡ Some (whole 4) ∷ Some (whole 10) ∷ Some (int_value (neg_ℤ (pos 7))) ∷ Some (whole 9) ∷ []
of_numbers = refl

-- false is the least truth value; texts go by their bytes
pub of_truths : map (λ a. aggregated a (truth true ∷ truth false ∷ truth true ∷ [])) (count ∷ least ∷ greatest ∷ []) ≡ Some (whole 3) ∷ Some (truth false) ∷ Some (truth true) ∷ []
of_truths = refl

pub of_texts : map (λ a. aggregated a (text (codes "b") ∷ text (codes "ab") ∷ text (codes "Zz") ∷ text (codes "ba") ∷ [])) (count ∷ least ∷ greatest ∷ []) ≡ Some (whole 4) ∷ Some (text (codes "Zz")) ∷ Some (text (codes "ba")) ∷ []
of_texts = refl

-- the order of cells: NULL, truth values, numbers, texts; each is less than those behind it, equal to itself and greater than those before it
abbrev ascending : List (Option Value)
ascending = None ∷ Some (truth false) ∷ Some (truth true) ∷ Some (whole 1) ∷ Some (whole 2) ∷ Some (text []) ∷ Some (text (codes "a")) ∷ []

pub in_order : map (λ a. map (cell_order a) ascending) ascending ≡
    (Equal ∷ Less ∷ Less ∷ Less ∷ Less ∷ Less ∷ Less ∷ [])
    ∷ (Greater ∷ Equal ∷ Less ∷ Less ∷ Less ∷ Less ∷ Less ∷ [])
    ∷ (Greater ∷ Greater ∷ Equal ∷ Less ∷ Less ∷ Less ∷ Less ∷ [])
    ∷ (Greater ∷ Greater ∷ Greater ∷ Equal ∷ Less ∷ Less ∷ Less ∷ [])
    ∷ (Greater ∷ Greater ∷ Greater ∷ Greater ∷ Equal ∷ Less ∷ Less ∷ [])
    ∷ (Greater ∷ Greater ∷ Greater ∷ Greater ∷ Greater ∷ Equal ∷ Less ∷ [])
    ∷ (Greater ∷ Greater ∷ Greater ∷ Greater ∷ Greater ∷ Greater ∷ Equal ∷ []) ∷ []
in_order = refl

-- tuples by their first cell, then by the next
pub tuples_in_order : (tuple_order (None ∷ Some (whole 2) ∷ []) (Some (whole 1) ∷ None ∷ []) ≡ Less) × (tuple_order (Some (whole 1) ∷ Some (whole 2) ∷ []) (Some (whole 1) ∷ None ∷ []) ≡ Greater)
tuples_in_order = (refl, refl)

-- ---- aggregate queries

-- SELECT SUM(Links.Backward) AS s, MIN(Links.Backward) AS l, MAX(Links.Backward) AS g, COUNT(*) AS r, COUNT(Links.Backward) AS c FROM Document:
-- without GROUP BY COUNT(*) counts records
pub totals : answer (by [] (total (codes "s") (aggregate sum (path backward)) ∷ total (codes "l") (aggregate least (path backward)) ∷ total (codes "g") (aggregate greatest (path backward)) ∷ total (codes "r") count_rows ∷ total (codes "c") (aggregate count (path backward)) ∷ [])) all
    ≡ line (codes "\"s\":40,\"l\":10,\"g\":30,\"r\":3,\"c\":2")
unfolding result_text meaning escape_byte digits
totals = refl

-- the same of a record without any
pub totals_of_none : answer (by [] (total (codes "s") (aggregate sum (path backward)) ∷ total (codes "l") (aggregate least (path backward)) ∷ total (codes "g") (aggregate greatest (path backward)) ∷ total (codes "r") count_rows ∷ total (codes "c") (aggregate count (path backward)) ∷ [])) (record_30 ∷ [])
    ≡ line (codes "\"s\":null,\"l\":null,\"g\":null,\"r\":1,\"c\":0")
unfolding result_text meaning escape_byte digits
totals_of_none = refl

-- SELECT Name.Language.Country AS c, COUNT(*) AS n FROM Document GROUP BY Name.Language.Country: COUNT(*) counts the rows of the key's chain
pub rows_by_country : answer (by (country ∷ []) (total (codes "c") (key 0) ∷ total (codes "n") count_rows ∷ [])) (record_10 ∷ record_20 ∷ []) ≡
    line (codes "\"c\":null,\"n\":3") ++ (line (codes "\"c\":\"gb\",\"n\":1") ++ line (codes "\"c\":\"us\",\"n\":1"))
unfolding result_text meaning escape_byte digits
rows_by_country = refl

-- SELECT Name.Language.Country AS c, Name.Url AS u, COUNT(*) AS n, COUNT(Name.Language.Code) AS k FROM Document GROUP BY Name.Url, Name.Language.Country:
-- two keys, of which the second has the longer chain; groups ascend by the first key, then by the second
pub by_two_keys : answer (by (url ∷ country ∷ []) (total (codes "c") (key 1) ∷ total (codes "u") (key 0) ∷ total (codes "n") count_rows ∷ total (codes "k") (aggregate count (path code)) ∷ [])) (record_10 ∷ record_20 ∷ []) ≡
    line (codes "\"c\":\"gb\",\"u\":null,\"n\":1,\"k\":1") ++ (line (codes "\"c\":null,\"u\":\"http://A\",\"n\":1,\"k\":1") ++ (line (codes "\"c\":\"us\",\"u\":\"http://A\",\"n\":1,\"k\":1")
    ++ (line (codes "\"c\":null,\"u\":\"http://B\",\"n\":1,\"k\":0") ++ line (codes "\"c\":null,\"u\":\"http://C\",\"n\":1,\"k\":0"))))
unfolding result_text meaning escape_byte digits
by_two_keys = refl

-- SELECT DocId AS d, COUNT(*) AS n, COUNT(Name.Url) AS u, MAX(Name.Language.Code) AS m FROM Document GROUP BY DocId: the argument's chain is the longer;
-- COUNT(*) counts the rows of the key's
pub by_id : answer (by (doc_id ∷ []) (total (codes "d") (key 0) ∷ total (codes "n") count_rows ∷ total (codes "u") (aggregate count (path url)) ∷ total (codes "m") (aggregate greatest (path code)) ∷ [])) (record_20 ∷ record_10 ∷ record_20 ∷ []) ≡
    line (codes "\"d\":10,\"n\":1,\"u\":2,\"m\":\"en-us\"") ++ line (codes "\"d\":20,\"n\":2,\"u\":2,\"m\":null")
unfolding result_text meaning escape_byte digits
by_id = refl

-- SELECT SUM(Links.Forward) AS s FROM Document WHERE Links.Forward > 20: the kept branches alone
pub sum_of_kept : answer (record { condition = Some (comparison greater (path forward) (number 20)); selection = groups [] (total (codes "s") (aggregate sum (path forward)) ∷ total (codes "r") count_rows ∷ []) }) all ≡ line (codes "\"s\":180,\"r\":2")
unfolding result_text meaning escape_byte digits
sum_of_kept = refl

-- ---- record queries

-- SELECT DocId, Links.Forward FROM Document: a list is named by the path from the level above it
pub forward_lists : answer (of_each (item (codes "DocId") (path doc_id) ∷ item (codes "Links.Forward") (path forward) ∷ [])) all ≡
    line (codes "\"DocId\":10,\"Links.Forward\":[{\"Links.Forward\":20},{\"Links.Forward\":40},{\"Links.Forward\":60}]")
    ++ (line (codes "\"DocId\":20,\"Links.Forward\":[{\"Links.Forward\":80}]") ++ line (codes "\"DocId\":30,\"Links.Forward\":[]"))
unfolding result_text meaning escape_byte digits
forward_lists = refl

-- SELECT COUNT(Name.Language.Code) WITHIN RECORD AS c, SUM(Links.Forward) WITHIN RECORD AS s, MIN(Name.Url) WITHIN RECORD AS u FROM Document
pub within_record : answer (of_each (record { name = codes "c"; term = within count (path code) [] } ∷ record { name = codes "s"; term = within sum (path forward) [] } ∷ record { name = codes "u"; term = within least (path url) [] } ∷ [])) all ≡
    line (codes "\"c\":3,\"s\":120,\"u\":\"http://A\"") ++ (line (codes "\"c\":0,\"s\":80,\"u\":\"http://C\"") ++ line (codes "\"c\":0,\"s\":null,\"u\":null"))
unfolding result_text meaning escape_byte digits
within_record = refl

-- SELECT Name.Language.Country AS c, Name.Url AS u, Links.Backward AS b FROM Document: lists in schema order, cells of an object before its lists
pub nested_lists : answer (of_each (item (codes "c") (path country) ∷ item (codes "u") (path url) ∷ item (codes "b") (path backward) ∷ [])) (record_10 ∷ record_20 ∷ []) ≡
    line (codes "\"Links.Backward\":[],\"Name\":[{\"u\":\"http://A\",\"Language\":[{\"c\":\"us\"},{\"c\":null}]},{\"u\":\"http://B\",\"Language\":[]},{\"u\":null,\"Language\":[{\"c\":\"gb\"}]}]")
    ++ line (codes "\"Links.Backward\":[{\"b\":10},{\"b\":30}],\"Name\":[{\"u\":\"http://C\",\"Language\":[]}]")
unfolding result_text meaning escape_byte digits
nested_lists = refl

-- SELECT COUNT(Name.Language.Country) WITHIN Name.Language AS c FROM Document: an object for each language, below one for each name
pub within_language : answer (of_each (record { name = codes "c"; term = within count (path country) language_level } ∷ [])) (record_10 ∷ []) ≡
    line (codes "\"Name\":[{\"Language\":[{\"c\":1},{\"c\":0}]},{\"Language\":[]},{\"Language\":[{\"c\":1}]}]")
unfolding result_text meaning escape_byte digits
within_language = refl

-- SELECT Name.Language.Code AS c FROM Document WHERE Name.Language.Country IS NULL: of a name with languages those that pass, and none of a name without
-- one that passes; a name without languages passes by itself; the last name has only a language that doesn't
pub kept_languages : answer (record { condition = Some (is_null (path country)); selection = objects (item (codes "c") (path code) ∷ []) }) all ≡
    line (codes "\"Name\":[{\"Language\":[{\"c\":\"en\"}]},{\"Language\":[]}]") ++ (line (codes "\"Name\":[{\"Language\":[]}]") ++ line (codes "\"Name\":[]"))
unfolding result_text meaning escape_byte digits
kept_languages = refl

-- a condition that is NULL keeps nothing, and so doesn't its negation
pub null_condition : (answer (record { condition = Some (comparison less (path backward) (number 0)); selection = objects (item (codes "d") (path doc_id) ∷ []) }) (record_30 ∷ []) ≡ [])
    × (answer (record { condition = Some (negation (comparison less (path backward) (number 0))); selection = objects (item (codes "d") (path doc_id) ∷ []) }) (record_30 ∷ []) ≡ [])
unfolding result_text meaning escape_byte digits
null_condition = (refl, refl)

-- the levels of the schema: each repeated field by its names from the level above and its path, with the levels below it
pub levels_of_document : levels_of document ≡
    deeper (codes "Links" ∷ codes "Backward" ∷ []) backward no_levels
    (deeper (codes "Links" ∷ codes "Forward" ∷ []) forward no_levels
    (deeper (codes "Name" ∷ []) name (deeper (codes "Language" ∷ []) language_level no_levels no_levels) no_levels))
levels_of_document = refl
