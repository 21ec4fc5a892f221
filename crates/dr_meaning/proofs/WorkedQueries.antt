-- Queries on the worked records, by computation.
use Rattle.std.specs.Prelude.{◌≡◌, ℕ, ◌-◌, ◌^◌, List, [], ◌∷◌, ◌++◌, pos, true, false, Some, None, codes, refl}
use Rattle.std.specs.Str.{chars}
use Rattle.std.specs.Fmt.{digits}
use Rattle.json.specs.Print.{escape_byte}
use Rattle.dr_meaning.specs.Record.{int_value, text_value, Node}
use Rattle.dr_meaning.specs.Expression.{Expression, constant, path_value, arithmetic, plus, comparison, less, equal, like, is_null, negation, conjunction, matches, occurs_in}
use Rattle.dr_meaning.specs.Query.{Aggregate, count, sum, least, greatest, RecordItem, expression, within, GroupItem, key, count_rows, aggregate, Query, objects, groups, meaning}
use Rattle.dr_meaning.specs.Print.{result_text}
use Rattle.dr_meaning.proofs.WorkedSchemas.{document}
use Rattle.dr_meaning.proofs.WorkedRecords.{record_10, record_20, record_30, document_node}
use Rattle.dr_meaning.proofs.WorkedPaths.{doc_id, forward, name, code, country, url}

abbrev line : List ℕ → List ℕ
line t = t ++ 10 ∷ []

abbrev answer : Query → List Node → List ℕ
answer q ns = result_text (meaning document q ns)

abbrev two : List Node
two = record_10 ∷ record_20 ∷ []

abbrev text : List ℕ → Expression
text t = constant (text_value t)

abbrev number : ℕ → Expression
number n = constant (int_value (pos n))

abbrev item : List ℕ → Expression → RecordItem
item n e = record { name = n; term = expression e }

abbrev total : List ℕ → Aggregate → Expression → GroupItem
total n a e = record { name = n; term = aggregate a e }

-- SELECT DocId AS Id, COUNT(Name.Language.Code) WITHIN Name AS Cnt, Name.Url + ',' + Name.Language.Code AS Str
-- FROM Document WHERE Name.Url LIKE 'http%' AND DocId < 20
abbrev within_query : Query
within_query = record {
  condition = Some (conjunction (like (path_value url) (codes "http%")) (comparison less (path_value doc_id) (number 20)));
  selection = objects (item (codes "Id") (path_value doc_id)
      ∷ record { name = codes "Cnt"; term = within count (path_value code) name }
      ∷ item (codes "Str") (arithmetic plus (arithmetic plus (path_value url) (text (codes ","))) (path_value code)) ∷ []);
}

pub within_answer : answer within_query two ≡ line (codes "{\"Id\":10,\"Name\":[{\"Cnt\":2,\"Language\":[{\"Str\":\"http://A,en-us\"},{\"Str\":\"http://A,en\"}]},{\"Cnt\":0,\"Language\":[]}]}")
unfolding result_text meaning matches chars escape_byte digits
within_answer = refl

-- SELECT COUNT(*) AS r, COUNT(Name.Url) AS u, SUM(Links.Forward) AS s FROM Document
abbrev three_totals : Query
three_totals = record {
  condition = None;
  selection = groups [] (record { name = codes "r"; term = count_rows } ∷ total (codes "u") count (path_value url) ∷ total (codes "s") sum (path_value forward) ∷ []);
}

pub three_totals_answer : answer three_totals two ≡ line (codes "{\"r\":2,\"u\":3,\"s\":200}")
unfolding result_text meaning escape_byte digits
three_totals_answer = refl

-- SELECT Name.Language.Country, COUNT(DocId) AS n FROM Document GROUP BY Name.Language.Country
abbrev by_country : Query
by_country = record {
  condition = None;
  selection = groups (country ∷ []) (record { name = codes "Name.Language.Country"; term = key 0 } ∷ total (codes "n") count (path_value doc_id) ∷ []);
}

pub by_country_answer : answer by_country two ≡
    line (codes "{\"Name.Language.Country\":null,\"n\":3}") ++ line (codes "{\"Name.Language.Country\":\"gb\",\"n\":1}") ++ line (codes "{\"Name.Language.Country\":\"us\",\"n\":1}")
unfolding result_text meaning escape_byte digits
by_country_answer = refl

-- SELECT DocId, Name.Url FROM Document WHERE Name.Url IS NULL
abbrev without_url : Query
without_url = record {
  condition = Some (is_null (path_value url));
  selection = objects (item (codes "DocId") (path_value doc_id) ∷ item (codes "Name.Url") (path_value url) ∷ []);
}

-- of the second record no name is left, and so the record isn't; the third has no name, and is kept
pub without_url_answer : answer without_url (record_10 ∷ record_20 ∷ record_30 ∷ []) ≡
    line (codes "{\"DocId\":10,\"Name\":[{\"Name.Url\":null}]}") ++ line (codes "{\"DocId\":30,\"Name\":[]}")
unfolding result_text meaning escape_byte digits
without_url_answer = refl

-- SELECT DocId, Name.Url FROM Document WHERE Name.Language.Code = 'en-gb'
abbrev in_britain : Query
in_britain = record {
  condition = Some (comparison equal (path_value code) (text (codes "en-gb")));
  selection = objects (item (codes "DocId") (path_value doc_id) ∷ item (codes "Name.Url") (path_value url) ∷ []);
}

-- only the third name has a kept language; branches off the condition's chain stay with what is kept
pub in_britain_answer : answer in_britain two ≡ line (codes "{\"DocId\":10,\"Name\":[{\"Name.Url\":null}]}")
unfolding result_text meaning escape_byte digits
in_britain_answer = refl

-- SELECT COUNT(DocId) AS c, MAX(DocId) AS m FROM Document
abbrev count_and_greatest : Query
count_and_greatest = record {
  condition = None;
  selection = groups [] (total (codes "c") count (path_value doc_id) ∷ total (codes "m") greatest (path_value doc_id) ∷ []);
}

pub of_nothing : answer count_and_greatest [] ≡ line (codes "{\"c\":0,\"m\":null}")
unfolding result_text meaning escape_byte digits
of_nothing = refl

pub no_groups : answer by_country [] ≡ []
unfolding result_text meaning escape_byte digits
no_groups = refl

pub greatest_of_three : answer count_and_greatest (record_20 ∷ record_30 ∷ record_10 ∷ []) ≡ line (codes "{\"c\":3,\"m\":30}")
unfolding result_text meaning escape_byte digits
greatest_of_three = refl

abbrev with_id : ℕ → Node
with_id n = document_node n [] []

-- SELECT SUM(DocId) AS s FROM Document: exact past 64 bits
pub large_sum : answer (record { condition = None; selection = groups [] (total (codes "s") sum (path_value doc_id) ∷ []) }) (with_id (2 ^ 63 - 1) ∷ with_id (2 ^ 63 - 1) ∷ [])
    ≡ line (codes "{\"s\":18446744073709551614}")
unfolding result_text meaning escape_byte digits
large_sum = refl

-- SELECT DocId + 1 AS x FROM Document: NULL past 64 bits
pub overflow : answer (record { condition = None; selection = objects (item (codes "x") (arithmetic plus (path_value doc_id) (number 1)) ∷ []) }) (with_id (2 ^ 63 - 1) ∷ with_id 1 ∷ [])
    ≡ line (codes "{\"x\":null}") ++ line (codes "{\"x\":2}")
unfolding result_text meaning escape_byte digits
overflow = refl

-- SELECT MIN(Name.Language.Code) AS a FROM Document WHERE NOT DocId = 20
pub least_code : answer (record {
  condition = Some (negation (comparison equal (path_value doc_id) (number 20)));
  selection = groups [] (total (codes "a") least (path_value code) ∷ []);
}) two ≡ line (codes "{\"a\":\"en\"}")
unfolding result_text meaning escape_byte digits
least_code = refl

-- ---- LIKE and CONTAINS

pub like_examples : (matches (codes "http%") (codes "http://A") ≡ true) × (matches (codes "%A") (codes "http://A") ≡ true) × (matches (codes "h_p") (codes "http") ≡ false)
    × (matches (codes "%") [] ≡ true) × (matches (codes "_") [] ≡ false) × (matches [] [] ≡ true) × (matches (codes "a%b%") (codes "acbd") ≡ true)
unfolding matches
like_examples = (refl, refl, refl, refl, refl, refl, refl)

pub contains_examples : (occurs_in (codes "://") (codes "http://A") ≡ true) × (occurs_in [] [] ≡ true) × (occurs_in (codes "b") (codes "aac") ≡ false)
contains_examples = (refl, refl, refl)
