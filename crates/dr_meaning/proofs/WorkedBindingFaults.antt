-- Binding of queries' texts, by computation: each fault with its place, and which of several comes first.
use Rattle.std.specs.Prelude.{◌≡◌, ℕ, List, [], ◌∷◌, Bool, true, false, pos, Option, Some, None, Result, Ok, Err, codes, refl}
use Rattle.std.specs.Fmt.{digits}
use Rattle.dr_meaning.specs.Schema.{Schema, required, optional, repeated, bool_kind, int32_kind, int64_kind, text_kind, no_fields, field, leaf, group}
use Rattle.dr_meaning.specs.Path.{Step}
use Rattle.dr_meaning.specs.Record.{int_value}
use Rattle.dr_meaning.specs.Expression.{Expression, constant, path_value, comparison, equal}
use Rattle.dr_meaning.specs.Query.{RecordItem, expression, Query, objects}
use Rattle.dr_meaning.specs.Syntax.{path, expression as expression_syntax, QuerySyntax}
use Rattle.dr_meaning.specs.Parse.{parse_query, items, keys, whole_expression, argument, QueryFault}
use Rattle.dr_meaning.specs.BoundExpression.{BindProblem, unknown_table, unknown_field, not_a_leaf, type_mismatch, unrelated, bad_within}
use Rattle.dr_meaning.specs.BoundExpression.{not_grouped, duplicate_name, BindFault}
use Rattle.dr_meaning.specs.Binding.{first_fault, bind}
use Rattle.dr_meaning.proofs.WorkedSchemas.{document_schema}

-- what binding makes of a text that is a query
abbrev bind_parsed : Schema → Result QuerySyntax QueryFault → Option (Result Query BindFault)
bind_parsed s (Ok q) = Some (bind s q)
bind_parsed s (Err e) = None

abbrev asked_of : Schema → List ℕ → Option (Result Query BindFault)
asked_of s text = bind_parsed s (parse_query text)

abbrev asked : List ℕ → Option (Result Query BindFault)
asked text = asked_of document_schema text

abbrev refused_at : ℕ → BindProblem → Option (Result Query BindFault)
refused_at i p = Some (Err (record { place = i; problem = p }))

abbrev is_bound_query : Option (Result Query BindFault) → Bool
is_bound_query (Some (Ok q)) = true
is_bound_query (Some (Err e)) = false
is_bound_query None = false

abbrev is_bound_by : Schema → List ℕ → Bool
is_bound_by s text = is_bound_query (asked_of s text)

abbrev is_bound : List ℕ → Bool
is_bound text = is_bound_by document_schema text

-- a message of leaves of all kinds, named by reserved words
abbrev plain_schema : Schema
plain_schema = record {
  name = codes "From";
  fields = field (codes "select") required (leaf text_kind) (field (codes "Group") required (leaf int32_kind)
      (field (codes "select1") required (leaf bool_kind) (field (codes "wide") required (leaf int64_kind) no_fields)));
}

-- a message of repeated leaves: one in an optional group, one in a repeated one, one alone
abbrev pairs_schema : Schema
pairs_schema = record {
  name = codes "T";
  fields = field (codes "g") optional (group (field (codes "b") repeated (leaf int64_kind) no_fields))
      (field (codes "h") repeated (group (field (codes "c") repeated (leaf int64_kind) no_fields)) (field (codes "a") repeated (leaf int64_kind) no_fields));
}

abbrev step : ℕ → Step
step i = record { place = i; repetition = required }

abbrev number : ℕ → Expression
number n = constant (int_value (pos n))

abbrev item : List ℕ → Expression → RecordItem
item n e = record { name = n; term = expression e }

-- ---- names

-- the table has the message's name, in its case; fields go by the schema whatever the table's name
pub table_names : (asked (codes "SELECT DocId FROM document") ≡ refused_at 18 unknown_table)
    × (asked (codes "SELECT Nope FROM Other") ≡ refused_at 7 unknown_field)
    × (asked (codes "SELECT DocId FROM Other WHERE Nope = 1") ≡ refused_at 18 unknown_table)
    × (is_bound (codes "SELECT DocId FROM \"Document\"") ≡ true)
unfolding bind parse_query items keys whole_expression argument digits
table_names = (refl, refl, refl, refl)

-- a path that leads to no field, wherever it stands
pub unknown_fields : (asked (codes "SELECT Name.Country FROM Document") ≡ refused_at 7 unknown_field)
    × (asked (codes "SELECT docid FROM Document") ≡ refused_at 7 unknown_field)
    × (asked (codes "SELECT DocId.x FROM Document") ≡ refused_at 7 unknown_field)
    × (asked (codes "SELECT DocId, Url FROM Document") ≡ refused_at 14 unknown_field)
    × (asked (codes "SELECT DocId FROM Document WHERE DocId = 1 AND x = 1") ≡ refused_at 47 unknown_field)
    × (asked (codes "SELECT COUNT(x) FROM Document") ≡ refused_at 13 unknown_field)
    × (asked (codes "SELECT COUNT(*) FROM Document GROUP BY DocId, x") ≡ refused_at 46 unknown_field)
    × (asked (codes "SELECT COUNT(Name.Url) WITHIN x FROM Document") ≡ refused_at 30 unknown_field)
    × (asked (codes "SELECT COUNT(*) WITHIN x FROM Document") ≡ refused_at 23 unknown_field)
unfolding bind parse_query items keys whole_expression argument digits
unknown_fields = (refl, refl, refl, refl, refl, refl, refl, refl, refl)

-- a path that leads to a group, but that of WITHIN
pub groups_as_values : (asked (codes "SELECT Name.Language FROM Document") ≡ refused_at 7 not_a_leaf)
    × (asked (codes "SELECT DocId FROM Document WHERE Links IS NULL") ≡ refused_at 33 not_a_leaf)
    × (asked (codes "SELECT COUNT(Name) FROM Document") ≡ refused_at 13 not_a_leaf)
    × (asked (codes "SELECT COUNT(*) FROM Document GROUP BY Name") ≡ refused_at 39 not_a_leaf)
    × (is_bound (codes "SELECT COUNT(Name.Url) WITHIN Name FROM Document") ≡ true)
unfolding bind parse_query items keys whole_expression argument digits
groups_as_values = (refl, refl, refl, refl, refl)

-- a quoted reserved word as a field and as the message
pub quoted_names : (asked_of plain_schema (codes "SELECT \"Group\", \"select\" FROM \"From\" WHERE \"Group\" = 1") ≡ Some (Ok (record { condition = Some (comparison equal (path_value (step 1 ∷ [])) (number 1)); selection = objects (item (codes "Group") (path_value (step 1 ∷ [])) ∷ item (codes "select") (path_value (step 0 ∷ [])) ∷ []) })))
    × (asked_of plain_schema (codes "SELECT \"group\" FROM \"From\"") ≡ refused_at 7 unknown_field)
unfolding bind parse_query items keys whole_expression argument digits
quoted_names = (refl, refl)

-- ---- types

-- + joins texts or adds numbers; - and * are of numbers
pub sums_and_products : (asked (codes "SELECT Name.Url + DocId FROM Document") ≡ refused_at 16 type_mismatch)
    × (asked (codes "SELECT TRUE + FALSE FROM Document") ≡ refused_at 12 type_mismatch)
    × (asked (codes "SELECT 1 + 'a' FROM Document") ≡ refused_at 9 type_mismatch)
    × (asked (codes "SELECT 'b' - 'a' FROM Document") ≡ refused_at 11 type_mismatch)
    × (asked (codes "SELECT 'b' * 'a' FROM Document") ≡ refused_at 11 type_mismatch)
    × (asked (codes "SELECT DocId * Name.Url FROM Document") ≡ refused_at 13 type_mismatch)
    × (asked (codes "SELECT 1 - TRUE FROM Document") ≡ refused_at 9 type_mismatch)
    × (asked (codes "SELECT -Name.Url FROM Document") ≡ refused_at 7 type_mismatch)
    × (asked (codes "SELECT - TRUE FROM Document") ≡ refused_at 7 type_mismatch)
    × (is_bound (codes "SELECT Name.Url + 'a', DocId + 1, DocId - 1, DocId * 2, -DocId FROM Document") ≡ true)
unfolding bind parse_query items keys whole_expression argument digits
sums_and_products = (refl, refl, refl, refl, refl, refl, refl, refl, refl, refl)

-- a comparison is of two values of one type
pub comparisons : (asked (codes "SELECT DocId FROM Document WHERE DocId = Name.Url") ≡ refused_at 39 type_mismatch)
    × (asked (codes "SELECT DocId FROM Document WHERE TRUE <> 1") ≡ refused_at 38 type_mismatch)
    × (asked (codes "SELECT DocId FROM Document WHERE 'a' < TRUE") ≡ refused_at 37 type_mismatch)
    × (asked (codes "SELECT DocId FROM Document WHERE Links.Forward > 'x'") ≡ refused_at 47 type_mismatch)
    × (is_bound (codes "SELECT DocId FROM Document WHERE TRUE <= (DocId >= 1) AND Name.Url <> 'a'") ≡ true)
unfolding bind parse_query items keys whole_expression argument digits
comparisons = (refl, refl, refl, refl, refl)

-- LIKE and CONTAINS are of texts; NOT before them has their place
pub text_tests : (asked (codes "SELECT DocId FROM Document WHERE DocId LIKE '1'") ≡ refused_at 39 type_mismatch)
    × (asked (codes "SELECT DocId FROM Document WHERE DocId CONTAINS '1'") ≡ refused_at 39 type_mismatch)
    × (asked (codes "SELECT DocId FROM Document WHERE TRUE NOT LIKE '1'") ≡ refused_at 42 type_mismatch)
    × (asked (codes "SELECT DocId FROM Document WHERE DocId NOT CONTAINS '1'") ≡ refused_at 43 type_mismatch)
    × (is_bound (codes "SELECT DocId FROM Document WHERE Name.Url LIKE '1' AND Name.Url NOT CONTAINS '1'") ≡ true)
unfolding bind parse_query items keys whole_expression argument digits
text_tests = (refl, refl, refl, refl, refl)

-- AND, OR and NOT are of truth values; IS NULL is of any
pub logic : (asked (codes "SELECT DocId FROM Document WHERE DocId AND TRUE") ≡ refused_at 39 type_mismatch)
    × (asked (codes "SELECT DocId FROM Document WHERE TRUE AND DocId") ≡ refused_at 38 type_mismatch)
    × (asked (codes "SELECT DocId FROM Document WHERE 'a' OR TRUE") ≡ refused_at 37 type_mismatch)
    × (asked (codes "SELECT DocId FROM Document WHERE TRUE OR 'a'") ≡ refused_at 38 type_mismatch)
    × (asked (codes "SELECT DocId FROM Document WHERE NOT DocId") ≡ refused_at 33 type_mismatch)
    × (asked (codes "SELECT DocId FROM Document WHERE TRUE AND NOT 'a'") ≡ refused_at 42 type_mismatch)
    × (is_bound (codes "SELECT DocId FROM Document WHERE DocId IS NULL OR NOT Name.Url IS NOT NULL AND TRUE IS NULL") ≡ true)
unfolding bind parse_query items keys whole_expression argument digits
logic = (refl, refl, refl, refl, refl, refl, refl)

-- SUM is of numbers, told at the word; the other aggregates are of any values
pub arguments : (asked (codes "SELECT SUM(Name.Url) FROM Document") ≡ refused_at 7 type_mismatch)
    × (asked (codes "SELECT COUNT(*), sum( TRUE ) FROM Document") ≡ refused_at 17 type_mismatch)
    × (asked (codes "SELECT SUM(Name.Url) WITHIN RECORD FROM Document") ≡ refused_at 7 type_mismatch)
    × (asked (codes "SELECT SUM(Name.Url - 1) FROM Document") ≡ refused_at 20 type_mismatch)
    × (is_bound (codes "SELECT SUM(DocId), MIN(Name.Url), MAX(TRUE), COUNT(Name.Url) FROM Document") ≡ true)
unfolding bind parse_query items keys whole_expression argument digits
arguments = (refl, refl, refl, refl, refl)

-- a condition that is no truth value, told at its first token
pub conditions : (asked (codes "SELECT DocId FROM Document WHERE DocId") ≡ refused_at 33 type_mismatch)
    × (asked (codes "SELECT DocId FROM Document WHERE (DocId)") ≡ refused_at 33 type_mismatch)
    × (asked (codes "SELECT DocId FROM Document WHERE DocId + 1") ≡ refused_at 33 type_mismatch)
    × (asked (codes "SELECT DocId FROM Document WHERE 'a'") ≡ refused_at 33 type_mismatch)
    × (asked (codes "SELECT DocId FROM Document WHERE DocId + x") ≡ refused_at 41 unknown_field)
    × (is_bound (codes "SELECT DocId FROM Document WHERE (TRUE)") ≡ true)
unfolding bind parse_query items keys whole_expression argument digits
conditions = (refl, refl, refl, refl, refl, refl)

-- the types of all kinds of leaves
pub kinds : (is_bound_by plain_schema (codes "SELECT select1 = TRUE, \"Group\" + wide, \"select\" + 'a' FROM \"From\"") ≡ true)
    × (asked_of plain_schema (codes "SELECT \"Group\" = select1 FROM \"From\"") ≡ refused_at 15 type_mismatch)
    × (asked_of plain_schema (codes "SELECT \"select\" = select1 FROM \"From\"") ≡ refused_at 16 type_mismatch)
unfolding bind parse_query items keys whole_expression argument digits
kinds = (refl, refl, refl)

-- ---- related paths

-- in the condition; a fault of a path or an operator anywhere in it comes instead
pub unrelated_condition : (asked (codes "SELECT DocId FROM Document WHERE Links.Forward = 20 AND Name.Url = 'x'") ≡ refused_at 56 unrelated)
    × (asked (codes "SELECT DocId FROM Document WHERE Links.Forward = 20 AND Name.Url = 5") ≡ refused_at 65 type_mismatch)
    × (asked (codes "SELECT DocId FROM Document WHERE Links.Forward = 20 AND Name.Url = 'x' AND x = 1") ≡ refused_at 75 unknown_field)
    × (asked (codes "SELECT COUNT(*) FROM Document WHERE Links.Forward = 20 AND Name.Url = 'x' GROUP BY x") ≡ refused_at 59 unrelated)
    × (is_bound (codes "SELECT DocId FROM Document WHERE Name.Url = 'x' AND DocId = 1 AND Name.Language.Code = 'y'") ≡ true)
unfolding bind parse_query items keys whole_expression argument digits
unrelated_condition = (refl, refl, refl, refl, refl)

-- in an item: the first path that isn't related to some earlier one
pub unrelated_items : (asked (codes "SELECT Links.Forward + Links.Backward FROM Document") ≡ refused_at 23 unrelated)
    × (asked (codes "SELECT Links.Forward + DocId + Links.Backward + Links.Backward FROM Document") ≡ refused_at 31 unrelated)
    × (asked (codes "SELECT Name.Url = Name.Language.Code AND Links.Backward = DocId FROM Document") ≡ refused_at 41 unrelated)
    × (asked (codes "SELECT Links.Forward + Links.Backward - 'x' FROM Document") ≡ refused_at 38 type_mismatch)
    × (is_bound (codes "SELECT Links.Forward + DocId, Name.Url + Name.Language.Code, Name.Language.Code + Name.Url FROM Document") ≡ true)
unfolding bind parse_query items keys whole_expression argument digits
unrelated_items = (refl, refl, refl, refl, refl)

-- items by themselves, the condition by itself
pub related_parts : (is_bound (codes "SELECT Links.Forward, Links.Backward, Name.Url FROM Document WHERE Name.Language.Code = 'x'") ≡ true)
    × (is_bound (codes "SELECT COUNT(Name.Url), SUM(Links.Forward) FROM Document") ≡ true)
unfolding bind parse_query items keys whole_expression argument digits
related_parts = (refl, refl)

-- among the keys; in the keys followed by an argument, unless a key fails
pub unrelated_keys : (asked (codes "SELECT COUNT(*) FROM Document GROUP BY Links.Forward, DocId, Name.Url") ≡ refused_at 61 unrelated)
    × (asked (codes "SELECT COUNT(Name.Url) FROM Document GROUP BY Links.Forward") ≡ refused_at 13 unrelated)
    × (asked (codes "SELECT COUNT(DocId), SUM(Links.Forward + Links.Backward) FROM Document") ≡ refused_at 41 unrelated)
    × (asked (codes "SELECT COUNT(Name.Url) FROM Document GROUP BY Links.Forward, x") ≡ refused_at 61 unknown_field)
    × (asked (codes "SELECT COUNT(Links.Forward + Links.Backward) WITHIN RECORD FROM Document") ≡ refused_at 29 unrelated)
    × (asked (codes "SELECT COUNT(*) FROM Document GROUP BY Links.Forward, Name.Url, x") ≡ refused_at 64 unknown_field)
    × (is_bound (codes "SELECT COUNT(Name.Language.Code), COUNT(DocId), COUNT(Name.Url) FROM Document GROUP BY Name.Url, DocId") ≡ true)
unfolding bind parse_query items keys whole_expression argument digits
unrelated_keys = (refl, refl, refl, refl, refl, refl, refl)

-- an argument is compared, also with the keys, where WITHIN names no field; not where the argument or a key fails
pub arguments_beside_nodes : (asked (codes "SELECT COUNT(Links.Forward = Links.Backward) WITHIN x FROM Document") ≡ refused_at 29 unrelated)
    × (asked (codes "SELECT COUNT(Links.Forward = DocId) WITHIN x FROM Document") ≡ refused_at 43 unknown_field)
    × (asked (codes "SELECT COUNT(Links.Forward = Links.Backward + 'a') WITHIN x FROM Document") ≡ refused_at 44 type_mismatch)
    × (asked (codes "SELECT SUM(Links.Forward + Links.Backward) WITHIN x FROM Document") ≡ refused_at 27 unrelated)
    × (asked (codes "SELECT SUM(Links.Forward = Links.Backward) WITHIN x FROM Document") ≡ refused_at 7 type_mismatch)
    × (asked (codes "SELECT COUNT(Name.Url) WITHIN x FROM Document GROUP BY Links.Forward") ≡ refused_at 13 unrelated)
    × (asked (codes "SELECT COUNT(Name.Url) WITHIN x FROM Document GROUP BY Links.Forward, y") ≡ refused_at 30 unknown_field)
    × (asked (codes "SELECT COUNT(Name.Url) WITHIN x FROM Document GROUP BY Name.Language.Code") ≡ refused_at 30 unknown_field)
    × (asked (codes "SELECT COUNT(DocId) WITHIN x, COUNT(Links.Forward = Links.Backward) WITHIN x FROM Document") ≡ refused_at 27 unknown_field)
    × (asked (codes "SELECT DocId, COUNT(Links.Forward = Links.Backward) WITHIN RECORD FROM Document") ≡ refused_at 36 unrelated)
unfolding bind parse_query items keys whole_expression argument digits
arguments_beside_nodes = (refl, refl, refl, refl, refl, refl, refl, refl, refl, refl)

-- ---- WITHIN

-- the node is the record or a repeated group
pub within_nodes : (asked (codes "SELECT COUNT(Name.Url) WITHIN Name.Url FROM Document") ≡ refused_at 23 bad_within)
    × (asked (codes "SELECT COUNT(Links.Forward) WITHIN Links FROM Document") ≡ refused_at 28 bad_within)
    × (asked (codes "SELECT SUM(Links.Forward) WITHIN Links.Forward FROM Document") ≡ refused_at 26 bad_within)
    × (is_bound (codes "SELECT SUM(Links.Forward) WITHIN RECORD, COUNT(1) WITHIN RECORD FROM Document") ≡ true)
unfolding bind parse_query items keys whole_expression argument digits
within_nodes = (refl, refl, refl, refl)

-- the longest chain of the argument begins with the node's; rows aren't counted within a node
pub within_arguments : (asked (codes "SELECT COUNT(Links.Forward) WITHIN Name FROM Document") ≡ refused_at 28 bad_within)
    × (asked (codes "SELECT COUNT(DocId) WITHIN Name FROM Document") ≡ refused_at 20 bad_within)
    × (asked (codes "SELECT COUNT(1) WITHIN Name FROM Document") ≡ refused_at 16 bad_within)
    × (asked (codes "SELECT COUNT(Name.Url) WITHIN Name.Language FROM Document") ≡ refused_at 23 bad_within)
    × (asked (codes "SELECT COUNT(*) WITHIN Name FROM Document") ≡ refused_at 16 bad_within)
    × (asked (codes "SELECT COUNT(*) WITHIN RECORD FROM Document") ≡ refused_at 16 bad_within)
    × (asked (codes "SELECT COUNT(x) WITHIN DocId FROM Document") ≡ refused_at 13 unknown_field)
    × (is_bound (codes "SELECT COUNT(Name.Url) WITHIN Name, COUNT(Name.Language.Code) WITHIN Name, MIN(Name.Url + Name.Language.Code) WITHIN Name.Language FROM Document") ≡ true)
unfolding bind parse_query items keys whole_expression argument digits
within_arguments = (refl, refl, refl, refl, refl, refl, refl, refl)

-- ---- aggregate queries

-- each item is a key or an aggregate without WITHIN
pub not_grouped_items : (asked (codes "SELECT DocId, COUNT(*) FROM Document") ≡ refused_at 7 not_grouped)
    × (asked (codes "SELECT COUNT(*), Name.Url FROM Document GROUP BY Name.Language.Code") ≡ refused_at 17 not_grouped)
    × (asked (codes "SELECT DocId FROM Document GROUP BY Name.Url") ≡ refused_at 7 not_grouped)
    × (asked (codes "SELECT DocId, DocId + 1 FROM Document GROUP BY DocId") ≡ refused_at 14 not_grouped)
    × (asked (codes "SELECT 1, COUNT(*) FROM Document") ≡ refused_at 7 not_grouped)
    × (asked (codes "SELECT COUNT(Name.Url) WITHIN RECORD, COUNT(*) FROM Document") ≡ refused_at 7 not_grouped)
    × (asked (codes "SELECT COUNT(*), COUNT(*) WITHIN Name FROM Document") ≡ refused_at 17 not_grouped)
    × (asked (codes "SELECT COUNT(Name.Url) WITHIN RECORD FROM Document GROUP BY DocId") ≡ refused_at 7 not_grouped)
unfolding bind parse_query items keys whole_expression argument digits
not_grouped_items = (refl, refl, refl, refl, refl, refl, refl, refl)

-- before the faults behind it in the item, but those of paths and operators
pub not_grouped_first : (asked (codes "SELECT Links.Forward + Links.Backward, COUNT(*) FROM Document") ≡ refused_at 7 not_grouped)
    × (asked (codes "SELECT COUNT(Links.Forward) WITHIN Name, COUNT(*) FROM Document") ≡ refused_at 7 not_grouped)
    × (asked (codes "SELECT DocId + 'x', COUNT(*) FROM Document") ≡ refused_at 13 type_mismatch)
    × (asked (codes "SELECT COUNT(*), COUNT(Name.Url) WITHIN x FROM Document") ≡ refused_at 40 unknown_field)
    × (asked (codes "SELECT SUM(Name.Url) WITHIN RECORD, COUNT(*) FROM Document") ≡ refused_at 7 type_mismatch)
unfolding bind parse_query items keys whole_expression argument digits
not_grouped_first = (refl, refl, refl, refl, refl)

-- a key that fails is no key of an item
pub failing_key : (asked (codes "SELECT Name.Url FROM Document GROUP BY Name.Ulr") ≡ refused_at 7 not_grouped)
    × (asked (codes "SELECT COUNT(*), Name.Url FROM Document GROUP BY Name.Url, Name.Ulr") ≡ refused_at 59 unknown_field)
unfolding bind parse_query items keys whole_expression argument digits
failing_key = (refl, refl)

-- ---- names of items

-- against an earlier item of the same object, in its case, also for names that AS doesn't give
pub duplicate_items : (asked (codes "SELECT DocId, DocId, DocId FROM Document") ≡ refused_at 14 duplicate_name)
    × (asked (codes "SELECT DocId AS a, DocId AS b, DocId + 1 AS a FROM Document") ≡ refused_at 31 duplicate_name)
    × (asked (codes "SELECT DocId AS f1_, DocId + 1 FROM Document") ≡ refused_at 21 duplicate_name)
    × (asked (codes "SELECT (DocId), DocId FROM Document") ≡ refused_at 16 duplicate_name)
    × (asked (codes "SELECT Name.Url AS x, Name.Url + 'a' AS x FROM Document") ≡ refused_at 22 duplicate_name)
    × (asked (codes "SELECT COUNT(Name.Url) WITHIN RECORD AS a, DocId AS a FROM Document") ≡ refused_at 43 duplicate_name)
    × (asked (codes "SELECT Name.Url AS a, COUNT(Name.Language.Code) WITHIN Name AS a FROM Document") ≡ refused_at 22 duplicate_name)
    × (asked (codes "SELECT Name.Language.Code AS a, COUNT(Name.Language.Code) WITHIN Name.Language AS a FROM Document") ≡ refused_at 32 duplicate_name)
    × (is_bound (codes "SELECT DocId AS a, DocId AS A, -DocId, DocId, DocId AS DocID FROM Document") ≡ true)
unfolding bind parse_query items keys whole_expression argument digits
duplicate_items = (refl, refl, refl, refl, refl, refl, refl, refl, refl)

-- the same name in objects of several levels
pub one_name_in_many_objects : (is_bound (codes "SELECT DocId AS a, Name.Url AS a, Links.Forward AS a, Name.Language.Code AS a FROM Document") ≡ true)
    × (is_bound (codes "SELECT Name.Url AS a, COUNT(Name.Url) WITHIN RECORD AS a FROM Document") ≡ true)
    × (is_bound (codes "SELECT Links.Forward AS a, Links.Backward AS a FROM Document") ≡ true)
unfolding bind parse_query items keys whole_expression argument digits
one_name_in_many_objects = (refl, refl, refl)

-- against a list of the same object that leads to another item, an earlier or a later one
pub duplicate_lists : (asked (codes "SELECT Name.Url, DocId AS Name FROM Document") ≡ refused_at 17 duplicate_name)
    × (asked (codes "SELECT Name.Language.Code, DocId AS Name FROM Document") ≡ refused_at 27 duplicate_name)
    × (asked (codes "SELECT Name.Language.Code, Name.Url AS Language FROM Document") ≡ refused_at 27 duplicate_name)
    × (asked (codes "SELECT COUNT(Name.Language.Code) WITHIN Name.Language, Name.Url AS Language FROM Document") ≡ refused_at 55 duplicate_name)
    × (asked (codes "SELECT DocId AS Name, Name.Url FROM Document") ≡ refused_at 7 duplicate_name)
    × (asked (codes "SELECT DocId, DocId AS Name, Links.Forward, Name.Language.Code FROM Document") ≡ refused_at 14 duplicate_name)
    × (asked (codes "SELECT Name.Url AS Language, Name.Language.Code FROM Document") ≡ refused_at 7 duplicate_name)
    × (asked (codes "SELECT DocId AS Name, COUNT(Name.Url) WITHIN Name FROM Document") ≡ refused_at 7 duplicate_name)
unfolding bind parse_query items keys whole_expression argument digits
duplicate_lists = (refl, refl, refl, refl, refl, refl, refl, refl)

-- not against a list of another object, one that leads to items of no other level, or one that leads only to an item that fails; nor against a later item
pub lists_elsewhere : (is_bound (codes "SELECT Name.Language.Code, DocId AS Language, Name.Url AS Name FROM Document") ≡ true)
    × (is_bound (codes "SELECT DocId AS Language, Name.Url AS Name, Name.Language.Code FROM Document") ≡ true)
    × (is_bound (codes "SELECT Links.Forward, DocId AS Forward, DocId AS Links FROM Document") ≡ true)
    × (is_bound (codes "SELECT Name.Language.Code, Links.Forward AS Language FROM Document") ≡ true)
    × (is_bound (codes "SELECT Links.Forward AS Language, Name.Language.Code FROM Document") ≡ true)
    × (is_bound (codes "SELECT DocId AS Name, COUNT(Name.Url) WITHIN RECORD, Links.Forward AS Name FROM Document") ≡ true)
    × (asked (codes "SELECT DocId AS Name, Name.Url + 1 FROM Document") ≡ refused_at 31 type_mismatch)
    × (asked (codes "SELECT DocId AS Name, COUNT(Name.Url) WITHIN x FROM Document") ≡ refused_at 45 unknown_field)
    × (asked (codes "SELECT DocId AS a, DocId + 1 AS a, Name.Url AS a FROM Document") ≡ refused_at 19 duplicate_name)
unfolding bind parse_query items keys whole_expression argument digits
lists_elsewhere = (refl, refl, refl, refl, refl, refl, refl, refl, refl)

-- an item of paths that aren't related stands at the level with the most repeated fields, of as many at the first: whatever the other fields
pub deepest_chains : (asked (codes "SELECT DocId AS Name, Name.Url IS NULL AND Links.Forward = 1 FROM Document") ≡ refused_at 7 duplicate_name)
    × (asked (codes "SELECT DocId AS Name, Links.Forward = 1 AND Name.Url IS NULL FROM Document") ≡ refused_at 44 unrelated)
    × (asked_of pairs_schema (codes "SELECT h.c AS x, g.b = h.c AS x FROM T") ≡ refused_at 17 duplicate_name)
    × (asked_of pairs_schema (codes "SELECT h.c AS x, h.c = g.b AS x FROM T") ≡ refused_at 17 duplicate_name)
    × (asked_of pairs_schema (codes "SELECT g.b AS x, g.b = h.c AS x FROM T") ≡ refused_at 23 unrelated)
    × (asked_of pairs_schema (codes "SELECT a AS x, g.b = a AS x FROM T") ≡ refused_at 21 unrelated)
    × (asked_of pairs_schema (codes "SELECT g.b AS x, g.b = a AS x FROM T") ≡ refused_at 17 duplicate_name)
    × (asked_of pairs_schema (codes "SELECT a AS x, a = g.b AS x FROM T") ≡ refused_at 15 duplicate_name)
    × (asked_of pairs_schema (codes "SELECT 1 AS a, a AS b FROM T") ≡ refused_at 7 duplicate_name)
    × (asked_of pairs_schema (codes "SELECT COUNT(a = g.b) WITHIN x FROM T") ≡ refused_at 17 unrelated)
unfolding bind parse_query items keys whole_expression argument digits
deepest_chains = (refl, refl, refl, refl, refl, refl, refl, refl, refl, refl)

-- an aggregate query has one object and no lists
pub names_of_groups : (asked (codes "SELECT COUNT(*) AS n, SUM(DocId) AS n FROM Document") ≡ refused_at 22 duplicate_name)
    × (asked (codes "SELECT Name.Url AS a, DocId AS a FROM Document GROUP BY Name.Url, DocId") ≡ refused_at 22 duplicate_name)
    × (is_bound (codes "SELECT Name.Url, DocId AS Name FROM Document GROUP BY Name.Url, DocId") ≡ true)
    × (asked (codes "SELECT COUNT(*) AS n, DocId AS n FROM Document") ≡ refused_at 22 not_grouped)
    × (asked (codes "SELECT COUNT(*), COUNT(*) AS f0_ FROM Document") ≡ refused_at 17 duplicate_name)
unfolding bind parse_query items keys whole_expression argument digits
names_of_groups = (refl, refl, refl, refl, refl)

-- a name is told before what is behind it in the item, but the faults of paths and operators
pub duplicates_first : (asked (codes "SELECT DocId, DocId + 'x' AS DocId FROM Document") ≡ refused_at 20 type_mismatch)
    × (asked (codes "SELECT Links.Forward AS a, Links.Forward + Links.Backward AS a FROM Document") ≡ refused_at 27 duplicate_name)
    × (asked (codes "SELECT DocId, COUNT(Links.Forward) WITHIN Links AS DocId FROM Document") ≡ refused_at 14 duplicate_name)
    × (asked (codes "SELECT DocId, COUNT(*) WITHIN x AS DocId FROM Document") ≡ refused_at 30 unknown_field)
unfolding bind parse_query items keys whole_expression argument digits
duplicates_first = (refl, refl, refl, refl)

-- a list of two names, from a tree that no text has: AS gives no name with a dot
abbrev links_then : List ℕ → QuerySyntax
links_then n = record {
  items = record { place = 1; term = expression_syntax (path (record { place = 1; names = codes "Links" ∷ codes "Forward" ∷ [] })); name = None }
      ∷ record { place = 2; term = expression_syntax (path (record { place = 2; names = codes "DocId" ∷ [] })); name = Some n } ∷ [];
  table = record { place = 3; name = codes "Document" };
  condition = None;
  keys = [];
}

pub list_of_two_names : (bind document_schema (links_then (codes "Links.Forward")) ≡ Err (record { place = 2; problem = duplicate_name }))
    × (is_bound_query (Some (bind document_schema (links_then (codes "Links-Forward")))) ≡ true) × (is_bound_query (Some (bind document_schema (links_then (codes "Forward")))) ≡ true)
unfolding bind digits
list_of_two_names = (refl, refl, refl)

-- ---- which fault is the first

abbrev at : ℕ → BindProblem → BindFault
at i p = record { place = i; problem = p }

-- at one place, in this order
abbrev first_at_one_place : BindProblem → BindProblem → Option BindFault
first_at_one_place p q = first_fault (at 5 q ∷ at 5 p ∷ [])

pub problems_in_order : (first_at_one_place unknown_table unknown_field ≡ Some (at 5 unknown_table)) × (first_at_one_place unknown_field not_a_leaf ≡ Some (at 5 unknown_field))
    × (first_at_one_place not_a_leaf type_mismatch ≡ Some (at 5 not_a_leaf)) × (first_at_one_place type_mismatch unrelated ≡ Some (at 5 type_mismatch))
    × (first_at_one_place unrelated bad_within ≡ Some (at 5 unrelated)) × (first_at_one_place bad_within not_grouped ≡ Some (at 5 bad_within))
    × (first_at_one_place not_grouped duplicate_name ≡ Some (at 5 not_grouped))
problems_in_order = (refl, refl, refl, refl, refl, refl, refl)

-- the lowest place, whatever the problems; none of none
pub lowest_place : (first_fault (at 7 unknown_table ∷ at 5 duplicate_name ∷ at 6 unknown_field ∷ []) ≡ Some (at 5 duplicate_name)) × (first_fault [] ≡ None)
lowest_place = (refl, refl)
