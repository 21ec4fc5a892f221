-- What `explain` prints, and what it refuses, by computation.
use Rattle.std.specs.Prelude.{◌≡◌, ℕ, List, [], ◌∷◌, ◌++◌, Ok, Err, codes, refl}
use Rattle.std.specs.Str.{is_utf8, chars}
use Rattle.std.specs.Fmt.{digits}
use Rattle.dr_meaning.specs.SchemaText.{parse_schema, empty_group}
use Rattle.dr_meaning.specs.Parse.{items as plain_items, argument, whole_expression, keys, syntax}
use Rattle.dr_meaning.specs.BoundExpression.{unknown_field}
use Rattle.dr_meaning.specs.Binding.{bind}
use Rattle.dr_meaning.specs.Refusals.{schema_refused, query_refused, text_refused, binding_refused, in_query, gives_no_records}
use Rattle.dr_sub_meaning.specs.ResultRecords.{result_fields}
use Rattle.dr_sub_meaning.specs.ResultFaults.{result_schema}
use Rattle.dr_sub_meaning.specs.NestedParse.{parse_nested}
use Rattle.dr_sub_meaning.specs.NestedBinding.{bind_nested}
use Rattle.dr_sub_meaning.specs.NestedAsk.{read_nested}
use Rattle.dr_sub_meaning.specs.NestedText.{nested_text}
use Rattle.dr_commands.specs.Explain.{explained}

abbrev schema : List ℕ
schema = codes "message T { required int64 a; optional string b; }"

abbrev line : List ℕ → List ℕ
line t = t ++ 10 ∷ []

-- an aggregate query, and a record query, of which servers above the leaves put the objects one behind another
pub groups_explained : explained schema (codes "SELECT b, COUNT(a) AS n FROM T WHERE b <> 'it''s' GROUP BY b") ≡
    Ok (line (codes "leaf: SELECT b AS k0, COUNT(a) AS a0 FROM tablet WHERE (b <> 'it''s') GROUP BY b") ++ (line (codes "inner: SELECT k0, SUM(a0) AS a0 FROM children GROUP BY k0")
    ++ line (codes "root: SELECT k0 AS \"b\", SUM(a0) AS \"n\" FROM children GROUP BY k0")))
unfolding explained parse_schema read_nested parse_nested plain_items argument whole_expression keys bind_nested bind is_utf8 chars nested_text digits
groups_explained = refl

pub objects_explained : explained schema (codes "SELECT a + 1 FROM T") ≡
    Ok (line (codes "leaf: SELECT (a + 1) AS \"f0_\" FROM tablet") ++ (line (codes "inner: CONCAT children") ++ line (codes "root: CONCAT children")))
unfolding explained parse_schema read_nested parse_nested plain_items argument whole_expression keys bind_nested bind is_utf8 chars nested_text digits
objects_explained = refl

-- a condition is told as it was written: ANDs without parentheses from the left, others as the parentheses say, on either side, and below an OR
abbrev told : List ℕ → List ℕ
told condition = line (codes "leaf: SELECT a AS \"a\" FROM tablet WHERE " ++ condition) ++ (line (codes "inner: CONCAT children") ++ line (codes "root: CONCAT children"))

pub conditions_explained : (explained schema (codes "SELECT a FROM T WHERE a > 1 AND (a < 9 AND b LIKE 'x%')") ≡ Ok (told (codes "((a > 1) AND ((a < 9) AND (b LIKE 'x%')))")))
    × (explained schema (codes "SELECT a FROM T WHERE a > 1 AND a < 9 AND b LIKE 'x%'") ≡ Ok (told (codes "(((a > 1) AND (a < 9)) AND (b LIKE 'x%'))")))
    × (explained schema (codes "SELECT a FROM T WHERE (a > 1 AND a < 9) AND (a > 2 AND a < 8)") ≡ Ok (told (codes "(((a > 1) AND (a < 9)) AND ((a > 2) AND (a < 8)))")))
    × (explained schema (codes "SELECT a FROM T WHERE a > 1 AND a < 9 OR b IS NULL") ≡ Ok (told (codes "(((a > 1) AND (a < 9)) OR (b IS NULL))")))
unfolding explained parse_schema read_nested parse_nested plain_items argument whole_expression keys bind_nested bind is_utf8 chars nested_text digits
conditions_explained = (refl, refl, refl, refl)

-- over the results of another query: that stands in parentheses; the order and the limit are the root's
pub nested_explained : explained schema (codes "SELECT c, COUNT(*) AS n FROM (SELECT b AS c FROM T WHERE a > 5) GROUP BY c ORDER BY n DESC LIMIT 3") ≡
    Ok (line (codes "leaf: SELECT c AS k0, COUNT(*) AS a0 FROM (SELECT b AS \"c\" FROM tablet WHERE (a > 5)) GROUP BY c") ++ (line (codes "inner: SELECT k0, SUM(a0) AS a0 FROM children GROUP BY k0")
    ++ line (codes "root: SELECT k0 AS \"c\", SUM(a0) AS \"n\" FROM children GROUP BY k0 ORDER BY \"n\" DESC LIMIT 3")))
unfolding explained parse_schema read_nested parse_nested plain_items argument whole_expression keys bind_nested bind result_schema result_fields is_utf8 chars nested_text digits
nested_explained = refl

pub no_records : explained schema (codes "SELECT n FROM (SELECT COUNT(*) AS n FROM T)") ≡ Err (query_refused (binding_refused (record { place = 15; problem = gives_no_records })))
unfolding explained parse_schema read_nested parse_nested plain_items argument whole_expression keys bind_nested bind result_schema result_fields is_utf8 chars digits
no_records = refl

-- the schema is refused before the query, and the query's text before its fields
pub schema_first : explained (codes "message T { }") (codes "SELECT") ≡ Err (schema_refused (record { place = 12; problem = empty_group }))
unfolding explained parse_schema
schema_first = refl

pub no_query : explained schema (codes "SELECT c FROM") ≡ Err (query_refused (text_refused (record { place = 13; problem = syntax })))
unfolding explained parse_schema read_nested parse_nested plain_items argument whole_expression keys is_utf8 chars digits
no_query = refl

pub no_field : explained schema (codes "SELECT c FROM T") ≡ Err (query_refused (binding_refused (record { place = 7; problem = in_query unknown_field })))
unfolding explained parse_schema read_nested parse_nested plain_items argument whole_expression keys bind_nested bind is_utf8 chars digits
no_field = refl
