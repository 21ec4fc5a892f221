-- What is planned for texts over the worked schema: the leaves that are read, the tests, and what is selected, by computation.
use Rattle.std.specs.Prelude.{◌≡◌, ℕ, List, [], ◌∷◌, map, length, true, false, pos, Option, Some, None, Result, Ok, Err, codes, refl}
use Rattle.std.specs.Fmt.{digits}
use Rattle.std.specs.List.{join_with_byte}
use Rattle.dr_meaning.specs.Path.{Leaf}
use Rattle.dr_meaning.specs.Record.{bool_value, int_value, text_value}
use Rattle.dr_meaning.specs.Expression.{Expression, constant, negative, arithmetic, plus, minus, times, comparison, equal, less, is_null, negation, disjunction}
use Rattle.dr_meaning.specs.Query.{Selection, objects, groups, Query}
use Rattle.dr_meaning.specs.QueryLeaves.{query_leaves}
use Rattle.dr_meaning.specs.Syntax.{QuerySyntax}
use Rattle.dr_meaning.specs.Parse.{parse_query, items, keys, whole_expression, argument, QueryFault}
use Rattle.dr_meaning.specs.BoundExpression.{BindFault}
use Rattle.dr_meaning.specs.Binding.{bind}
use Rattle.dr_partials.specs.PartialTypes.{aggregates_among}
use Rattle.dr_plan.specs.Conjuncts.{condition_conjuncts}
use Rattle.dr_meaning.proofs.WorkedSchemas.{document, document_schema}

abbrev bound : Result Query BindFault → Option Query
bound (Ok q) = Some q
bound (Err e) = None

abbrev bound_syntax : Result QuerySyntax QueryFault → Option Query
bound_syntax (Ok q) = bound (bind document_schema q)
bound_syntax (Err e) = None

-- the query of a text
abbrev pub query_of : List ℕ → Option Query
query_of text = bound_syntax (parse_query text)

-- how many items; or how many keys, aggregates and items
pub data Counts : Type 0 where
  of_objects : ℕ → Counts
  of_groups : ℕ → ℕ → ℕ → Counts

-- the leaves by their names, the number of tests, and what is selected
pub record Told : Type 0 where
  pub leaves : List (List ℕ)
  pub tests : ℕ
  pub selected : Counts

abbrev counts : Selection → Counts
counts (objects is) = of_objects (length is)
counts (groups ks is) = of_groups (length ks) (length (aggregates_among is)) (length is)

abbrev told : List (List ℕ) → ℕ → Counts → Option Told
told ls n c = Some (record { leaves = ls; tests = n; selected = c })

abbrev told_of : Option Query → Option Told
told_of None = None
told_of (Some q) = told (map (λ (l : Leaf). join_with_byte 46 l.names) (query_leaves document q)) (length (condition_conjuncts q.condition)) (counts q.selection)

-- what is planned for a text
abbrev plan : List ℕ → Option Told
plan text = told_of (query_of text)

-- leaves in reading order, the condition cut at its ANDs
pub of_records : (plan (codes "SELECT DocId AS Id, COUNT(Name.Language.Code) WITHIN Name AS Cnt, Name.Url + ',' + Name.Language.Code AS Str FROM Document WHERE Name.Url LIKE 'http%' AND DocId < 20")
    ≡ told (codes "DocId" ∷ codes "Name.Url" ∷ codes "Name.Language.Code" ∷ []) 2 (of_objects 3))
    × (plan (codes "SELECT -DocId * 2, Name.Url IS NULL FROM Document WHERE NOT (DocId = 1 OR FALSE)") ≡ told (codes "DocId" ∷ codes "Name.Url" ∷ []) 1 (of_objects 2))
    × (plan (codes "SELECT 1 FROM Document") ≡ told [] 0 (of_objects 1))
unfolding bind parse_query items keys whole_expression argument query_leaves digits
of_records = (refl, refl, refl)

-- with aggregates; a key that no item names
pub of_groups_by_keys : (plan (codes "SELECT COUNT(*) AS r, COUNT(Name.Url) AS u, SUM(Links.Forward) AS s FROM Document")
    ≡ told (codes "Links.Forward" ∷ codes "Name.Url" ∷ []) 0 (of_groups 0 3 3))
    × (plan (codes "SELECT Name.Language.Country, COUNT(DocId) AS n FROM Document GROUP BY Name.Language.Country")
    ≡ told (codes "DocId" ∷ codes "Name.Language.Country" ∷ []) 0 (of_groups 1 1 2))
    × (plan (codes "SELECT (Name.Url) FROM Document GROUP BY DocId, Name.Url") ≡ told (codes "DocId" ∷ codes "Name.Url" ∷ []) 0 (of_groups 2 0 1))
unfolding bind parse_query items keys whole_expression argument query_leaves digits
of_groups_by_keys = (refl, refl, refl)

-- a name that a path's last one has, and not its first
pub of_a_field_name : plan (codes "SELECT DocId AS Url, Name.Url FROM Document") ≡ told (codes "DocId" ∷ codes "Name.Url" ∷ []) 0 (of_objects 2)
unfolding bind parse_query items keys whole_expression argument query_leaves digits
of_a_field_name = refl

-- ---- conditions

abbrev tests_of : Option Query → List Expression
tests_of None = []
tests_of (Some q) = condition_conjuncts q.condition

abbrev number : ℕ → Expression
number n = constant (int_value (pos n))

abbrev text : List ℕ → Expression
text t = constant (text_value t)

-- each operator that stands inside a condition with one AND at its top, which cuts it in two
pub two_tests : tests_of (query_of (codes "SELECT 1 FROM Document WHERE NOT ((TRUE OR FALSE) = (-2 + 3 - 4 * 5 < 6)) AND (('a' + 'b') = 'c') IS NULL")) ≡
    negation (comparison equal (disjunction (constant (bool_value true)) (constant (bool_value false)))
    (comparison less (arithmetic minus (arithmetic plus (negative (number 2)) (number 3)) (arithmetic times (number 4) (number 5))) (number 6)))
    ∷ is_null (comparison equal (arithmetic plus (text (codes "a")) (text (codes "b"))) (text (codes "c"))) ∷ []
unfolding bind parse_query items keys whole_expression argument digits
two_tests = refl
