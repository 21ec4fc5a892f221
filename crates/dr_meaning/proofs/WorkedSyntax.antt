-- The syntax trees of queries, by computation.
use Rattle.std.specs.Prelude.{◌≡◌, ℕ, List, [], ◌∷◌, ◌++◌, map, true, false, Option, Some, None, Result, Ok, Err, codes, refl}
use Rattle.dr_meaning.specs.Expression.{plus, minus, times, equal, unequal, less, at_most, greater, at_least}
use Rattle.dr_meaning.specs.Query.{count, sum, least, greatest}
use Rattle.dr_meaning.specs.Syntax.{ExpressionSyntax, number_literal, text_literal, truth_literal, path, negative, arithmetic, comparison, like, contains}
use Rattle.dr_meaning.specs.Syntax.{is_null, negation, conjunction, disjunction, NameSyntax, PathSyntax, whole_record, node, WithinSyntax, TermSyntax, expression}
use Rattle.dr_meaning.specs.Syntax.{count_rows, aggregate, ItemSyntax, ConditionSyntax, QuerySyntax}
use Rattle.dr_meaning.specs.Parse.{parse_query, items, keys, whole_expression, argument, QueryFault}

-- the expressions of a query's items
abbrev expression_in : TermSyntax → Option ExpressionSyntax
expression_in (expression e) = Some e
expression_in t = None

abbrev expressions_in : Result QuerySyntax QueryFault → List (Option ExpressionSyntax)
expressions_in (Ok q) = map (λ (i : ItemSyntax). expression_in i.term) q.items
expressions_in (Err e) = []

-- an expression read as the only item of a query: its places begin at 7
abbrev tree : List ℕ → List (Option ExpressionSyntax)
tree bytes = expressions_in (parse_query (codes "SELECT " ++ (bytes ++ codes " FROM T")))

abbrev is : ExpressionSyntax → List (Option ExpressionSyntax)
is e = Some e ∷ []

abbrev names_at : ℕ → List (List ℕ) → PathSyntax
names_at i ns = record { place = i; names = ns }

-- paths of one name
abbrev a_at : ℕ → ExpressionSyntax
a_at i = path (names_at i (codes "a" ∷ []))

abbrev b_at : ℕ → ExpressionSyntax
b_at i = path (names_at i (codes "b" ∷ []))

abbrev c_at : ℕ → ExpressionSyntax
c_at i = path (names_at i (codes "c" ∷ []))

abbrev d_at : ℕ → ExpressionSyntax
d_at i = path (names_at i (codes "d" ∷ []))

abbrev e_at : ℕ → ExpressionSyntax
e_at i = path (names_at i (codes "e" ∷ []))

abbrev f_at : ℕ → ExpressionSyntax
f_at i = path (names_at i (codes "f" ∷ []))

-- ---- which operator binds closer: OR, AND, NOT, comparison, sum, product, minus sign

pub looser_to_closer : tree (codes "a OR b AND NOT c = d + e * -f") ≡
    is (disjunction 9 (a_at 7) (conjunction 14 (b_at 12) (negation 18 (comparison 24 equal (c_at 22) (arithmetic 28 plus (d_at 26) (arithmetic 32 times (e_at 30) (negative 34 (f_at 35))))))))
unfolding parse_query items keys whole_expression argument
looser_to_closer = refl

pub closer_to_looser : tree (codes "-a * b + c = d AND NOT e OR f") ≡
    is (disjunction 32 (conjunction 22 (comparison 18 equal (arithmetic 14 plus (arithmetic 10 times (negative 7 (a_at 8)) (b_at 12)) (c_at 16)) (d_at 20)) (negation 26 (e_at 30))) (f_at 35))
unfolding parse_query items keys whole_expression argument
closer_to_looser = refl

pub or_of_ands : tree (codes "a AND b OR c AND d") ≡ is (disjunction 15 (conjunction 9 (a_at 7) (b_at 13)) (conjunction 20 (c_at 18) (d_at 24)))
unfolding parse_query items keys whole_expression argument
or_of_ands = refl

-- NOT is looser than a comparison, and a minus sign closer than a product; both may be repeated
pub prefixes : (tree (codes "NOT NOT a < b") ≡ is (negation 7 (negation 11 (comparison 17 less (a_at 15) (b_at 19))))) × (tree (codes "--a*b") ≡ is (arithmetic 10 times (negative 7 (negative 8 (a_at 9))) (b_at 11)))
    × (tree (codes "a - -b") ≡ is (arithmetic 9 minus (a_at 7) (negative 11 (b_at 12))))
unfolding parse_query items keys whole_expression argument
prefixes = (refl, refl, refl)

-- ---- chains of one operator associate to the left, + and - together

pub chains : (tree (codes "a - b - c") ≡ is (arithmetic 13 minus (arithmetic 9 minus (a_at 7) (b_at 11)) (c_at 15)))
    × (tree (codes "a + b - c + d") ≡ is (arithmetic 17 plus (arithmetic 13 minus (arithmetic 9 plus (a_at 7) (b_at 11)) (c_at 15)) (d_at 19)))
    × (tree (codes "a * b * c") ≡ is (arithmetic 13 times (arithmetic 9 times (a_at 7) (b_at 11)) (c_at 15)))
    × (tree (codes "a OR b OR c") ≡ is (disjunction 14 (disjunction 9 (a_at 7) (b_at 12)) (c_at 17)))
    × (tree (codes "a AND b AND c") ≡ is (conjunction 15 (conjunction 9 (a_at 7) (b_at 13)) (c_at 19)))
unfolding parse_query items keys whole_expression argument
chains = (refl, refl, refl, refl, refl)

-- ---- parentheses

pub parentheses : (tree (codes "a - (b - c)") ≡ is (arithmetic 9 minus (a_at 7) (arithmetic 14 minus (b_at 12) (c_at 16)))) × (tree (codes "(a OR b) AND c") ≡ is (conjunction 16 (disjunction 10 (a_at 8) (b_at 13)) (c_at 20)))
    × (tree (codes "(a = b) = (c = d)") ≡ is (comparison 15 equal (comparison 10 equal (a_at 8) (b_at 12)) (comparison 20 equal (c_at 18) (d_at 22)))) × (tree (codes "-(a + b)") ≡ is (negative 7 (arithmetic 11 plus (a_at 9) (b_at 13))))
unfolding parse_query items keys whole_expression argument
parentheses = (refl, refl, refl, refl)

-- a path in parentheses is that path, at the place of its first name
pub path_in_parentheses : (tree (codes "(a)") ≡ is (a_at 8)) × (tree (codes "(((a)))") ≡ is (a_at 10)) × (tree (codes "( Name.Url )") ≡ is (path (names_at 9 (codes "Name" ∷ codes "Url" ∷ []))))
unfolding parse_query items keys whole_expression argument
path_in_parentheses = (refl, refl, refl)

-- ---- tests

pub comparisons : (tree (codes "a=b") ≡ is (comparison 8 equal (a_at 7) (b_at 9))) × (tree (codes "a<>b") ≡ is (comparison 8 unequal (a_at 7) (b_at 10))) × (tree (codes "a<b") ≡ is (comparison 8 less (a_at 7) (b_at 9)))
    × (tree (codes "a<=b") ≡ is (comparison 8 at_most (a_at 7) (b_at 10))) × (tree (codes "a>b") ≡ is (comparison 8 greater (a_at 7) (b_at 9))) × (tree (codes "a>=b") ≡ is (comparison 8 at_least (a_at 7) (b_at 10)))
unfolding parse_query items keys whole_expression argument
comparisons = (refl, refl, refl, refl, refl, refl)

-- the left side of a test is a sum; `''` is a quote
pub text_tests : (tree (codes "a + b LIKE 'c%'") ≡ is (like 13 (arithmetic 9 plus (a_at 7) (b_at 11)) (codes "c%"))) × (tree (codes "NOT a CONTAINS 'x''y' AND b") ≡ is (conjunction 29 (negation 7 (contains 13 (a_at 11) (codes "x'y"))) (b_at 33)))
    × (tree (codes "'a' LIKE ''") ≡ is (like 11 (text_literal (codes "a")) [])) × (tree (codes "a IS NULL OR b") ≡ is (disjunction 17 (is_null 9 (a_at 7)) (b_at 20)))
unfolding parse_query items keys whole_expression argument
text_tests = (refl, refl, refl, refl)

-- NOT behind the left side: the test's negation, both at the place of LIKE, CONTAINS or IS
pub denied_tests : (tree (codes "a NOT LIKE 'b'") ≡ is (negation 13 (like 13 (a_at 7) (codes "b")))) × (tree (codes "a not contains 'b'") ≡ is (negation 13 (contains 13 (a_at 7) (codes "b"))))
    × (tree (codes "a IS NOT NULL") ≡ is (negation 9 (is_null 9 (a_at 7)))) × (tree (codes "NOT a NOT LIKE 'b'") ≡ is (negation 7 (negation 17 (like 17 (a_at 11) (codes "b")))))
unfolding parse_query items keys whole_expression argument
denied_tests = (refl, refl, refl, refl)

-- ---- literals and paths

-- any literal may stand anywhere; what fits what is no matter of syntax
pub literals : (tree (codes "0012 + TRUE") ≡ is (arithmetic 12 plus (number_literal 12) (truth_literal true))) × (tree (codes "false") ≡ is (truth_literal false)) × (tree (codes "-'it''s'") ≡ is (negative 7 (text_literal (codes "it's"))))
unfolding parse_query items keys whole_expression argument
literals = (refl, refl, refl)

-- blanks may stand between the parts; a reserved word in double quotes is a name
pub paths : (tree (codes "Name . Language.\tCode") ≡ is (path (names_at 7 (codes "Name" ∷ codes "Language" ∷ codes "Code" ∷ [])))) × (tree (codes "\"select\".a.\"Group\"") ≡ is (path (names_at 7 (codes "select" ∷ codes "a" ∷ codes "Group" ∷ []))))
unfolding parse_query items keys whole_expression argument
paths = (refl, refl)

-- ---- queries

abbrev item_at : ℕ → TermSyntax → Option (List ℕ) → ItemSyntax
item_at i t n = record { place = i; term = t; name = n }

abbrev name_at : ℕ → List ℕ → NameSyntax
name_at i n = record { place = i; name = n }

abbrev within_at : ℕ → Option PathSyntax → Option WithinSyntax
within_at i None = Some (record { place = i; node = whole_record })
within_at i (Some p) = Some (record { place = i; node = node p })

abbrev asked : List ItemSyntax → NameSyntax → Option ConditionSyntax → List PathSyntax → Result QuerySyntax QueryFault
asked is t c ks = Ok (record { items = is; table = t; condition = c; keys = ks })

-- the shortest; blanks of every kind, words in any case, the semicolon
pub short_queries : (parse_query (codes "SELECT a FROM T") ≡ asked (item_at 7 (expression (a_at 7)) None ∷ []) (name_at 14 (codes "T")) None [])
    × (parse_query (codes "\r\n select\t(a)as b from \"From\" ; ") ≡ asked (item_at 10 (expression (a_at 11)) (Some (codes "b")) ∷ []) (name_at 23 (codes "From")) None [])
unfolding parse_query items keys whole_expression argument
short_queries = (refl, refl)

-- aggregates: the item's place is that of the word; WITHIN has its own
pub aggregates : parse_query (codes "SELECT COUNT(*), count ( a.b ), SUM(a) WITHIN RECORD, MIN(-a) WITHIN a . b AS m, MAX((a)) AS \"max\", COUNT(*) WITHIN a FROM T") ≡ asked
    (item_at 7 (count_rows None) None
    ∷ item_at 17 (aggregate count (path (names_at 25 (codes "a" ∷ codes "b" ∷ []))) None) None
    ∷ item_at 32 (aggregate sum (a_at 36) (within_at 39 None)) None
    ∷ item_at 54 (aggregate least (negative 58 (a_at 59)) (within_at 62 (Some (names_at 69 (codes "a" ∷ codes "b" ∷ []))))) (Some (codes "m"))
    ∷ item_at 81 (aggregate greatest (a_at 86) None) (Some (codes "max"))
    ∷ item_at 100 (count_rows (within_at 109 (Some (names_at 116 (codes "a" ∷ []))))) None ∷ [])
    (name_at 123 (codes "T")) None []
unfolding parse_query items keys whole_expression argument
aggregates = refl

-- all clauses: the condition has the place of its first token; the order of items and of keys is kept
pub whole_query : parse_query (codes "SELECT b, COUNT(*) AS n, a FROM T WHERE (a > 1) AND b GROUP BY a, b.c, \"by\";") ≡ asked
    (item_at 7 (expression (b_at 7)) None ∷ item_at 10 (count_rows None) (Some (codes "n")) ∷ item_at 25 (expression (a_at 25)) None ∷ [])
    (name_at 32 (codes "T")) (Some (record { place = 40; expression = conjunction 48 (comparison 43 greater (a_at 41) (number_literal 1)) (b_at 52) }))
    (names_at 63 (codes "a" ∷ []) ∷ names_at 66 (codes "b" ∷ codes "c" ∷ []) ∷ names_at 71 (codes "by" ∷ []) ∷ [])
unfolding parse_query items keys whole_expression argument
whole_query = refl

-- GROUP BY without WHERE, WHERE without GROUP BY
pub one_clause : (parse_query (codes "SELECT a FROM T GROUP BY a") ≡ asked (item_at 7 (expression (a_at 7)) None ∷ []) (name_at 14 (codes "T")) None (names_at 25 (codes "a" ∷ []) ∷ []))
    × (parse_query (codes "SELECT a FROM T WHERE NOT a;") ≡ asked (item_at 7 (expression (a_at 7)) None ∷ []) (name_at 14 (codes "T")) (Some (record { place = 22; expression = negation 22 (a_at 26) })) [])
unfolding parse_query items keys whole_expression argument
one_clause = (refl, refl)
