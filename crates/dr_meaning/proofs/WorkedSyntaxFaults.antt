-- The faults of query text, by computation: each with its place.
use Rattle.std.specs.Prelude.{◌≡◌, ℕ, List, [], ◌∷◌, ◌++◌, map, replicate, Option, Some, None, Result, Ok, Err, codes, refl}
use Rattle.std.specs.List.{flat_map}
use Rattle.dr_meaning.specs.Syntax.{QuerySyntax}
use Rattle.dr_meaning.specs.Parse.{parse_query, items, keys, whole_expression, argument, QueryFault, QueryProblem, too_long, syntax, too_deep, too_many}

-- the place and the problem of a fault
abbrev fault_in : Result QuerySyntax QueryFault → Option (ℕ × QueryProblem)
fault_in (Ok q) = None
fault_in (Err e) = Some (e.place, e.problem)

abbrev places : List ℕ → Option (ℕ × QueryProblem)
places bytes = fault_in (parse_query bytes)

-- ---- Syntax: the first token with which the tokens so far begin no query

-- the text ends too early: its length is told
pub ends_early : map places (
    codes "" ∷ codes "  " ∷ codes "SELECT" ∷ codes "SELECT a" ∷ codes "SELECT a FROM" ∷ codes "SELECT a FROM  " ∷ codes "SELECT a FROM T WHERE" ∷
    codes "SELECT a FROM T GROUP" ∷ codes "SELECT a FROM T GROUP BY" ∷ codes "SELECT a," ∷ codes "SELECT COUNT(*) WITHIN" ∷ codes "SELECT a AS" ∷
    codes "SELECT a." ∷ codes "SELECT a NOT" ∷ codes "SELECT a IS" ∷ codes "SELECT a =" ∷ codes "SELECT (a" ∷ []) ≡ map (λ i. Some (i, syntax)) (
    0 ∷ 2 ∷ 6 ∷ 8 ∷ 13 ∷ 15 ∷ 21 ∷ 21 ∷ 24 ∷ 9 ∷ 22 ∷ 11 ∷ 9 ∷ 12 ∷ 11 ∷ 10 ∷ 9 ∷ [])
unfolding parse_query items keys whole_expression argument
ends_early = refl

-- words that are missing, doubled or in another order
pub words : map places (
    codes "a" ∷ codes "FROM T" ∷ codes "SELECT FROM Document" ∷ codes "SELECT SELECT" ∷ codes "SELECT a WHERE b" ∷ codes "SELECT a FROM T FROM T" ∷
    codes "SELECT a FROM T WHERE b WHERE c" ∷ codes "SELECT a FROM T GROUP BY b WHERE c" ∷ codes "SELECT a FROM T GROUP b" ∷
    codes "SELECT a FROM T x" ∷ codes "SELECT a FROM T, U" ∷ codes "SELECT a FROM T.b" ∷ []) ≡ map (λ i. Some (i, syntax)) (
    0 ∷ 0 ∷ 7 ∷ 7 ∷ 9 ∷ 16 ∷ 24 ∷ 27 ∷ 22 ∷ 16 ∷ 15 ∷ 15 ∷ [])
unfolding parse_query items keys whole_expression argument
words = refl

-- a semicolon stands at the end, once
pub semicolons : map places (
    codes "SELECT a FROM T;;" ∷ codes "SELECT a FROM T; a" ∷ codes "SELECT a; FROM T" ∷ []) ≡ map (λ i. Some (i, syntax)) (
    16 ∷ 17 ∷ 8 ∷ [])
unfolding parse_query items keys whole_expression argument
semicolons = refl

-- items: no comma too many, no reserved word for a name
pub commas : map places (
    codes "SELECT , a FROM T" ∷ codes "SELECT a, FROM T" ∷ codes "SELECT a, , b FROM T" ∷ codes "SELECT a b FROM T" ∷ codes "SELECT a AS FROM T" ∷
    codes "SELECT a AS 'b' FROM T" ∷ codes "SELECT a AS b AS c FROM T" ∷ codes "SELECT Select FROM T" ∷ codes "SELECT a.count FROM T" ∷
    codes "SELECT * FROM T" ∷ codes "SELECT a FROM 'T'" ∷ codes "SELECT a FROM group" ∷ []) ≡ map (λ i. Some (i, syntax)) (
    7 ∷ 10 ∷ 10 ∷ 9 ∷ 12 ∷ 12 ∷ 14 ∷ 7 ∷ 9 ∷ 7 ∷ 14 ∷ 14 ∷ [])
unfolding parse_query items keys whole_expression argument
commas = refl

-- aggregates: the star behind COUNT alone, none inside an expression
pub aggregates : map places (
    codes "SELECT COUNT() FROM T" ∷ codes "SELECT COUNT a FROM T" ∷ codes "SELECT SUM(*) FROM T" ∷ codes "SELECT COUNT(*, a) FROM T" ∷
    codes "SELECT COUNT(a) + 1 FROM T" ∷ codes "SELECT 1 + COUNT(a) FROM T" ∷ codes "SELECT COUNT(COUNT(a)) FROM T" ∷
    codes "SELECT (SUM(a)) FROM T" ∷ codes "SELECT COUNT(*) WITHIN FROM T" ∷ codes "SELECT COUNT(*) WITHIN (a) FROM T" ∷
    codes "SELECT COUNT(*) AS n WITHIN RECORD FROM T" ∷ codes "SELECT a WITHIN RECORD FROM T" ∷ codes "SELECT a FROM T WHERE MIN(a)" ∷ []) ≡ map (λ i. Some (i, syntax)) (
    13 ∷ 13 ∷ 11 ∷ 14 ∷ 16 ∷ 11 ∷ 13 ∷ 8 ∷ 23 ∷ 23 ∷ 21 ∷ 9 ∷ 22 ∷ [])
unfolding parse_query items keys whole_expression argument
aggregates = refl

-- expressions: operands and operators take turns, and a sum is tested once
pub expressions : map places (
    codes "SELECT a = b = c FROM T" ∷ codes "SELECT a < b LIKE 'c' FROM T" ∷ codes "SELECT a IS NULL IS NULL FROM T" ∷
    codes "SELECT a LIKE b FROM T" ∷ codes "SELECT a CONTAINS 1 FROM T" ∷ codes "SELECT a NOT b FROM T" ∷ codes "SELECT a NOT = b FROM T" ∷
    codes "SELECT a NOT IS NULL FROM T" ∷ codes "SELECT a IS b FROM T" ∷ codes "SELECT a IS NOT TRUE FROM T" ∷ codes "SELECT a + * b FROM T" ∷
    codes "SELECT a 1 FROM T" ∷ codes "SELECT a = NOT b FROM T" ∷ codes "SELECT a + NOT b FROM T" ∷ codes "SELECT -NOT a FROM T" ∷
    codes "SELECT a AND OR b FROM T" ∷ codes "SELECT a (b) FROM T" ∷ codes "SELECT 1.5 FROM T" ∷ codes "SELECT 'a'.b FROM T" ∷ []) ≡ map (λ i. Some (i, syntax)) (
    13 ∷ 13 ∷ 17 ∷ 14 ∷ 18 ∷ 13 ∷ 13 ∷ 13 ∷ 12 ∷ 16 ∷ 11 ∷ 9 ∷ 11 ∷ 11 ∷ 8 ∷ 13 ∷ 9 ∷ 8 ∷ 10 ∷ [])
unfolding parse_query items keys whole_expression argument
expressions = refl

-- parentheses
pub parentheses : map places (
    codes "SELECT () FROM T" ∷ codes "SELECT (a FROM T" ∷ codes "SELECT a) FROM T" ∷ codes "SELECT (a.b).c FROM T" ∷ codes "SELECT ((a) FROM T" ∷
    codes "SELECT (a AS b) FROM T" ∷ codes "SELECT (a, b) FROM T" ∷ []) ≡ map (λ i. Some (i, syntax)) (
    8 ∷ 10 ∷ 8 ∷ 12 ∷ 12 ∷ 10 ∷ 9 ∷ [])
unfolding parse_query items keys whole_expression argument
parentheses = refl

-- keys are paths
pub key_paths : map places (
    codes "SELECT a FROM T GROUP BY 1" ∷ codes "SELECT a FROM T GROUP BY (a)" ∷ codes "SELECT a FROM T GROUP BY a + b" ∷
    codes "SELECT a FROM T GROUP BY a, ;" ∷ codes "SELECT a FROM T GROUP BY COUNT(*)" ∷ codes "SELECT a FROM T GROUP BY a AS b" ∷ []) ≡ map (λ i. Some (i, syntax)) (
    25 ∷ 25 ∷ 27 ∷ 28 ∷ 25 ∷ 27 ∷ [])
unfolding parse_query items keys whole_expression argument
key_paths = refl

-- bad tokens: an unclosed quote, a wide number, no name in double quotes, a byte that begins none
pub bad_tokens : map places (
    codes "SELECT 'abc FROM T" ∷ codes "SELECT 'abc''" ∷ codes "SELECT \"a FROM T" ∷ codes "SELECT 9223372036854775808 FROM T" ∷
    codes "SELECT a + \"a b\" FROM T" ∷ codes "SELECT a ! FROM T" ∷ codes "SELECT a FROM T; #" ∷ []) ≡ map (λ i. Some (i, syntax)) (
    7 ∷ 7 ∷ 7 ∷ 7 ∷ 11 ∷ 9 ∷ 17 ∷ [])
unfolding parse_query items keys whole_expression argument
bad_tokens = refl

-- the first of two faults
pub first_of_two : map places (
    codes "SELECT FROM 'T" ∷ codes "SELECT (a FROM )" ∷ []) ≡ map (λ i. Some (i, syntax)) (
    7 ∷ 10 ∷ [])
unfolding parse_query items keys whole_expression argument
first_of_two = refl

-- ---- limits

-- a text, so often
abbrev times : ℕ → List ℕ → List ℕ
times n bytes = flat_map (λ b. b) (replicate n bytes)

-- items between SELECT and FROM
abbrev of_items : List ℕ → List ℕ
of_items bytes = codes "SELECT " ++ (bytes ++ codes " FROM T")

-- more than 65,536 bytes are TooLong, whatever they say
pub too_long_text : map places (replicate 65537 40 ∷ replicate 65536 40 ∷ []) ≡ Some (65536, too_long) ∷ Some (0, syntax) ∷ []
unfolding parse_query items keys whole_expression argument
too_long_text = refl

-- 32 parentheses, NOTs before a `not` or minus signs before a `unary` may be open, also of several kinds; what is closed counts no more
pub deepest : map places (of_items (times 32 (codes "(") ++ codes "a" ++ times 32 (codes ")")) ∷ of_items (times 32 (codes "NOT ") ++ codes "a NOT LIKE 'b'")
    ∷ of_items (times 32 (codes "NOT ") ++ codes "a IS NOT NULL") ∷ of_items (times 32 (codes "- ") ++ codes "a")
    ∷ of_items (times 8 (codes "NOT (-(") ++ codes "a" ++ times 8 (codes "))")) ∷ of_items (times 31 (codes "(") ++ codes "(a)+(b)" ++ times 31 (codes ")"))
    ∷ of_items (times 31 (codes "(") ++ codes "-a * -b" ++ times 31 (codes ")")) ∷ of_items (times 40 (codes "(a)+") ++ codes "a") ∷ [])
    ≡ replicate 8 None
unfolding parse_query items keys whole_expression argument
deepest = refl

-- the token that opens the 33rd is TooDeep, in an item, in a condition
pub one_too_deep : map places (of_items (times 33 (codes "(") ++ codes "a" ++ times 33 (codes ")")) ∷ of_items (times 33 (codes "NOT ") ++ codes "a")
    ∷ of_items (times 33 (codes "- ") ++ codes "a") ∷ of_items (times 8 (codes "NOT (-(") ++ codes "-a" ++ times 8 (codes "))"))
    ∷ of_items (times 8 (codes "NOT (-(") ++ codes "NOT a") ∷ (codes "SELECT a FROM T WHERE " ++ times 33 (codes "(")) ∷ [])
    ≡ Some (39, too_deep) ∷ Some (135, too_deep) ∷ Some (71, too_deep) ∷ Some (63, too_deep) ∷ Some (63, too_deep) ∷ Some (54, too_deep) ∷ []
unfolding parse_query items keys whole_expression argument
one_too_deep = refl

-- an aggregate's own parenthesis counts, and is no more open behind it
pub aggregates_nest : map places (of_items (codes "COUNT(" ++ times 31 (codes "(") ++ codes "a" ++ times 32 (codes ")"))
    ∷ of_items (codes "COUNT(" ++ times 32 (codes "(") ++ codes "a" ++ times 33 (codes ")"))
    ∷ of_items (codes "COUNT(*),SUM(a)," ++ times 32 (codes "(") ++ codes "a" ++ times 32 (codes ")")) ∷ [])
    ≡ None ∷ Some (44, too_deep) ∷ None ∷ []
unfolding parse_query items keys whole_expression argument
aggregates_nest = refl

-- where no 33rd nesting may begin there is no query at all: Syntax
pub syntax_before_too_deep : map places (of_items (times 32 (codes "(") ++ codes "a(") ∷ of_items (times 32 (codes "(") ++ codes "a NOT") ∷ of_items (times 32 (codes "-") ++ codes "NOT a") ∷ [])
    ≡ Some (40, syntax) ∷ Some (45, syntax) ∷ Some (39, syntax) ∷ []
unfolding parse_query items keys whole_expression argument
syntax_before_too_deep = refl

-- 256 items; the first token of the 257th is TooMany, whichever item it begins, and Syntax where it begins none
pub most : map places (of_items (times 255 (codes "a,") ++ codes "a") ∷ of_items (times 256 (codes "a,") ++ codes "*") ∷ of_items (times 256 (codes "a,")) ∷ of_items (times 256 (codes "a,") ++ codes "IS") ∷ [])
    ≡ None ∷ Some (519, syntax) ∷ Some (520, syntax) ∷ Some (519, syntax) ∷ []
unfolding parse_query items keys whole_expression argument
most = refl

pub one_too_many : map (λ e. places (of_items (times 256 (codes "a,") ++ e)))
    (codes "a" ∷ codes "\"a\"" ∷ codes "1" ∷ codes "'a'" ∷ codes "TRUE" ∷ codes "FALSE" ∷ codes "(a)" ∷ codes "-a" ∷ codes "NOT a" ∷ codes "COUNT(*)" ∷ codes "SUM(a)" ∷ codes "MIN(a)" ∷ codes "MAX *" ∷ [])
    ≡ replicate 13 (Some (519, too_many))
unfolding parse_query items keys whole_expression argument
one_too_many = refl

-- 256 keys; the 257th is TooMany, and Syntax where it is none
pub keys_limit : map (λ e. places (codes "SELECT a FROM T GROUP BY " ++ e))
    ((times 255 (codes "b,") ++ codes "b") ∷ (times 256 (codes "b,") ++ codes "b") ∷ (times 256 (codes "b,") ++ codes "1") ∷ times 256 (codes "b,") ∷
    [])
    ≡ None ∷ Some (537, too_many) ∷ Some (537, syntax) ∷ Some (537, syntax) ∷ []
unfolding parse_query items keys whole_expression argument
keys_limit = refl

-- 512 operators of each kind, and the 513th
pub operators_limit : map (λ e. places (of_items e))
    ((times 512 (codes "a+") ++ codes "a") ∷ (times 513 (codes "a+") ++ codes "a") ∷ (times 513 (codes "a-") ++ codes "a") ∷
    (times 513 (codes "a*") ++ codes "a") ∷ (times 513 (codes "a AND ") ++ codes "a") ∷ (times 513 (codes "a OR ") ++ codes "a") ∷
    (times 256 (codes "-a+") ++ codes "a") ∷ (times 256 (codes "-a+") ++ codes "-a") ∷ [])
    ≡ None ∷ Some (1032, too_many) ∷ Some (1032, too_many) ∷ Some (1032, too_many) ∷ Some (3081, too_many) ∷ Some (2569, too_many) ∷ None ∷ Some (775, too_many) ∷ []
unfolding parse_query items keys whole_expression argument
operators_limit = refl

-- the star of COUNT(*) counts, and those of all items and the condition count together; comparisons and NOT don't count
pub operators_together : map places (of_items (codes "COUNT(*)," ++ times 511 (codes "a+") ++ codes "a") ∷ of_items (codes "COUNT(*)," ++ times 512 (codes "a+") ++ codes "a")
    ∷ of_items (times 512 (codes "a+") ++ codes "a,COUNT(*)") ∷ (codes "SELECT " ++ (times 512 (codes "a+") ++ codes "a FROM T WHERE b AND c"))
    ∷ of_items (codes "NOT " ++ times 512 (codes "a+") ++ codes "a = b") ∷ of_items (times 512 (codes "a+") ++ codes "a NOT LIKE 'b', NOT (a < b)") ∷ [])
    ≡ None ∷ Some (1039, too_many) ∷ Some (1039, too_many) ∷ Some (1048, too_many) ∷ None ∷ None ∷ []
unfolding parse_query items keys whole_expression argument
operators_together = refl

-- at one place Syntax comes before TooMany, and TooDeep before TooMany: the 33rd minus sign as 513th operator; as 514th
pub order_at_one_place : map (λ e. places (of_items e))
    ((times 512 (codes "a+") ++ codes "+a") ∷ (times 512 (codes "a+") ++ codes "*a") ∷ (times 512 (codes "a+") ++ codes "-a") ∷
    (times 512 (codes "a+") ++ codes "a,SUM(*)") ∷ (times 480 (codes "a+") ++ times 33 (codes "-") ++ codes "a") ∷
    (times 481 (codes "a+") ++ times 33 (codes "-") ++ codes "a") ∷ [])
    ≡ Some (1031, syntax) ∷ Some (1031, syntax) ∷ Some (1031, too_many) ∷ Some (1037, syntax) ∷ Some (999, too_deep) ∷ Some (1000, too_many) ∷ []
unfolding parse_query items keys whole_expression argument
order_at_one_place = refl
