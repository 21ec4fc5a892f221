-- The text of a query over the results of others: FROM ( name | "(" query ")" ), and of its order and limit. A
-- parenthesis of FROM is a nesting of what stands in it; items and keys are counted in each SELECT by itself, the
-- tokens among + - * AND OR over the whole text.
use Rattle.std.specs.Prelude.{Bool, true, false, ℕ, zero, suc, ◌∷◌, List, [], ◌++◌, length, nat_lt, if◌then◌else◌, Option, Some, None, Result, Err}
use Rattle.dr_meaning.specs.Tokens.{select_word, from_word, where_word, by_word, order_word, limit_word, asc_word, desc_word, open_parenthesis, close_parenthesis, QueryToken, number, longest_query}
use Rattle.dr_meaning.specs.Query.{Aggregate}
use Rattle.dr_meaning.specs.Syntax.{NameSyntax, PathSyntax, TermSyntax, expression, aggregate, ItemSyntax, ConditionSyntax, QuerySyntax}
use Rattle.dr_meaning.specs.Parse.{greatest_nesting, too_long, too_deep, QueryFault, Production, give, ◌>>=◌, here, problem_here, if_next, by_next}
use Rattle.dr_meaning.specs.Parse.{any_token, token_as, path_names, is_the_sign, word, mark, aggregate_in, expression_of, nested, elements, begins_item, within_part, counts_rows}
use Rattle.dr_meaning.specs.Parse.{rows_argument, as_part, table_name, is_the_word, group_part, end_part, result_of, unread_text}
use Rattle.dr_sub_meaning.specs.ResultRecords.{result_message}

-- ORDER BY: a path, and whether DESC stands behind it
pub record OrderSyntax : Type 0 where
  pub path : PathSyntax
  pub descending : Bool

-- a SELECT of a text, with the place of that word, its order and its limit. One that isn't over a table has the name of
-- a result's message for the name of its table
pub record PlacedQuery : Type 0 where
  pub place : ℕ
  pub query : QuerySyntax
  pub order : Option OrderSyntax
  pub limit : Option ℕ

-- the SELECT over the table, which is the innermost, and those over one another
pub record NestedSyntax : Type 0 where
  pub first : PlacedQuery
  pub others : List PlacedQuery

-- ---- items and conditions where so many nestings are left

-- expr in the parenthesis of an aggregate, which is a nesting: TooDeep at the parenthesis where none is left
abbrev pub argument_term : ℕ → Aggregate → Production TermSyntax
argument_term n a = do
  e ← expression_of (nested n)
  _ ← mark close_parenthesis
  w ← within_part
  give (aggregate a e w)

abbrev pub opened_term : ℕ → Aggregate → Production TermSyntax
opened_term zero a = if_next (is_the_sign open_parenthesis) (problem_here too_deep) (do
  _ ← mark open_parenthesis
  rows_argument)
opened_term (suc n) a = do
  _ ← mark open_parenthesis
  if_next (counts_rows a) rows_argument (argument_term n a)

abbrev pub aggregate_term : ℕ → Aggregate → Production TermSyntax
aggregate_term n a = do
  _ ← any_token
  opened_term n a

abbrev pub expression_term : ℕ → Production TermSyntax
expression_term n = do
  e ← expression_of (nested n)
  give (expression e)

abbrev pub item : ℕ → Production ItemSyntax
item n = do
  i ← here
  t ← by_next aggregate_in (aggregate_term n) (expression_term n)
  m ← as_part
  give (record { place = i; term = t; name = m })

abbrev pub items : ℕ → Production (List ItemSyntax)
items n = elements begins_item (item n) 255

abbrev pub where_part : ℕ → Production (Option ConditionSyntax)
where_part n = if_next (is_the_word where_word) (do
  _ ← any_token
  i ← here
  e ← expression_of (nested n)
  give (Some (record { place = i; expression = e }))) (give None)

-- ---- [ORDER BY path [ASC|DESC]] [LIMIT number]

-- [ASC|DESC]
abbrev pub direction : Production Bool
direction = if_next (is_the_word desc_word) (do
  _ ← any_token
  give true) (if_next (is_the_word asc_word) (do
    _ ← any_token
    give false) (give false))

abbrev pub order_part : Production (Option OrderSyntax)
order_part = if_next (is_the_word order_word) (do
  _ ← any_token
  _ ← word by_word
  p ← path_names
  d ← direction
  give (Some (record { path = p; descending = d }))) (give None)

abbrev pub number_in : QueryToken → Option ℕ
number_in (number n) = Some n
number_in t = None

abbrev pub limit_part : Production (Option ℕ)
limit_part = if_next (is_the_word limit_word) (do
  _ ← any_token
  n ← token_as number_in
  give (Some n)) (give None)

-- ---- query = SELECT item {"," item} FROM ( name | "(" query ")" ) [WHERE expr] [GROUP BY path {"," path}] [ORDER BY path [ASC|DESC]] [LIMIT number]

-- what FROM has: the name of the table, or the SELECTs in parentheses and the place of these
pub record FromSyntax : Type 0 where
  pub table : NameSyntax
  pub inner : Option NestedSyntax

abbrev pub from_table : Production FromSyntax
from_table = do
  t ← table_name
  give (record { table = t; inner = None })

-- a SELECT over what FROM has
abbrev pub over_from : PlacedQuery → Option NestedSyntax → NestedSyntax
over_from p None = record { first = p; others = [] }
over_from p (Some n) = record { first = n.first; others = n.others ++ p ∷ [] }

-- a SELECT over what this reads behind FROM, where so many nestings are left
abbrev pub select_from : Production FromSyntax → ℕ → Production NestedSyntax
select_from from n = do
  i ← word select_word
  xs ← items n
  _ ← word from_word
  f ← from
  c ← where_part n
  ks ← group_part
  o ← order_part
  l ← limit_part
  give (over_from (record { place = i; query = record { items = xs; table = f.table; condition = c; keys = ks }; order = o; limit = l }) f.inner)

-- name | "(" query ")"
abbrev pub from_part : ℕ → Production FromSyntax
from_part zero = if_next (is_the_sign open_parenthesis) (problem_here too_deep) from_table
from_part (suc n) = if_next (is_the_sign open_parenthesis) (do
  i ← any_token
  q ← select_from (from_part n) n
  _ ← mark close_parenthesis
  give (record { table = record { place = i; name = result_message }; inner = Some q })) from_table

abbrev pub select : ℕ → Production NestedSyntax
select n = select_from (from_part n) n

-- query [";"]
abbrev pub whole_query : Production NestedSyntax
whole_query = do
  q ← select greatest_nesting
  _ ← end_part
  give q

unfoldable pub parse_nested : List ℕ → Result NestedSyntax QueryFault
parse_nested bytes =
    if nat_lt longest_query (length bytes) then Err (record { place = longest_query; problem = too_long })
    else result_of (whole_query (unread_text bytes))
