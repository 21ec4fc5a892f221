-- Productions where so many nestings are left, under names of their own, so that statements over them stay short.
use Rattle.std.specs.Prelude.{ℕ, zero, suc, List, Option, Some}
use Rattle.dr_meaning.specs.Tokens.{select_word, from_word, close_parenthesis}
use Rattle.dr_meaning.specs.Syntax.{TermSyntax, ItemSyntax, ConditionSyntax, QuerySyntax}
use Rattle.dr_meaning.specs.Parse.{Production, give, ◌>>=◌, by_next, aggregate_in, any_token, word, mark, problem_here, too_deep, table_name, group_part, end_part, greatest_nesting}
use Rattle.dr_sub_meaning.specs.ResultRecords.{result_message}
use Rattle.dr_sub_meaning.specs.NestedParse as nested

-- agg | expr
abbrev pub item_term : ℕ → Production TermSyntax
item_term n = by_next aggregate_in (nested.aggregate_term n) (nested.expression_term n)

-- item {"," item}
unfoldable pub items_at : ℕ → Production (List ItemSyntax)
items_at n = nested.items n

-- [WHERE expr]
unfoldable pub where_at : ℕ → Production (Option ConditionSyntax)
where_at n = nested.where_part n

-- name | "(" query ")"
unfoldable pub source_at : ℕ → Production nested.FromSyntax
source_at n = nested.from_part n

-- a SELECT of these parts
abbrev pub select_at : ℕ → Production nested.NestedSyntax
select_at n = do
  i ← word select_word
  xs ← items_at n
  _ ← word from_word
  f ← source_at n
  c ← where_at n
  ks ← group_part
  o ← nested.order_part
  l ← nested.limit_part
  give (nested.over_from (record { place = i; query = record { items = xs; table = f.table; condition = c; keys = ks }; order = o; limit = l }) f.inner)

-- "(" query ")", at its parenthesis
abbrev pub parenthesized_at : ℕ → Production nested.FromSyntax
parenthesized_at zero = problem_here too_deep
parenthesized_at (suc n) = do
  i ← any_token
  q ← select_at n
  _ ← mark close_parenthesis
  give (record { table = record { place = i; name = result_message }; inner = Some q })

-- query [";"]
abbrev pub whole_at : Production nested.NestedSyntax
whole_at = do
  q ← select_at greatest_nesting
  _ ← end_part
  give q

-- a query that stands alone, of these parts
abbrev pub query_at : Production QuerySyntax
query_at = do
  _ ← word select_word
  xs ← items_at greatest_nesting
  _ ← word from_word
  t ← table_name
  c ← where_at greatest_nesting
  ks ← group_part
  _ ← end_part
  give (record { items = xs; table = t; condition = c; keys = ks })
