-- What syntax trees stand for, in the definitions' words.
use Rattle.std.specs.Prelude.{ℕ, List, map, Option, option_map, Vec}
use denote.Ref.{Bor}
use Rattle.std.specs.declared.alloc.Global.{Global}
use Rattle.dr_meaning.specs.Expression as meant
use Rattle.dr_meaning.specs.Query as meant_query
use Rattle.dr_meaning.specs.Syntax as syntax
use Rattle.dr_sub_meaning.specs.NestedParse as nested
use Rattle.dr_sql.specs.TokenViews.{undoubled}
use Rattle.dr_sql.specs.declared.expression.Path.{Path}
use Rattle.dr_sql.specs.declared.expression.Arithmetic.{Arithmetic}
use Rattle.dr_sql.specs.declared.expression.Comparison.{Comparison}
use Rattle.dr_sql.specs.declared.expression.Expression.{Expression, fold-Expression}
use Rattle.dr_sql.specs.declared.expression.Expression.TheOpen.{Expression-F}
use Rattle.dr_sql.specs.declared.query.Aggregate.{Aggregate}
use Rattle.dr_sql.specs.declared.query.Node.{Node}
use Rattle.dr_sql.specs.declared.query.Within.{Within}
use Rattle.dr_sql.specs.declared.query.Term.{Term}
use Rattle.dr_sql.specs.declared.query.Item.{Item}
use Rattle.dr_sql.specs.declared.query.Table.{Table}
use Rattle.dr_sql.specs.declared.query.Condition.{Condition}
use Rattle.dr_sql.specs.declared.query.Query.{Query}
use Rattle.dr_sql.specs.declared.query.Order.{Order}
use Rattle.dr_sql.specs.declared.query.Select.{Select}
use Rattle.dr_sql.specs.declared.query.Nested.{Nested}
use Rattle.dr_sql.specs.declared.selects.Source.{Source}

-- a name that is lent from the text
abbrev pub lent : Bor (List ℕ) → List ℕ
lent n = n.now

-- names that are lent from the text
abbrev pub names_view : Vec (Bor (List ℕ)) Global → List (List ℕ)
names_view ns = map lent ns.items

abbrev pub path_view : Path → syntax.PathSyntax
path_view p = record { place = p.place; names = map lent p.names.items }

abbrev pub arithmetic_view : Arithmetic → meant.Arithmetic
arithmetic_view Arithmetic.Plus = meant.plus
arithmetic_view Arithmetic.Minus = meant.minus
arithmetic_view Arithmetic.Times = meant.times

abbrev pub comparison_view : Comparison → meant.Comparison
comparison_view Comparison.Equal = meant.equal
comparison_view Comparison.Unequal = meant.unequal
comparison_view Comparison.Less = meant.less
comparison_view Comparison.AtMost = meant.at_most
comparison_view Comparison.Greater = meant.greater
comparison_view Comparison.AtLeast = meant.at_least

abbrev pub aggregate_view : Aggregate → meant_query.Aggregate
aggregate_view Aggregate.Count = meant_query.count
aggregate_view Aggregate.Sum = meant_query.sum
aggregate_view Aggregate.Min = meant_query.least
aggregate_view Aggregate.Max = meant_query.greatest

-- an expression whose operands have been seen
abbrev pub expression_step : Expression-F syntax.ExpressionSyntax → syntax.ExpressionSyntax
expression_step (Expression-F.Number n) = syntax.number_literal n.value
expression_step (Expression-F.Text t) = syntax.text_literal (undoubled t.now)
expression_step (Expression-F.Truth b) = syntax.truth_literal b
expression_step (Expression-F.Path p) = syntax.path (path_view p)
expression_step (Expression-F.Negative i e) = syntax.negative i e.value
expression_step (Expression-F.Arithmetic i o a b) = syntax.arithmetic i (arithmetic_view o) a.value b.value
expression_step (Expression-F.Comparison i o a b) = syntax.comparison i (comparison_view o) a.value b.value
expression_step (Expression-F.Like i e t) = syntax.like i e.value (undoubled t.now)
expression_step (Expression-F.Contains i e t) = syntax.contains i e.value (undoubled t.now)
expression_step (Expression-F.IsNull i e) = syntax.is_null i e.value
expression_step (Expression-F.Not i e) = syntax.negation i e.value
expression_step (Expression-F.And i a b) = syntax.conjunction i a.value b.value
expression_step (Expression-F.Or i a b) = syntax.disjunction i a.value b.value

abbrev pub expression_view : Expression → syntax.ExpressionSyntax
expression_view = fold-Expression syntax.ExpressionSyntax expression_step

abbrev pub node_view : Node → syntax.NodeSyntax
node_view Node.Record = syntax.whole_record
node_view (Node.Path p) = syntax.node (path_view p)

abbrev pub within_view : Within → syntax.WithinSyntax
within_view w = record { place = w.place; node = node_view w.node }

abbrev pub maybe_within : Option Within → Option syntax.WithinSyntax
maybe_within w = option_map within_view w

abbrev pub maybe_lent : Option (Bor (List ℕ)) → Option (List ℕ)
maybe_lent n = option_map lent n

abbrev pub term_view : Term → syntax.TermSyntax
term_view (Term.Expression e) = syntax.expression (expression_view e.value)
term_view (Term.CountRows w) = syntax.count_rows (maybe_within w)
term_view (Term.Aggregate a e w) = syntax.aggregate (aggregate_view a) (expression_view e.value) (maybe_within w)

abbrev pub item_view : Item → syntax.ItemSyntax
item_view i = record { place = i.place; term = term_view i.term; name = maybe_lent i.name }

abbrev pub items_view : Vec Item Global → List syntax.ItemSyntax
items_view xs = map item_view xs.items

abbrev pub keys_view : Vec Path Global → List syntax.PathSyntax
keys_view ks = map path_view ks.items

abbrev pub table_view : Table → syntax.NameSyntax
table_view t = record { place = t.place; name = t.name.now }

abbrev pub condition_view : Condition → syntax.ConditionSyntax
condition_view c = record { place = c.place; expression = expression_view c.expression.value }

abbrev pub maybe_condition : Option Condition → Option syntax.ConditionSyntax
maybe_condition c = option_map condition_view c

abbrev pub query_view : Query → syntax.QuerySyntax
query_view q = record {
  items = items_view q.items;
  table = table_view q.table;
  condition = maybe_condition q.condition;
  keys = keys_view q.keys;
}

abbrev pub order_view : Order → nested.OrderSyntax
order_view o = record { path = path_view o.path; descending = o.descending }

abbrev pub maybe_order : Option Order → Option nested.OrderSyntax
maybe_order o = option_map order_view o

-- a limit, as it is
abbrev pub same_limit : Option ℕ → Option ℕ
same_limit n = n

abbrev pub select_view : Select → nested.PlacedQuery
select_view s = record { place = s.place; query = query_view s.query; order = maybe_order s.order; limit = s.limit }

abbrev pub nested_view : Nested → nested.NestedSyntax
nested_view n = record { first = select_view n.first; others = map select_view n.others.items }

abbrev pub maybe_nested : Option Nested → Option nested.NestedSyntax
maybe_nested n = option_map nested_view n

abbrev pub source_view : Source → nested.FromSyntax
source_view s = record { table = table_view s.table; inner = maybe_nested s.inner }
