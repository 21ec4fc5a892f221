-- What is put of records, aggregate by aggregate.
use Rattle.std.specs.Prelude.{◌≡◌, ℕ, List, [], map, true, None, Option, Some}
use Rattle.std.specs.List.{flat_map, list_all}
use Rattle.dr_meaning.specs.Path.{Step, longer}
use Rattle.dr_meaning.specs.Schema.{Fields}
use Rattle.dr_meaning.specs.Record.{Node, project}
use Rattle.dr_meaning.specs.Rows.{rows}
use Rattle.dr_meaning.specs.Expression.{Expression, evaluate, expression_chain, longest_chain}
use Rattle.dr_meaning.specs.Query.{GroupTerm, key, count_rows, aggregate, Query}
use Rattle.dr_meaning.specs.QueryLeaves.{query_leaves}
use Rattle.dr_meaning.specs.BindingLaws.{has_shapes}
use Rattle.dr_nested.specs.PathView.{path_view, paths_view}
use Rattle.dr_nested.specs.Views.{node_view}
use Rattle.dr_nested.specs.declared.path.Path.{Path}
use Rattle.dr_nested.specs.declared.record.Node.{Node as RecordNode}
use Rattle.dr_partials.specs.Putting.{Put, puts_of_rows}
use Rattle.dr_plan.specs.Fitting.{aggregate_fits, expr_fits}
use Rattle.dr_plan.specs.Planned.{Planned}
use Rattle.dr_plan.specs.Views.{aggregate_view, expr_view}
use Rattle.dr_plan.specs.declared.aggregate.Aggregate.{Aggregate}
use Rattle.dr_plan.specs.declared.expression.Expr.{Expr}
use Rattle.dr_plan.specs.declared.plan.Plan.{Plan}
use Rattle.dr_group.specs.Partials.{IsPartialOf, HasTaken}
use Rattle.dr_group.specs.declared.partial.Partial.{Partial}
use Rattle.dr_rows.specs.Known.{Known, known}
use Rattle.dr_rows.specs.Views.{rows_view}
use Rattle.dr_rows.specs.declared.table.Rows.{Rows}
use Rattle.dr_mean.specs.Condition.{plan_kept}
use Rattle.dr_mean.specs.RowsOf.{IsTyped}
use Rattle.dr_mean.specs.declared.grouping.Grouping.{Grouping}
use Rattle.dr_mean.specs.GroupLaws.{record_puts, term_puts}
use Rattle.dr_mean.specs.Takings.{key_paths, leaves_in, keys_in}

-- what the rows of the longer chain of an expression and of the keys put for an aggregate of it
abbrev pub expression_puts : List (List Step) → ℕ → Expression → Node → List Put
expression_puts keys i e n = puts_of_rows keys i (evaluate e) (rows (longer (longest_chain keys) (expression_chain e)) n)

-- what a record puts for the aggregate of this number
abbrev pub aggregate_puts : List (List Step) → ℕ → GroupTerm → Node → List Put
aggregate_puts keys i (key j) n = []
aggregate_puts keys i count_rows n = puts_of_rows keys i (λ row. None) (rows (longest_chain keys) n)
aggregate_puts keys i (aggregate a e) n = expression_puts keys i e n

-- what is known of the rows of the keys' chain
abbrev pub AreKeyRows : List Path → List ℕ → Node → List Known → Type 0
AreKeyRows leaves keys n ks =
    ks ≡ map (known (paths_view leaves) (longest_chain (key_paths (map path_view leaves) keys)))
    (rows (longest_chain (key_paths (map path_view leaves) keys)) n)

-- the projections of records to leaves
abbrev pub projections : List Path → List RecordNode → List Node
projections leaves ns = map (λ (n : RecordNode). project (paths_view leaves) (node_view n)) ns

-- the leaves are those of a query, and the records have values of their types
pub record AreTyped (leaves : List Path) (ns : List Node) : Type 0 where
  pub fields : Fields
  pub query : Query
  pub used : map path_view leaves ≡ query_leaves fields query
  pub shapes : list_all (has_shapes fields) ns ≡ true

-- what is put of that which a plan's condition leaves of each of some records
abbrev pub records_puts : Plan → List (List Step) → List GroupTerm → List Node → List Put
records_puts p keys ts ns = flat_map (λ (n : Node). record_puts keys ts (plan_kept p n)) ns

-- ---- by the keys and the aggregates of a plan

-- the aggregates, over the leaves
abbrev pub terms_in : Grouping → List GroupTerm
terms_in g = map (aggregate_view (leaves_in g)) g.aggregates.now

-- what the values of an expression put of a record, what an aggregate does, and what all do
abbrev pub values_put : Grouping → ℕ → Expr → Node → List Put
values_put g i e n = expression_puts (keys_in g) i (expr_view (leaves_in g) e) n

abbrev pub aggregate_put : Grouping → ℕ → Aggregate → Node → List Put
aggregate_put g i a n = aggregate_puts (keys_in g) i (aggregate_view (leaves_in g) a) n

abbrev pub aggregates_put : Grouping → Node → List Put
aggregates_put g n = term_puts (keys_in g) 0 (terms_in g) n

-- what is put of that which is left of a record, if anything is, of that which the plan's condition leaves of it, and of each of some records
abbrev pub left_put : Grouping → Option Node → List Put
left_put g o = record_puts (keys_in g) (terms_in g) o

abbrev pub record_put : Grouping → Node → List Put
record_put g n = left_put g (plan_kept g.plan.now n)

abbrev pub records_put : Grouping → List RecordNode → List Put
records_put g ns = records_puts g.plan.now (keys_in g) (terms_in g) (projections g.leaves.now ns)

-- the projection of a record to the leaves
abbrev pub projection : Grouping → RecordNode → Node
projection g n = project (paths_view g.leaves.now) (node_view n)

-- these are what is known of the rows of the keys' chain
abbrev pub HasKeyRows : Grouping → RecordNode → Rows → Type 0
HasKeyRows g n t = AreKeyRows g.leaves.now g.keys.now (node_view n) (rows_view t)

-- these puts of a record are made into a partial, of whatever query, where the record has values of the leaves' types
abbrev pub PutsOfRecord : Grouping → Node → List Put → Partial → Partial → Type 0
PutsOfRecord g n puts x x' = (p : Planned) → IsPartialOf p x → IsTyped g.leaves.now n → HasTaken p puts x x'

-- the same of the values of an expression for the aggregate of a number, of an aggregate, and of all
abbrev pub PutsValues : Grouping → ℕ → Expr → RecordNode → Partial → Partial → Type 0
PutsValues g i e n x x' = (p : Planned) → IsPartialOf p x → IsTyped g.leaves.now (node_view n) → expr_fits (leaves_in g) e ≡ true
    → HasTaken p (values_put g i e (node_view n)) x x'

abbrev pub PutsAggregate : Grouping → ℕ → Aggregate → Rows → RecordNode → Partial → Partial → Type 0
PutsAggregate g i a t n x x' = (p : Planned) → IsPartialOf p x → IsTyped g.leaves.now (node_view n) → aggregate_fits (leaves_in g) a ≡ true
    → HasKeyRows g n t → HasTaken p (aggregate_put g i a (node_view n)) x x'

abbrev pub PutsAggregates : Grouping → Rows → RecordNode → Partial → Partial → Type 0
PutsAggregates g t n x x' = (p : Planned) → IsPartialOf p x → IsTyped g.leaves.now (node_view n) → HasKeyRows g n t
    → HasTaken p (aggregates_put g (node_view n)) x x'

-- the records have values of the leaves' types
abbrev pub HaveTypes : Grouping → List RecordNode → Type 0
HaveTypes g ns = AreTyped g.leaves.now (projections g.leaves.now ns)
