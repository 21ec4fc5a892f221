-- Laws of putting records into groups, one after another.
use Rattle.std.specs.Prelude.{◌≡◌, ℕ, suc, List, [], ◌∷◌, ◌++◌, map, length, true, Option, Some, None, Ok}
use Rattle.std.specs.List.{list_all, filter_map}
use Rattle.dr_meaning.specs.Schema.{Schema, Fields}
use Rattle.dr_meaning.specs.Path.{Step, Leaf, longer}
use Rattle.dr_meaning.specs.Record.{Node, is_record, project}
use Rattle.dr_meaning.specs.MeaningLaws.{covers}
use Rattle.dr_meaning.specs.Query.{Query, GroupTerm, key, count_rows, aggregate, GroupItem, groups, objects, RecordItem, meaning}
use Rattle.dr_meaning.specs.Syntax.{QuerySyntax}
use Rattle.dr_meaning.specs.Binding.{bind}
use Rattle.dr_partials.specs.Partials.{Group, Partial, lines, grouped, partial_of}
use Rattle.dr_partials.specs.Putting.{Put, puts_of, puts_of_rows, put_all}
use Rattle.dr_meaning.specs.Kept.{kept}
use Rattle.dr_meaning.specs.Rows.{rows}
use Rattle.dr_meaning.specs.Expression.{Expression, evaluate, expression_chain, longest_chain}
use Rattle.dr_meaning.specs.Query as query
use Rattle.dr_partials.specs.PartialTypes.{aggregates_among}
use Rattle.dr_plan.specs.Fitting.{aggregate_number, are_numbered}
use Rattle.dr_plan.specs.Views.{aggregate_view, group_item_view}
use Rattle.dr_plan.specs.declared.aggregate.Aggregate.{Aggregate}
use Rattle.dr_plan.specs.declared.plan.GroupItem.{GroupItem as PlanItem}
use Rattle.dr_plan.specs.Planned.{planned, planned_query}

-- of projections to leaves that are enough is put what is put of the records
abbrev pub PutsOfProjection : Type 0
PutsOfProjection = (F : List (List Step)) (q : Query) (R : List Node) → covers F q ≡ true → puts_of q (map (project F) R) ≡ puts_of q R

-- groups that stand for records stand, once what a further record gives is put into them, for that record too
abbrev pub OneRecordMore : Type 0
OneRecordMore = (s : Schema) (q : QuerySyntax) (b : Query) (R : List Node) (r : Node) (gs : List Group) → bind s q ≡ Ok b
    → list_all (is_record s.fields) R ≡ true → is_record s.fields r ≡ true
    → grouped gs ≡ partial_of s.fields (planned_query (planned s.fields b)) R
    → put_all (planned_query (planned s.fields b)) (puts_of (planned_query (planned s.fields b)) (r ∷ [])) (grouped gs)
    ≡ partial_of s.fields (planned_query (planned s.fields b)) (R ++ r ∷ [])

-- ---- what is put of one record

-- for each of some aggregates, of which the first is the ith, the rows over which it goes
abbrev pub term_puts : List (List Step) → ℕ → List GroupTerm → Node → List Put
term_puts keys i [] n = []
term_puts keys i (key j ∷ ts) n = term_puts keys (suc i) ts n
term_puts keys i (count_rows ∷ ts) n = puts_of_rows keys i (λ row. None) (rows (longest_chain keys) n) ++ term_puts keys (suc i) ts n
term_puts keys i (aggregate a e ∷ ts) n =
    puts_of_rows keys i (evaluate e) (rows (longer (longest_chain keys) (expression_chain e)) n) ++ term_puts keys (suc i) ts n

-- the key tuples of its rows, and then the aggregates
abbrev pub record_puts : List (List Step) → List GroupTerm → Option Node → List Put
record_puts keys ts None = []
record_puts keys ts (Some n) =
    map (λ (row : Node). record { keys = query.key_tuple keys row; taken = None }) (rows (longest_chain keys) n) ++ term_puts keys 0 ts n

-- these are what is put of the record
abbrev pub PutsOfOne : Type 0
PutsOfOne = (c : Option Expression) (keys : List (List Step)) (items : List GroupItem) (n : Node)
    → puts_of (record { condition = c; selection = groups keys items }) (n ∷ []) ≡ record_puts keys (aggregates_among items) (kept c n)

-- what is put in two parts
abbrev pub PutInParts : Type 0
PutInParts = (q : Query) (ps rs : List Put) (p : Partial) → put_all q (ps ++ rs) p ≡ put_all q rs (put_all q ps p)

-- the aggregates among the items of a plan are the plan's, in order
abbrev pub PlanAggregates : Type 0
PlanAggregates = (ls : List Leaf) (aggregates : List Aggregate) (items : List PlanItem)
    → are_numbered 0 (filter_map (λ (i : PlanItem). aggregate_number i.term) items) (length aggregates) ≡ true
    → aggregates_among (map (group_item_view (map (aggregate_view ls) aggregates)) items) ≡ map (aggregate_view ls) aggregates

-- ---- record queries

-- the partial of records for a record query is the lines of its result
abbrev pub LinesAreResult : Type 0
LinesAreResult = (fs : Fields) (q : Query) (items : List RecordItem) (R : List Node) → q.selection ≡ objects items → partial_of fs q R ≡ lines (meaning fs q R)
