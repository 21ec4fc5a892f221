-- Records of a schema put into the groups of a plan, one after another.
use Rattle.std.specs.Prelude.{◌≡◌, List, [], ◌∷◌, ◌++◌, map, Bool, true, ◌&&◌, Ok, Vec, ℕ, length}
use Rattle.std.specs.List.{list_all, flat_map, filter_map}
use Rattle.std.specs.declared.alloc.Global.{Global}
use Rattle.std.proofs.Common.{refl, sym, ap, ap₂, ◌∙◌, subst, append_assoc, append-nil}
use Rattle.std.proofs.lemmas.Bool.{and_parts}
use Rattle.std.proofs.lemmas.List.Folds.{list_all-append}
use Rattle.dr_meaning.specs.Schema.{Schema, Fields}
use Rattle.dr_meaning.specs.Path.{Step}
use Rattle.dr_meaning.specs.Record.{Node, is_record, project}
use Rattle.dr_meaning.specs.Kept.{kept}
use Rattle.dr_meaning.specs.MeaningLaws.{covers}
use Rattle.dr_meaning.specs.Query.{GroupItem, GroupTerm, Selection, groups, Query, levels_of, group_tuples}
use Rattle.dr_meaning.specs.Syntax.{QuerySyntax}
use Rattle.dr_meaning.specs.Binding.{bind}
use Rattle.dr_nested.specs.declared.record.Node.{Node as RecordNode}
use Rattle.dr_partials.specs.Partials.{Group, Partial, grouped, partial_of, selected_partial, group_of, empty_partial}
use Rattle.dr_partials.specs.PartialTypes.{aggregates_among}
use Rattle.dr_partials.specs.Putting.{Put, puts_of, put_all}
use Rattle.dr_partials.proofs.BoundLemmas.{bound_leaves_are_enough}
use Rattle.dr_partials.proofs.PartialLemmas.{empty_stands_for_none}
use Rattle.dr_plan.specs.Fitting.{selection_fits, aggregate_fits, has_key, aggregate_number, are_numbered}
use Rattle.dr_plan.specs.Planned.{Planned, planned, plan_view, plan_leaves, planned_query}
use Rattle.dr_plan.specs.Views.{aggregate_view, group_item_view, selection_view}
use Rattle.dr_plan.specs.declared.aggregate.Aggregate.{Aggregate}
use Rattle.dr_plan.specs.declared.plan.Plan.{Plan}
use Rattle.dr_plan.specs.declared.plan.GroupItem.{GroupItem as PlanItem}
use Rattle.dr_plan.specs.declared.plan.Selection.{Selection as Selected}
use Rattle.dr_mean.specs.Answers.{Answers}
use Rattle.dr_mean.specs.GroupLaws.{record_puts}
use Rattle.dr_mean.specs.GroupPuts.{projections, records_puts}
use Rattle.dr_mean.specs.Keys.{are_leaves}
use Rattle.dr_mean.specs.Takings.{key_paths}
use Rattle.dr_mean.proofs.AnswerLemmas.{plan_paths}
use Rattle.dr_mean.proofs.GroupLawLemmas.{puts_of_projection, one_record_more, puts_rejoined, stands_is}
use Rattle.dr_mean.proofs.OneRecordLemmas.{puts_of_one, put_in_parts, plan_aggregates}
use Rattle.dr_nested.specs.PathView.{paths_view}

-- an aggregate query that is bound, and leaves that are enough for it
record Grouped : Type 0 where
  schema : Schema
  tree : QuerySyntax
  bound : Query
  keys : List (List Step)
  items : List GroupItem
  used : List (List Step)
  binds : bind schema tree ≡ Ok bound
  selects : bound.selection ≡ groups keys items
  enough : covers used bound ≡ true

-- the query that its plan runs
abbrev query_of : Grouped → Query
query_of g = planned_query (planned g.schema.fields g.bound)

-- what is put of a record's projection
abbrev puts_for : Grouped → Node → List Put
puts_for g n = record_puts g.keys (aggregates_among g.items) (kept (query_of g).condition n)

-- its partial of records are groups
is_grouped : (fs : Fields) (q : Query) (keys : List (List Step)) (items : List GroupItem) (R : List Node) → q.selection ≡ groups keys items → (gs : List Group) × (grouped gs ≡ partial_of fs q R)
unfolding partial_of
is_grouped fs q keys items R e =
    let ns : List Node = filter_map (kept q.condition) R in
    (map (group_of keys items ns) (group_tuples keys ns), sym (ap (λ (s : Selection). selected_partial s (levels_of fs) ns) e))

puts_are : (g : Grouped) (r : Node) → puts_for g (project g.used r) ≡ puts_of (query_of g) (r ∷ [])
puts_are g r =
    sym (puts_of_one (query_of g).condition g.keys g.items (project g.used r))
    ∙ ap (λ (s : Selection). puts_of (record { condition = (query_of g).condition; selection = s }) (project g.used r ∷ [])) (sym g.selects)
    ∙ puts_rejoined g.schema.fields g.bound (project g.used r ∷ [])
    ∙ puts_of_projection g.used g.bound (r ∷ []) g.enough
    ∙ sym (puts_rejoined g.schema.fields g.bound (r ∷ []))

one_put : (g : Grouped) (R : List Node) (r : Node) (x : Partial) → list_all (is_record g.schema.fields) R ≡ true → is_record g.schema.fields r ≡ true → x ≡ partial_of g.schema.fields (query_of g) R
    → put_all (query_of g) (puts_for g (project g.used r)) x ≡ partial_of g.schema.fields (query_of g) (R ++ r ∷ [])
one_put g R r x h i e =
    let gs = is_grouped g.schema.fields (query_of g) g.keys g.items R g.selects in
    ap₂ (put_all (query_of g)) (puts_are g r) (e ∙ sym gs.1) ∙ one_record_more g.schema g.tree g.bound R r gs.0 g.binds h i gs.1

-- one after another
all_put : (g : Grouped) (R S : List Node) (x : Partial) → list_all (is_record g.schema.fields) R ≡ true → list_all (is_record g.schema.fields) S ≡ true → x ≡ partial_of g.schema.fields (query_of g) R
    → put_all (query_of g) (flat_map (puts_for g) (map (project g.used) S)) x ≡ partial_of g.schema.fields (query_of g) (R ++ S)
all_put g R [] x h i e = e ∙ ap (partial_of g.schema.fields (query_of g)) (sym (append-nil R))
all_put g R (r ∷ S) x h i e =
    let b : (is_record g.schema.fields r ≡ true) × (list_all (is_record g.schema.fields) S ≡ true) = and_parts _ _ i in
    let more : list_all (is_record g.schema.fields) (R ++ r ∷ []) ≡ true = list_all-append (is_record g.schema.fields) R (r ∷ []) ∙ ap₂ ◌&&◌ h (ap (λ (c : Bool). c && true) b.0) in
    put_in_parts (query_of g) (puts_for g (project g.used r)) (flat_map (puts_for g) (map (project g.used) S)) x
    ∙ all_put g (R ++ r ∷ []) S (put_all (query_of g) (puts_for g (project g.used r)) x) more b.1 (one_put g R r x h b.0 e)
    ∙ ap (partial_of g.schema.fields (query_of g)) (append_assoc R (r ∷ []) S)

-- ---- of a plan

-- what fits in an aggregate query's plan
pub record GroupsFit (p : Plan) (keys : List ℕ) (aggregates : List Aggregate) (items : List PlanItem) : Type 0 where
  pub keyed : are_leaves (plan_leaves p) keys ≡ true
  pub fit : list_all (aggregate_fits (plan_leaves p)) aggregates ≡ true
  pub numbered : are_numbered 0 (filter_map (λ (i : PlanItem). aggregate_number i.term) items) (length aggregates) ≡ true

pub groups_fit : (p : Plan) (keys : Vec ℕ Global) (aggregates : Vec Aggregate Global) (items : Vec PlanItem Global) → p.selection ≡ Selected.Groups keys aggregates items → GroupsFit p keys.items aggregates.items items.items
groups_fit p keys aggregates items h =
    let ls = plan_leaves p in
    let keyed = are_leaves ls keys.items in
    let fit = list_all (aggregate_fits ls) aggregates.items in
    let there = list_all (λ (i : PlanItem). has_key (length keys.items) i.term) items.items in
    let numbered = are_numbered 0 (filter_map (λ (i : PlanItem). aggregate_number i.term) items.items) (length aggregates.items) in
    let all : (keyed && fit && there && numbered) ≡ true = ap (selection_fits ls) (sym h) ∙ p.selected in
    let a : ((keyed && fit && there) ≡ true) × (numbered ≡ true) = and_parts _ _ all in
    let b : ((keyed && fit) ≡ true) × (there ≡ true) = and_parts _ _ a.0 in
    let c : (keyed ≡ true) × (fit ≡ true) = and_parts _ _ b.0 in
    record { keyed = c.0; fit = c.1; numbered = a.1 }

pub records_put : (p : Plan) (ns : List RecordNode) (a : Answers p ns) (keys : Vec ℕ Global) (aggregates : Vec Aggregate Global) (items : Vec PlanItem Global) → p.selection ≡ Selected.Groups keys aggregates items
    → put_all (planned_query (plan_view p)) (records_puts p (key_paths (plan_leaves p) keys.items) (map (aggregate_view (plan_leaves p)) aggregates.items) (projections p.leaves.items ns)) (empty_partial (planned_query (plan_view p)))
    ≡ partial_of a.schema.fields (planned_query (plan_view p)) a.records
records_put p ns a keys aggregates items h =
    let fs = a.schema.fields in
    let ls = plan_leaves p in
    let F = paths_view p.leaves.items in
    let K = key_paths ls keys.items in
    let T : List GroupTerm = map (aggregate_view ls) aggregates.items in
    let I : List GroupItem = map (group_item_view T) items.items in
    let g : Grouped =
    record {
      schema = a.schema;
      tree = a.syntax_tree;
      bound = a.bound;
      keys = K;
      items = I;
      used = F;
      binds = a.binds;
      selects = sym (ap (λ (x : Planned). x.selection) a.planned) ∙ ap (selection_view ls) h;
      enough = ap (λ (G : List (List Step)). covers G a.bound) (plan_paths p ns a) ∙ bound_leaves_are_enough a.schema a.syntax_tree a.bound a.binds;
    } in
    let terms : aggregates_among I ≡ T = plan_aggregates ls aggregates.items items.items (groups_fit p keys aggregates items h).numbered in
    let all = all_put g [] a.records (empty_partial (query_of g)) refl a.are_records (stands_is fs (query_of g) [] (empty_partial (query_of g)) (empty_stands_for_none fs (query_of g))) in
    ap (λ (M : List Node). put_all (planned_query (plan_view p)) (records_puts p K T M) (empty_partial (planned_query (plan_view p)))) a.alike
    ∙ ap (λ (ts : List GroupTerm). put_all (planned_query (plan_view p)) (records_puts p K ts (map (project F) a.records)) (empty_partial (planned_query (plan_view p)))) (sym terms)
    ∙ subst (λ (x : Planned). put_all (planned_query x) (flat_map (λ (n : Node). record_puts K (aggregates_among I) (kept (planned_query x).condition n)) (map (project F) a.records)) (empty_partial (planned_query x))
    ≡ partial_of fs (planned_query x) a.records) (sym a.planned) all
