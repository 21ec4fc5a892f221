-- The readings of a plan of groups are those of its query.
use Rattle.std.proofs.Common.{◌≡◌, ℕ, suc, List, [], ◌∷◌, ◌++◌, map, Bool, true, ◌&&◌, Option, Some, None, refl, sym, ap, ap₂, subst, ◌∙◌}
use Rattle.std.specs.List.{list_all, slice_get, filter_map}
use Rattle.std.specs.declared.alloc.Global.{Global}
use Rattle.std.specs.declared.vec.Vec.{Vec}
use Rattle.std.proofs.lemmas.Bool.{and_parts}
use Rattle.std.proofs.lemmas.List.{map-append}
use Rattle.dr_meaning.specs.Schema.{Schema, Fields}
use Rattle.dr_meaning.specs.Path.{Step, Leaf, paths_of_leaves, is_leaf_path}
use Rattle.dr_meaning.specs.Record.{Value, Node}
use Rattle.dr_meaning.specs.Expression.{longest_chain, paths_of}
use Rattle.dr_meaning.specs.Query.{GroupTerm, key, count_rows, aggregate, GroupItem, Selection, groups, Query, key_tuple}
use Rattle.dr_meaning.specs.MeaningLaws.{group_term_paths}
use Rattle.dr_meaning.specs.Kept.{kept}
use Rattle.dr_moves.specs.Context.{Context}
use Rattle.dr_kept_laws.specs.GroupFlowLaws.{AllMean}
use Rattle.dr_partials.specs.PartialLaws.{all_related, is_mergeable_selection}
use Rattle.dr_partials.specs.PartialTypes.{aggregates_among, with_aggregate}
use Rattle.dr_partials.specs.Putting.{Put, puts_of_selection}
use Rattle.dr_partials.proofs.BoundLemmas.{bound_is_mergeable}
use Rattle.dr_made_laws.specs.LastRead.{paths_at}
use Rattle.dr_made_laws.specs.Readings.{Trigger, term_readings, group_readings}
use Rattle.dr_made_laws.specs.Alike.{MeanAlike}
use Rattle.dr_made_laws.specs.FlowPartial.{ReadsGroups}
use Rattle.dr_made_laws.proofs.LastReadLemmas.{longest_of_both}
use Rattle.dr_made_laws.proofs.AlikeLemmas.{alike_readings}
use Rattle.dr_made_laws.proofs.ReadingLemmas.{readings_mean_puts}
use Rattle.dr_plan.specs.Fitting.{aggregate_fits, expr_fits, is_summed}
use Rattle.dr_plan.specs.Planned.{Planned, plan_view, plan_leaves, planned_query}
use Rattle.dr_plan.specs.PlanOf.{IsPlanOf}
use Rattle.dr_plan.specs.Views.{path_of, expr_view, aggregate_view, group_item_view, selection_view}
use Rattle.dr_plan.specs.declared.aggregate.Aggregate.{Aggregate}
use Rattle.dr_plan.specs.declared.expression.Expr.{Expr}
use Rattle.dr_plan.specs.declared.plan.GroupItem.{GroupItem as PlanItem}
use Rattle.dr_plan.specs.declared.plan.Plan.{Plan}
use Rattle.dr_plan.specs.declared.plan.Selection.{Selection as Selected}
use Rattle.dr_scalar.specs.Leaves.{expr_leaves}
use Rattle.dr_scalar.specs.LeafLaws.{SameRead}
use Rattle.dr_scalar.proofs.LeafPathLemmas.{leaves_are_paths}
use Rattle.dr_scalar.proofs.SameReadLemmas.{first_same, second_same, same_leaves_tell}
use Rattle.dr_scalar.proofs.TestLemmas.{leaves_tell}
use Rattle.dr_condition.specs.RowValues.{read_of}
use Rattle.dr_condition.proofs.LeavesBelow.{are_below, both_below, leaves_below}
use Rattle.dr_condition.proofs.ReadRows.{same_paths, all_are_read, AreLeavesOf, plan_leaves_are, rows_typed}
use Rattle.dr_within.specs.Takings.{leaves_of, put_read, taking_of, aggregate_takings, takings_of}
use Rattle.dr_within.specs.Behind.{readings_at}
use Rattle.dr_within.proofs.LastMeans.{read_means}
use Rattle.dr_within.proofs.PlanAggregates.{GroupsFit, groups_fit, plan_aggregates}

-- ---- what is put depends on the leaves of a taking alone

keys_read : (keys : List ℕ) (c d : Context) → SameRead keys c d → map c keys ≡ map d keys
keys_read [] c d h = refl
keys_read (k ∷ keys) c d h = ap₂ (λ (v : Option Value) (vs : List (Option Value)). v ∷ vs) h.0 (keys_read keys c d h.1)

abbrev value_taken : ℕ → List (Option Value) → Option Value → Put
value_taken i vs v = record { keys = vs; taken = Some (record { aggregate = i; value = v }) }

abbrev nothing_taken : List (Option Value) → Put
nothing_taken vs = record { keys = vs; taken = None }

same_put : (keys : List ℕ) (i : ℕ) (a : Aggregate) (c d : Context) → SameRead (leaves_of keys (taking_of i a)) c d
    → put_read keys (taking_of i a) c ≡ put_read keys (taking_of i a) d
same_put keys i Aggregate.Rows c d h = ap (λ (vs : List (Option Value)). value_taken i vs None) (keys_read keys c d h)
same_put keys i (Aggregate.Of f e) c d h =
    ap₂ (value_taken i) (keys_read keys c d (first_same keys (expr_leaves e) c d h))
    (same_leaves_tell e c d (second_same keys (expr_leaves e) c d h))

-- ---- the readings of a plan's keys and aggregates

abbrev key_paths : List Leaf → List ℕ → List (List Step)
key_paths ls keys = map (λ k. path_of (slice_get ls k)) keys

term_paths_at : (ls : List Leaf) (keys : List ℕ) (e : Expr)
    → paths_at (paths_of_leaves ls) (keys ++ expr_leaves e) ≡ key_paths ls keys ++ paths_of (expr_view ls e)
term_paths_at ls keys e =
    same_paths ls (keys ++ expr_leaves e)
    ∙ (map-append (λ k. path_of (slice_get ls k)) keys (expr_leaves e)
    ∙ ap (λ (ps : List (List Step)). key_paths ls keys ++ ps) (leaves_are_paths ls e))

module _ (fs : Fields) (ls : List Leaf) (o : AreLeavesOf fs ls) (keys : List ℕ) (b : are_below ls keys ≡ true)
    (r : all_related (key_paths ls keys) ≡ true) where
  keys_related : all_related (paths_at (paths_of_leaves ls) keys) ≡ true
  keys_related = ap all_related (same_paths ls keys) ∙ r

  aggregates_meant : (i : ℕ) (A : List Aggregate) → list_all (aggregate_fits ls) A ≡ true
      → list_all (λ (t : GroupTerm). all_related (key_paths ls keys ++ group_term_paths t)) (map (aggregate_view ls) A) ≡ true
      → AllMean (paths_of_leaves ls) (readings_at ls keys (aggregate_takings i A))
  aggregates_meant i [] h g = tt
  aggregates_meant i (Aggregate.Rows ∷ A) h g =
      let y = and_parts _ _ g in (
        read_means Put fs ls o keys (put_read keys (taking_of i Aggregate.Rows)) b keys_related (same_put keys i Aggregate.Rows),
        aggregates_meant (suc i) A h y.1,
      )
  aggregates_meant i (Aggregate.Of f e ∷ A) h g =
      let x : (aggregate_fits ls (Aggregate.Of f e) ≡ true) × (list_all (aggregate_fits ls) A ≡ true) = and_parts _ _ h in
      let z : (expr_fits ls e ≡ true) × (is_summed f e ≡ true) = and_parts _ _ x.0 in
      let y = and_parts _ _ g in (
        read_means Put fs ls o (keys ++ expr_leaves e) (put_read keys (taking_of i (Aggregate.Of f e)))
            (both_below ls keys (expr_leaves e) b (leaves_below ls e z.0)) (ap all_related (term_paths_at ls keys e) ∙ y.0)
            (same_put keys i (Aggregate.Of f e)),
        aggregates_meant (suc i) A x.1 y.1,
      )

  all_meant : (A : List Aggregate) → list_all (aggregate_fits ls) A ≡ true
      → list_all (λ (t : GroupTerm). all_related (key_paths ls keys ++ group_term_paths t)) (map (aggregate_view ls) A) ≡ true
      → AllMean (paths_of_leaves ls) (readings_at ls keys (takings_of A))
  all_meant A h g = (
    read_means Put fs ls o keys (λ c. nothing_taken (map c keys)) b keys_related (λ c d s. ap nothing_taken (keys_read keys c d s)),
    aggregates_meant 0 A h g,
  )

-- ---- they mean what the query's do

tuple_read : (ls : List Leaf) (keys : List ℕ) (row : Node) → map (read_of ls row) keys ≡ key_tuple (key_paths ls keys) row
tuple_read ls [] row = refl
tuple_read ls (k ∷ keys) row = ap (λ (vs : List (Option Value)). read_of ls row k ∷ vs) (tuple_read ls keys row)

module _ (fs : Fields) (ls : List Leaf) (o : AreLeavesOf fs ls) (keys : List ℕ) (at : ℕ → Trigger) where
  aggregates_alike : (i : ℕ) (A : List Aggregate) → list_all (aggregate_fits ls) A ≡ true
      → MeanAlike fs (readings_at ls keys (aggregate_takings i A)) (term_readings (key_paths ls keys) i (map (aggregate_view ls) A) at)
  aggregates_alike i [] h = tt
  aggregates_alike i (Aggregate.Rows ∷ A) h = (
    (
      ap longest_chain (same_paths ls keys),
      λ row s. ap (λ (vs : List (Option Value)). value_taken i vs None) (tuple_read ls keys row),
    ),
    aggregates_alike (suc i) A h,
  )
  aggregates_alike i (Aggregate.Of f e ∷ A) h =
      let x : (aggregate_fits ls (Aggregate.Of f e) ≡ true) × (list_all (aggregate_fits ls) A ≡ true) = and_parts _ _ h in
      let z : (expr_fits ls e ≡ true) × (is_summed f e ≡ true) = and_parts _ _ x.0 in (
        (
          ap longest_chain (term_paths_at ls keys e) ∙ longest_of_both (key_paths ls keys) (paths_of (expr_view ls e)),
          λ row s. ap₂ (value_taken i) (tuple_read ls keys row)
              (leaves_tell ls e (read_of ls row) row z.0 (rows_typed fs ls o row s) (all_are_read ls (expr_leaves e) row)),
        ),
        aggregates_alike (suc i) A x.1,
      )

  all_alike : (A : List Aggregate) (I : List GroupItem) (first : Trigger) → list_all (aggregate_fits ls) A ≡ true
      → aggregates_among I ≡ map (aggregate_view ls) A
      → MeanAlike fs (readings_at ls keys (takings_of A)) (group_readings (key_paths ls keys) I first at)
  all_alike A I first h e = (
    (ap longest_chain (same_paths ls keys), λ row s. ap nothing_taken (tuple_read ls keys row)),
    subst (λ (ts : List GroupTerm). MeanAlike fs (readings_at ls keys (aggregate_takings 0 A)) (term_readings (key_paths ls keys) 0 ts at))
        (sym e) (aggregates_alike 0 A h),
  )

-- ---- the query

-- the paths of the aggregates are those of the items
among_related : (K : List (List Step)) (items : List GroupItem)
    → list_all (λ (i : GroupItem). all_related (K ++ group_term_paths i.term)) items ≡ true
    → list_all (λ (t : GroupTerm). all_related (K ++ group_term_paths t)) (aggregates_among items) ≡ true
among_related K [] h = refl
among_related K (i ∷ is) h =
    let x = and_parts _ _ h in by_term i.term x.0 (among_related K is x.1)
  where
    by_term : (t : GroupTerm) → all_related (K ++ group_term_paths t) ≡ true
        → list_all (λ (u : GroupTerm). all_related (K ++ group_term_paths u)) (aggregates_among is) ≡ true
        → list_all (λ (u : GroupTerm). all_related (K ++ group_term_paths u)) (with_aggregate t (aggregates_among is)) ≡ true
    by_term (key j) y r = r
    by_term count_rows y r = ap₂ (λ (a b : Bool). a && b) y r
    by_term (aggregate a e) y r = ap₂ (λ (a b : Bool). a && b) y r

-- keys that are related, and together with the paths of each of these aggregates
record Related (ls : List Leaf) (keys : List ℕ) (A : List Aggregate) : Type 0 where
  keys_are : all_related (key_paths ls keys) ≡ true
  each_is : list_all (λ (t : GroupTerm). all_related (key_paths ls keys ++ group_term_paths t)) (map (aggregate_view ls) A) ≡ true

are_related : (fs : Fields) (ls : List Leaf) (keys : List ℕ) (A : List Aggregate) (I : List GroupItem)
    → is_mergeable_selection fs (groups (key_paths ls keys) I) ≡ true → aggregates_among I ≡ map (aggregate_view ls) A → Related ls keys A
are_related fs ls keys A I m e =
    let K = key_paths ls keys in
    let each : Bool = list_all (λ (i : GroupItem). all_related (K ++ group_term_paths i.term)) I in
    let x : ((list_all (is_leaf_path fs) K && all_related K) ≡ true) × (each ≡ true) = and_parts _ _ m in
    let y : (list_all (is_leaf_path fs) K ≡ true) × (all_related K ≡ true) = and_parts _ _ x.0 in
    record {
      keys_are = y.1;
      each_is =
          subst (λ (ts : List GroupTerm). list_all (λ (t : GroupTerm). all_related (K ++ group_term_paths t)) ts ≡ true) e
          (among_related K I x.1);
    }

-- what fires nowhere
abbrev no_trigger : Trigger
no_trigger = record { leaf = None; fires = λ c. record { keys = []; taken = None } }

reads_groups : (fs : Fields) (ls : List Leaf) (q : Query) (keys : List ℕ) (A : List Aggregate) (I : List GroupItem) → AreLeavesOf fs ls
    → are_below ls keys ≡ true → list_all (aggregate_fits ls) A ≡ true → aggregates_among I ≡ map (aggregate_view ls) A
    → q.selection ≡ groups (key_paths ls keys) I → is_mergeable_selection fs q.selection ≡ true
    → ReadsGroups fs q (paths_of_leaves ls) (readings_at ls keys (takings_of A))
reads_groups fs ls q keys A I o b h e s m =
    let r = are_related fs ls keys A I (ap (is_mergeable_selection fs) (sym s) ∙ m) e in
    record {
      keys = key_paths ls keys;
      items = I;
      selects = s;
      mergeable = m;
      read = all_meant fs ls o keys b r.keys_are A h r.each_is;
      puts =
          λ R a. alike_readings Put fs q.condition (readings_at ls keys (takings_of A))
          (group_readings (key_paths ls keys) I no_trigger (λ i. no_trigger))
          (all_alike fs ls o keys (λ i. no_trigger) A I no_trigger h e) R a
          ∙ (readings_mean_puts (key_paths ls keys) I no_trigger (λ i. no_trigger) (filter_map (kept q.condition) R)
          ∙ ap (λ (x : Selection). puts_of_selection x (filter_map (kept q.condition) R)) (sym s));
    }

pub plan_reads : (s : Schema) (q : Query) (p : Plan) (keys : Vec ℕ Global) (aggregates : Vec Aggregate Global) (items : Vec PlanItem Global)
    → IsPlanOf s q p → p.selection ≡ Selected.Groups keys aggregates items
    → ReadsGroups s.fields (planned_query (plan_view p)) (paths_of_leaves (plan_leaves p))
    (readings_at (plan_leaves p) keys.items (takings_of aggregates.items))
plan_reads s q p keys aggregates items h e =
    let ls = plan_leaves p in
    let f : GroupsFit ls keys.items aggregates.items items.items = groups_fit p keys aggregates items e in
    reads_groups s.fields ls (planned_query (plan_view p)) keys.items aggregates.items
    (map (group_item_view (map (aggregate_view ls) aggregates.items)) items.items) (plan_leaves_are s q p h) f.keyed f.fit
    (plan_aggregates ls aggregates.items items.items f.numbered) (ap (selection_view ls) e)
    (ap (is_mergeable_selection s.fields) (ap (λ (x : Planned). x.selection) h.2) ∙ bound_is_mergeable s h.0 q h.1)
