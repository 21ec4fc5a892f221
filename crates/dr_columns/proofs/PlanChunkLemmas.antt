-- What is put of a chunk of the columns of a plan of groups.
use Rattle.std.proofs.Common.{◌≡◌, ℕ, zero, suc, ◌+◌, ◌<◌, List, [], ◌∷◌, ◌++◌, map, length, replicate, Bool, true, false, Option, Some, None, refl, sym, ap, ap₂, subst, ◌∙◌, arith, append-nil}
use Rattle.std.specs.Prelude.{◌&&◌, ◌==◌, filter, max, if◌then◌else◌}
use Rattle.std.specs.List.{list_all, slice_get, flat_map, filter_map}
use Rattle.std.specs.declared.alloc.Global.{Global}
use Rattle.std.specs.declared.vec.Vec.{Vec}
use Rattle.std.proofs.lemmas.Bool.{and_from, and_parts}
use Rattle.std.proofs.lemmas.List.{length-map}
use Rattle.std.proofs.lemmas.List.Elements.{filter_map-append}
use Rattle.dr_meaning.specs.Schema.{Schema, Fields}
use Rattle.dr_meaning.specs.Path.{Step, Leaf, paths_of_leaves, longer, is_leaf_path}
use Rattle.dr_meaning.specs.Record.{Value, Node, is_record}
use Rattle.dr_meaning.specs.Column.{Triplet}
use Rattle.dr_meaning.specs.Rows.{rows}
use Rattle.dr_meaning.specs.Expression.{Expression, longest_chain, expression_chain, evaluate}
use Rattle.dr_meaning.specs.Kept.{kept}
use Rattle.dr_meaning.specs.MeaningLaws.{group_term_paths}
use Rattle.dr_meaning.specs.Query.{GroupTerm, key, count_rows, aggregate, GroupItem, Selection, groups, Query}
use Rattle.dr_partials.specs.PartialLaws.{all_related, is_mergeable_selection}
use Rattle.dr_partials.specs.PartialTypes.{aggregates_among, with_aggregate}
use Rattle.dr_partials.specs.Partials.{Partial, empty_partial}
use Rattle.dr_partials.specs.Putting.{Put, put, put_all, puts_of, puts_of_rows, puts_of_selection}
use Rattle.dr_partials.proofs.BoundLemmas.{bound_is_mergeable}
use Rattle.dr_partials.proofs.RowLemmas.{Each}
use Rattle.dr_nested.specs.PathView.{path_view}
use Rattle.dr_plan.specs.Fitting.{aggregate_fits, expr_fits, is_summed}
use Rattle.dr_plan.specs.Planned.{Planned, plan_view, plan_leaves, planned_query}
use Rattle.dr_plan.specs.PlanOf.{IsPlanOf}
use Rattle.dr_plan.specs.Views.{expr_view, aggregate_view, group_item_view, selection_view}
use Rattle.dr_plan.specs.declared.aggregate.Aggregate.{Aggregate}
use Rattle.dr_plan.specs.declared.expression.Expr.{Expr}
use Rattle.dr_plan.specs.declared.expression.Truth.{Truth}
use Rattle.dr_plan.specs.declared.plan.GroupItem.{GroupItem as PlanItem}
use Rattle.dr_plan.specs.declared.plan.Plan.{Plan}
use Rattle.dr_plan.specs.declared.plan.Selection.{Selection as Selected}
use Rattle.dr_scalar.specs.Leaves.{greater, greatest, expr_leaves}
use Rattle.dr_scalar.specs.LeafLaws.{are_typed, AreRead}
use Rattle.dr_scalar.specs.OverSlots.{expr_over}
use Rattle.dr_scalar.specs.Slots.{slot_value}
use Rattle.dr_scalar.proofs.LastLemmas.{greatest_append}
use Rattle.dr_scalar.proofs.LeafPathLemmas.{leaves_are_paths}
use Rattle.dr_scalar.proofs.TestLemmas.{leaves_tell}
use Rattle.dr_group.specs.Groups.{put_of}
use Rattle.dr_condition.proofs.LeavesBelow.{are_below, both_below, leaves_below}
use Rattle.dr_condition.proofs.PartedLemmas.{no_greatest}
use Rattle.dr_condition.proofs.ReadRows.{AreLeavesOf, plan_leaves_are}
use Rattle.dr_partials.specs.ChunkPuts.{query_of_all}
use Rattle.dr_partials.specs.Readings.{Reading, readings_of, puts_of_reading, puts_of_groups}
use Rattle.dr_partials.specs.SourcesPut.{puts_of_sources, is_one_of}
use Rattle.dr_partials.proofs.ChunkPutLemmas.{chunks_are_taken}
use Rattle.dr_partials.proofs.TogetherLemmas.{all_of, past}
use Rattle.dr_beside.specs.Chunks.{HasColumns}
use Rattle.dr_rows_beside.specs.declared.source.Beside.{Beside}
use Rattle.dr_rows_beside.specs.Rows.{Row}
use Rattle.dr_columns.specs.RowPuts.{paths_at}
use Rattle.dr_columns.specs.Takings.{Take, aggregate_leaves, are_numbered, taken_at, same_leaf, takings_at, fires_at, fires_of, CanFireEach, first_numbers, fired_read_puts, record_puts, end_puts}
use Rattle.dr_columns.specs.ChunksTaken.{IsOfGroups, ReadsRows, planned_puts, ChunksArePut}
use Rattle.dr_rows_beside.proofs.SourceLemmas.{greatest_there}
use Rattle.dr_columns.proofs.PlanAggregates.{GroupsFit, groups_fit, plan_aggregates}
use Rattle.dr_columns.proofs.SourceReadLemmas.{reading_by, reading_of, or_end, TakenAt, readings_at_end}
use Rattle.dr_columns.proofs.SourceMeansLemmas.{AreGroupsOf, left_shaped, typed_rows}
use Rattle.dr_columns.proofs.ChunksTakenLemmas.{key_puts, without_key, with_key, is_first, first_differ, put_of_reading, all_readings, key_groups, all_leaves, all_can_fire, sources_more}

-- ---- what the plan of a bound query has

-- the paths of the aggregates are those of the items
among_related : (K : List (List Step)) (items : List GroupItem)
    → list_all (λ (i : GroupItem). all_related (K ++ group_term_paths i.term)) items ≡ true
    → list_all (λ (t : GroupTerm). all_related (K ++ group_term_paths t)) (aggregates_among items) ≡ true
among_related K [] h = refl
among_related K (i ∷ is) h =
    let x = and_parts _ _ h in by_term i.term x.0 (among_related K is x.1)
  where
    by_term : (t : GroupTerm) → all_related (K ++ group_term_paths t) ≡ true
        → list_all (λ (u : GroupTerm). all_related (K ++ group_term_paths u)) (aggregates_among is) ≡ true
        → list_all (λ (u : GroupTerm). all_related (K ++ group_term_paths u)) (with_aggregate t (aggregates_among is)) ≡ true
    by_term (key j) y r = r
    by_term count_rows y r = ap₂ (λ (a b : Bool). a && b) y r
    by_term (aggregate a e) y r = ap₂ (λ (a b : Bool). a && b) y r

groups_of : (fs : Fields) (ls : List Leaf) (ks : List ℕ) (A : List Aggregate) (I : List GroupItem) → AreLeavesOf fs ls → are_below ls ks ≡ true → list_all (aggregate_fits ls) A ≡ true
    → is_mergeable_selection fs (groups (paths_at ls ks) I) ≡ true → aggregates_among I ≡ map (aggregate_view ls) A → AreGroupsOf fs ls ks A
groups_of fs ls ks A I o b f m e =
    let K = paths_at ls ks in
    let each : Bool = list_all (λ (i : GroupItem). all_related (K ++ group_term_paths i.term)) I in
    let x : ((list_all (is_leaf_path fs) K && all_related K) ≡ true) × (each ≡ true) = and_parts _ _ m in
    let y : (list_all (is_leaf_path fs) K ≡ true) × (all_related K ≡ true) = and_parts _ _ x.0 in
    record {
      leaves = o;
      keyed = b;
      fit = f;
      keys_related = y.1;
      each_related = subst (λ (ts : List GroupTerm). list_all (λ (t : GroupTerm). all_related (K ++ group_term_paths t)) ts ≡ true) e (among_related K I x.1);
    }

abbrev plan_items : List Leaf → List Aggregate → List PlanItem → List GroupItem
plan_items ls A items = map (group_item_view (map (aggregate_view ls) A)) items

pub plan_groups : (s : Schema) (p : Plan) (keys : Vec ℕ Global) (aggregates : Vec Aggregate Global) (items : Vec PlanItem Global) → IsOfGroups s p keys aggregates items
    → AreGroupsOf s.fields (plan_leaves p) keys.items aggregates.items
plan_groups s p keys aggregates items h =
    let ls = plan_leaves p in
    let f : GroupsFit ls keys.items aggregates.items items.items = groups_fit p keys aggregates items h.selects in
    let q : Query = h.of_schema.1 in
    let w : IsPlanOf s q p = (h.of_schema.0, h.of_schema.2, h.of_schema.3) in
    let m : is_mergeable_selection s.fields (planned_query (plan_view p)).selection ≡ true = ap (is_mergeable_selection s.fields) (ap (λ (x : Planned). x.selection) w.2) ∙ bound_is_mergeable s w.0 q w.1 in
    groups_of s.fields ls keys.items aggregates.items (plan_items ls aggregates.items items.items) (plan_leaves_are s q p w) f.keyed f.fit
    (ap (is_mergeable_selection s.fields) (sym (ap (selection_view ls) h.selects)) ∙ m) (plan_aggregates ls aggregates.items items.items f.numbered)

-- ---- where keys read a leaf, nothing is taken without one

none_takes : (ks : List ℕ) (k : ℕ) (i : ℕ) (A : List Aggregate) → greatest ks ≡ Some k → takings_at ks None i A ≡ []
none_takes ks k i [] e = refl
none_takes ks k i (a ∷ A) e =
    ap (λ (b : Bool). if b then record { number = i; aggregate = a } ∷ takings_at ks None (suc i) A else takings_at ks None (suc i) A) (some_leaf (greatest (aggregate_leaves a)))
    ∙ none_takes ks k (suc i) A e
  where
    some_more : (o : Option ℕ) → same_leaf (greater (Some k) o) None ≡ false
    some_more None = refl
    some_more (Some j) = refl

    some_leaf : (o : Option ℕ) → same_leaf (taken_at ks a) None ≡ false
    some_leaf o = ap (λ (x : Option ℕ). same_leaf x None) (greatest_append ks (aggregate_leaves a) ∙ ap (λ (x : Option ℕ). greater x (greatest (aggregate_leaves a))) e) ∙ some_more (greatest (aggregate_leaves a))

-- ---- what reads no leaf

abbrev IsLeafless : List Leaf → Take → Type 0
IsLeafless ls t = (aggregate_leaves t.aggregate ≡ []) × (aggregate_fits ls t.aggregate ≡ true)

same_none : (o : Option ℕ) → same_leaf o None ≡ true → o ≡ None
same_none None e = refl
same_none (Some j) e = absurd (cc)

all_leafless : (ls : List Leaf) (i : ℕ) (A : List Aggregate) → list_all (aggregate_fits ls) A ≡ true → Each (IsLeafless ls) (takings_at [] None i A)
all_leafless ls i [] h = tt
all_leafless ls i (a ∷ A) h =
    let w : (aggregate_fits ls a ≡ true) × (list_all (aggregate_fits ls) A ≡ true) = and_parts _ _ h in
    by_test (same_leaf (taken_at [] a) None) refl w.0 (all_leafless ls (suc i) A w.1)
  where
    by_test : (b : Bool) → same_leaf (taken_at [] a) None ≡ b → aggregate_fits ls a ≡ true → Each (IsLeafless ls) (takings_at [] None (suc i) A)
        → Each (IsLeafless ls) (if b then record { number = i; aggregate = a } ∷ takings_at [] None (suc i) A else takings_at [] None (suc i) A)
    by_test true e f r = ((no_greatest (aggregate_leaves a) (same_none (taken_at [] a) e), f), r)
    by_test false e f r = r

each_record : (S : List Node) → flat_map (rows []) S ≡ S
each_record [] = refl
each_record (n ∷ S) = ap (λ (ns : List Node). n ∷ ns) (each_record S)

abbrev keyless_put : ℕ → Option Value → Put
keyless_put i v = put_of [] (Some (record { aggregate = i; value = v }))

same_values : (i : ℕ) (value : Node → Option Value) (v : Option Value) (f : Node → Bool) → ((n : Node) → f n ≡ true → v ≡ value n) → (S : List Node) → list_all f S ≡ true
    → replicate (length S) (keyless_put i v) ≡ puts_of_rows [] i value S
same_values i value v f h [] g = refl
same_values i value v f h (n ∷ S) g =
    let w : (f n ≡ true) × (list_all f S ≡ true) = and_parts _ _ g in
    ap₂ (λ (x : Option Value) (ps : List Put). keyless_put i x ∷ ps) (h n w.0) (same_values i value v f h S w.1)

module _ (ls : List Leaf) (S : List Node) (r : (c : List Step) → list_all (are_typed ls) (flat_map (rows c) S) ≡ true) where
  chain_rows : (i : ℕ) (value : Node → Option Value) (v : Option Value) (c : List Step) → c ≡ [] → ((n : Node) → are_typed ls n ≡ true → v ≡ value n)
      → replicate (length S) (keyless_put i v) ≡ puts_of_rows [] i value (flat_map (rows c) S)
  chain_rows i value v c e h =
      same_values i value v (are_typed ls) h S (ap (list_all (are_typed ls)) (sym (each_record S)) ∙ r [])
      ∙ ap (puts_of_rows [] i value) (sym (each_record S) ∙ ap (λ (d : List Step). flat_map (rows d) S) (sym e))

  nothing_read : (e : Expr) (n : Node) → expr_leaves e ≡ [] → AreRead ls (expr_leaves e) (slot_value []) n
  nothing_read e n h = subst (λ (js : List ℕ). AreRead ls js (slot_value []) n) (sym h) tt

  one_leafless : (i : ℕ) (a : Aggregate) → IsLeafless ls (record { number = i; aggregate = a })
      → record_puts (length S) (record { number = i; aggregate = a }) ≡ puts_of_reading [] S (reading_by ls [] i a)
  one_leafless i Aggregate.Rows h = chain_rows i (λ (n : Node). None) None [] refl (λ n t. refl)
  one_leafless i (Aggregate.Of f e) h =
      let v : (expr_fits ls e ≡ true) × (is_summed f e ≡ true) = and_parts _ _ h.1 in
      chain_rows i (evaluate (expr_view ls e)) (expr_over (slot_value []) e) (longer [] (expression_chain (expr_view ls e)))
      (ap (λ (ps : List (List Step)). longer [] (longest_chain ps)) (sym (leaves_are_paths ls e) ∙ ap (λ (js : List ℕ). paths_at ls js) h.0))
      (λ n t. leaves_tell ls e (slot_value []) n v.0 t (nothing_read e n h.0))

  pub leafless_mean : (ts : List Take) → Each (IsLeafless ls) ts → flat_map (record_puts (length S)) ts ≡ flat_map (puts_of_reading [] S) (map (reading_of ls []) ts)
  leafless_mean [] h = refl
  leafless_mean (t ∷ ts) h = ap₂ (λ (ps qs : List Put). ps ++ qs) (one_leafless t.number t.aggregate h.0) (leafless_mean ts h.1)

-- ---- without keys there is the one group already

abbrev group_alone : Put
group_alone = put_of [] None

alone_at_first : (I : List GroupItem) → put (query_of_all [] I) group_alone (empty_partial (query_of_all [] I)) ≡ empty_partial (query_of_all [] I)
unfolding put empty_partial
alone_at_first I = refl

alone_still : (I : List GroupItem) (ps : List Put) → put (query_of_all [] I) group_alone (put_all (query_of_all [] I) ps (empty_partial (query_of_all [] I))) ≡ put_all (query_of_all [] I) ps (empty_partial (query_of_all [] I))
alone_still I ps = sym (past (query_of_all [] I) group_alone ps (empty_partial (query_of_all [] I))) ∙ ap (put_all (query_of_all [] I) ps) (alone_at_first I)

groups_still : (q : Query) (y : Partial) → put q group_alone y ≡ y → (N : List Node) → put_all q (puts_of_groups [] N) y ≡ y
groups_still q y h [] = refl
groups_still q y h (n ∷ N) = ap (put_all q (puts_of_groups [] N)) h ∙ groups_still q y h N

-- ---- all of it

module _ (fs : Fields) (ls : List Leaf) (A : List Aggregate) (I : List GroupItem) (among : aggregates_among I ≡ map (aggregate_view ls) A) (read : ℕ → List Beside → List Row) (n : ℕ) (R N : List Node)
    (reads : ReadsRows ls read N) (typed : (c : List Step) → list_all (are_typed ls) (flat_map (rows c) N) ≡ true) (so_many : n ≡ length N) where
  abbrev many : ℕ
  many = length (paths_of_leaves ls)

  abbrev leaf_at : List ℕ → Option Aggregate → Option ℕ
  leaf_at ks None = None
  leaf_at ks (Some a) = taken_at ks a

  abbrev at : List ℕ → ℕ → ℕ
  at ks i = or_end many (leaf_at ks (slice_get A i))

  pub are_taken : (ks : List ℕ) → TakenAt many ks (at ks) 0 A
  are_taken ks j a e = let z : 0 + j ≡ j = omega arith in ap (at ks) z ∙ ap (λ (o : Option Aggregate). or_end many (leaf_at ks o)) e

  fit_at : (B : List Aggregate) (j : ℕ) (a : Aggregate) → list_all (aggregate_fits ls) B ≡ true → slice_get B j ≡ Some a → aggregate_fits ls a ≡ true
  fit_at [] j a h e = absurd (cc)
  fit_at (b ∷ B) zero a h e = let f : b ≡ a = cc in ap (aggregate_fits ls) (sym f) ∙ (and_parts _ _ h).0
  fit_at (b ∷ B) (suc j) a h e = fit_at B j a (and_parts _ _ h).1 e

  fitting_below : (a : Aggregate) → aggregate_fits ls a ≡ true → are_below ls (aggregate_leaves a) ≡ true
  fitting_below Aggregate.Rows h = refl
  fitting_below (Aggregate.Of f e) h = leaves_below ls e (and_parts (expr_fits ls e) (is_summed f e) h).0

  within : (ks : List ℕ) → AreGroupsOf fs ls ks A → (j m : ℕ) (a : Aggregate) → slice_get A j ≡ Some a → taken_at ks a ≡ Some m → m < many
  within ks g j m a e t =
      let b : are_below ls (ks ++ aggregate_leaves a) ≡ true = both_below ls ks (aggregate_leaves a) g.keyed (fitting_below a (fit_at A j a g.fit e)) in
      let l : m < length ls = greatest_there (length ls) (ks ++ aggregate_leaves a) m b t in
      omega (arith, l, length-map ls (λ (y : Leaf). y.path))

  module _ (ks : List ℕ) (g : AreGroupsOf fs ls ks A) where
    abbrev q : Query
    q = query_of_all (paths_at ls ks) I

    abbrev f : Reading → List Put
    f = put_of_reading fs ls ks A g q read N reads typed (at ks) (are_taken ks)

    abbrev xs : List Reading
    xs = all_readings fs ls ks A g

    abbrev G : List Put
    G = key_groups fs ls ks A g q read N reads typed (at ks) (are_taken ks)

    abbrev at_of : Reading → ℕ
    at_of y = at ks y.aggregate

    abbrev P : List Put
    P = puts_of_sources f at_of xs (first_numbers many)

    abbrev L : List Put
    L = flat_map (fired_read_puts ks read) (map (fires_at (paths_of_leaves ls) ks A) (first_numbers many))

    at_last : filter (λ (y : Reading). at_of y == many) xs ≡ map (reading_of ls ks) (takings_at ks None 0 A)
    at_last = readings_at_end ls ks many (at ks) 0 A (are_taken ks) (within ks g)

    abbrev last : List Put
    last = flat_map f (map (reading_of ls ks) (takings_at ks None 0 A))

    all_sources : puts_of_sources f at_of xs (first_numbers (suc many)) ≡ P ++ last
    all_sources = sources_more f at_of xs (first_numbers many) many ∙ ap (λ (ys : List Reading). P ++ flat_map f ys) at_last

    -- each reading has one of the numbers
    one_of_all : (o : Option Aggregate) → ((m : ℕ) → leaf_at ks o ≡ Some m → m < many) → is_one_of (or_end many (leaf_at ks o)) (first_numbers (suc many)) ≡ true
    one_of_all o h = by_leaf (leaf_at ks o) h
      where
        by_leaf : (l : Option ℕ) → ((m : ℕ) → l ≡ Some m → m < many) → is_one_of (or_end many l) (first_numbers (suc many)) ≡ true
        by_leaf None h = is_first many (suc many) (omega arith)
        by_leaf (Some m) h = let l : m < many = h m refl in is_first m (suc many) (omega (arith, l))

    leaf_within : (i m : ℕ) → leaf_at ks (slice_get A i) ≡ Some m → m < many
    leaf_within i m e = by_found (slice_get A i) refl e
      where
        by_found : (o : Option Aggregate) → slice_get A i ≡ o → leaf_at ks o ≡ Some m → m < many
        by_found None t u = absurd (cc)
        by_found (Some a) t u = within ks g i m a t u

    each_placed : (i : ℕ) (B : List Aggregate) → list_all (λ (y : Reading). is_one_of (at_of y) (first_numbers (suc many))) (readings_of (paths_at ls ks) i (map (aggregate_view ls) B)) ≡ true
    each_placed i [] = refl
    each_placed i (Aggregate.Rows ∷ B) = and_from _ _ (one_of_all (slice_get A i) (leaf_within i)) (each_placed (suc i) B)
    each_placed i (Aggregate.Of c e ∷ B) = and_from _ _ (one_of_all (slice_get A i) (leaf_within i)) (each_placed (suc i) B)

    abbrev y : Partial
    y = put_all q (puts_of q R) (empty_partial q)

    -- that makes what is put of both
    pub taken_is : put_all q (G ++ (P ++ last)) y ≡ put_all q (puts_of q (R ++ N)) (empty_partial q)
    taken_is =
        ap (λ (ps : List Put). put_all q (G ++ ps) y) (sym all_sources)
        ∙ (ap (λ (ts : List GroupTerm). put_all q (G ++ puts_of_sources f at_of (readings_of (paths_at ls ks) 0 ts) (first_numbers (suc many))) y) (sym among)
        ∙ chunks_are_taken (paths_at ls ks) I at_of (first_numbers (suc many)) R N (empty_partial q) (first_differ (suc many))
        (ap (λ (ts : List GroupTerm). list_all (λ (z : Reading). is_one_of (at_of z) (first_numbers (suc many))) (readings_of (paths_at ls ks) 0 ts)) among ∙ each_placed 0 A))

    leaves_put : (z : Partial) → put_all q L z ≡ put_all q (key_puts G (greatest ks) many ++ P) z
    leaves_put = all_leaves fs ls ks A g q read N reads typed (at ks) (are_taken ks) many (omega arith)

    pub keyed_chunk : (k : ℕ) → greatest ks ≡ Some k → put_all q (L ++ end_puts n (takings_at ks None 0 A)) y ≡ put_all q (puts_of q (R ++ N)) (empty_partial q)
    keyed_chunk k e =
        let none : takings_at ks None 0 A ≡ [] = none_takes ks k 0 A e in
        let l : k < length ls = greatest_there (length ls) ks k g.keyed e in
        let key : key_puts G (greatest ks) many ≡ G = ap (λ (o : Option ℕ). key_puts G o many) e ∙ with_key G k many (omega (arith, l, length-map ls (λ (z : Leaf). z.path))) in
        ap (λ (ts : List Take). put_all q (L ++ end_puts n ts) y) none
        ∙ (ap (λ (ps : List Put). put_all q ps y) (append-nil L)
        ∙ (leaves_put y
        ∙ (ap (λ (ps : List Put). put_all q (ps ++ P) y) key
        ∙ (ap (λ (ps : List Put). put_all q (G ++ ps) y) (sym (ap (λ (ts : List Take). P ++ flat_map f (map (reading_of ls ks) ts)) none ∙ append-nil P)) ∙ taken_is))))

  -- without keys
  keyless_chunk : (g : AreGroupsOf fs ls [] A) → put_all (q [] g) (L [] g ++ end_puts n (takings_at [] None 0 A)) (y [] g) ≡ put_all (q [] g) (puts_of (q [] g) (R ++ N)) (empty_partial (q [] g))
  keyless_chunk g =
      by_takings (takings_at [] None 0 A) (leafless_mean ls N typed (takings_at [] None 0 A) (all_leafless ls 0 A g.fit))
      ∙ (sym (all_of (q [] g) (G [] g) (P [] g ++ last [] g) (y [] g) ∙ ap (put_all (q [] g) (P [] g ++ last [] g)) still) ∙ taken_is [] g)
    where
      at_group : put (q [] g) group_alone (y [] g) ≡ y [] g
      at_group = alone_still I (puts_of (q [] g) R)

      still : put_all (q [] g) (G [] g) (y [] g) ≡ y [] g
      still = groups_still (q [] g) (y [] g) at_group (flat_map (rows []) N)

      leaves_alone : (z : Partial) → put_all (q [] g) (L [] g) z ≡ put_all (q [] g) (P [] g) z
      leaves_alone z = leaves_put [] g z ∙ ap (λ (ps : List Put). put_all (q [] g) (ps ++ P [] g) z) (without_key (G [] g) many)

      by_takings : (ts : List Take) → flat_map (record_puts (length N)) ts ≡ flat_map (f [] g) (map (reading_of ls []) ts)
          → put_all (q [] g) (L [] g ++ end_puts n ts) (y [] g) ≡ put_all (q [] g) (P [] g ++ flat_map (f [] g) (map (reading_of ls []) ts)) (y [] g)
      by_takings [] h =
          all_of (q [] g) (L [] g) [] (y [] g) ∙ (leaves_alone (y [] g) ∙ sym (all_of (q [] g) (P [] g) [] (y [] g)))
      by_takings (t ∷ ts) h =
          let E : List Put = flat_map (record_puts n) (t ∷ ts) in
          let same : E ≡ flat_map (f [] g) (map (reading_of ls []) (t ∷ ts)) = ap (λ (m : ℕ). flat_map (record_puts m) (t ∷ ts)) so_many ∙ h in
          all_of (q [] g) (L [] g) (group_alone ∷ E) (y [] g)
          ∙ (ap (λ (z : Partial). put_all (q [] g) E (put (q [] g) group_alone z)) (leaves_alone (y [] g))
          ∙ (ap (put_all (q [] g) E) (sym (past (q [] g) group_alone (P [] g) (y [] g)) ∙ ap (put_all (q [] g) (P [] g)) at_group)
          ∙ (sym (all_of (q [] g) (P [] g) E (y [] g)) ∙ ap (λ (ps : List Put). put_all (q [] g) (P [] g ++ ps) (y [] g)) same)))

  pub any_chunk : (ks : List ℕ) (g : AreGroupsOf fs ls ks A) → put_all (q ks g) (L ks g ++ end_puts n (takings_at ks None 0 A)) (y ks g) ≡ put_all (q ks g) (puts_of (q ks g) (R ++ N)) (empty_partial (q ks g))
  any_chunk [] g = keyless_chunk g
  any_chunk (k ∷ ks) g = by_greatest (greatest ks) refl
    where
      by_greatest : (o : Option ℕ) → greatest ks ≡ o → put_all (q (k ∷ ks) g) (L (k ∷ ks) g ++ end_puts n (takings_at (k ∷ ks) None 0 A)) (y (k ∷ ks) g) ≡ put_all (q (k ∷ ks) g) (puts_of (q (k ∷ ks) g) (R ++ N)) (empty_partial (q (k ∷ ks) g))
      by_greatest None e = keyed_chunk (k ∷ ks) g k (ap (greater (Some k)) e)
      by_greatest (Some j) e = keyed_chunk (k ∷ ks) g (max k j) (ap (greater (Some k)) e)

-- ---- what a condition leaves of records, with no condition

-- what is put depends on the selection alone
put_selects : (c d : Option Expression) (x : Selection) (p : Put) (r : Partial) → put (record { condition = c; selection = x }) p r ≡ put (record { condition = d; selection = x }) p r
unfolding put
put_selects c d x p r = refl

all_selects : (c d : Option Expression) (x : Selection) (ps : List Put) (r : Partial) → put_all (record { condition = c; selection = x }) ps r ≡ put_all (record { condition = d; selection = x }) ps r
all_selects c d x [] r = refl
all_selects c d x (p ∷ ps) r =
    ap (put_all (record { condition = c; selection = x }) ps) (put_selects c d x p r) ∙ all_selects c d x ps (put (record { condition = d; selection = x }) p r)

empty_selects : (c d : Option Expression) (x : Selection) → empty_partial (record { condition = c; selection = x }) ≡ empty_partial (record { condition = d; selection = x })
unfolding empty_partial
empty_selects c d x = refl

all_left : (ns : List Node) → filter_map (kept None) ns ≡ ns
all_left [] = refl
all_left (n ∷ ns) = ap (λ (ms : List Node). n ∷ ms) (all_left ns)

left_append : (c : Option Expression) (R S : List Node) → filter_map (kept c) (R ++ S) ≡ filter_map (kept c) R ++ filter_map (kept c) S
left_append c R S = filter_map-append (kept c) R S

-- so many puts onto those of what is left of records
module _ (c : Option Expression) (x : Selection) where
  abbrev here : Query
  here = record { condition = c; selection = x }

  abbrev there : Query
  there = record { condition = None; selection = x }

  puts_left : (R : List Node) → puts_of here R ≡ puts_of there (filter_map (kept c) R)
  puts_left R = ap (puts_of_selection x) (sym (all_left (filter_map (kept c) R)))

  made_left : (R : List Node) → put_all here (puts_of here R) (empty_partial here) ≡ put_all there (puts_of there (filter_map (kept c) R)) (empty_partial there)
  made_left R = all_selects c None x (puts_of here R) (empty_partial here) ∙ ap₂ (λ (ps : List Put) (r : Partial). put_all there ps r) (puts_left R) (empty_selects c None x)

  pub chunk_left : (ps : List Put) (R S : List Node)
      → put_all there ps (put_all there (puts_of there (filter_map (kept c) R)) (empty_partial there)) ≡ put_all there (puts_of there (filter_map (kept c) R ++ filter_map (kept c) S)) (empty_partial there)
      → put_all here ps (put_all here (puts_of here R) (empty_partial here)) ≡ put_all here (puts_of here (R ++ S)) (empty_partial here)
  chunk_left ps R S h =
      ap (put_all here ps) (made_left R)
      ∙ all_selects c None x ps (put_all there (puts_of there (filter_map (kept c) R)) (empty_partial there))
      ∙ h
      ∙ ap (λ (ns : List Node). put_all there (puts_of there ns) (empty_partial there)) (sym (left_append c R S))
      ∙ sym (made_left (R ++ S))

  -- where nothing is left, nothing is put
  pub none_left : (R S : List Node) → filter_map (kept c) S ≡ [] → puts_of here (R ++ S) ≡ puts_of here R
  none_left R S e =
      ap (puts_of_selection x) (left_append c R S ∙ (ap (λ (ns : List Node). filter_map (kept c) R ++ ns) e ∙ append-nil (filter_map (kept c) R)))

pub chunks_are_put : ChunksArePut
chunks_are_put s p keys aggregates items R S read n h r reads so_many =
    let ls = plan_leaves p in
    let I : List GroupItem = plan_items ls aggregates.items items.items in
    let g : AreGroupsOf s.fields ls keys.items aggregates.items = plan_groups s p keys aggregates items h in
    let f : GroupsFit ls keys.items aggregates.items items.items = groups_fit p keys aggregates items h.selects in
    let among : aggregates_among I ≡ map (aggregate_view ls) aggregates.items = plan_aggregates ls aggregates.items items.items f.numbered in
    let c : Option Expression = (planned_query (plan_view p)).condition in
    let N : List Node = filter_map (kept c) S in
    let x : Selection = groups (paths_at ls keys.items) I in
    let same : planned_query (plan_view p) ≡ record { condition = c; selection = x } = ap (λ (sel : Selected). record { condition = c; selection = selection_view ls sel }) h.selects in
    let many : length ls ≡ length (paths_of_leaves ls) = sym (length-map ls (λ (l : Leaf). l.path)) in
    let typed : (d : List Step) → list_all (are_typed ls) (flat_map (rows d) N) ≡ true = λ d. typed_rows s.fields ls g.leaves d N (left_shaped s.fields c S r) in
    subst (λ (q : Query). put_all q (planned_puts p keys aggregates read n) (put_all q (puts_of q R) (empty_partial q)) ≡ put_all q (puts_of q (R ++ S)) (empty_partial q)) (sym same)
    (chunk_left c x (planned_puts p keys aggregates read n) R S
    (ap (λ (m : ℕ). put_all (query_of_all (paths_at ls keys.items) I) (flat_map (fired_read_puts keys.items read) (map (fires_at (paths_of_leaves ls) keys.items aggregates.items) (first_numbers m)) ++ end_puts n (takings_at keys.items None 0 aggregates.items))
    (put_all (query_of_all (paths_at ls keys.items) I) (puts_of (query_of_all (paths_at ls keys.items) I) (filter_map (kept c) R)) (empty_partial (query_of_all (paths_at ls keys.items) I)))) many
    ∙ any_chunk s.fields ls aggregates.items I among read n (filter_map (kept c) R) N reads typed so_many keys.items g))

pub chunk_can_fire : (s : Schema) (p : Plan) (keys : Vec ℕ Global) (aggregates : Vec Aggregate Global) (items : Vec PlanItem Global) (S : List Node) (C : List (List Triplet)) (n : ℕ)
    → IsOfGroups s p keys aggregates items → HasColumns s.fields (paths_of_leaves (plan_leaves p)) C n S
    → CanFireEach C (fires_of (paths_of_leaves (plan_leaves p)) keys.items aggregates.items (length (plan_leaves p)))
chunk_can_fire s p keys aggregates items S C n h x =
    let ls = plan_leaves p in
    let F : List (List Step) = paths_of_leaves ls in
    let g : AreGroupsOf s.fields ls keys.items aggregates.items = plan_groups s p keys aggregates items h in
    let many : length F ≡ length ls = length-map ls (λ (l : Leaf). l.path) in
    subst (λ (m : ℕ). CanFireEach C (fires_of F keys.items aggregates.items m)) many
    (all_can_fire s.fields ls keys.items aggregates.items g C n S x (length F) (omega arith))

leaves_fit : (ls : List Leaf) (a : Aggregate) → aggregate_fits ls a ≡ true → are_below ls (aggregate_leaves a) ≡ true
leaves_fit ls Aggregate.Rows h = refl
leaves_fit ls (Aggregate.Of f e) h = leaves_below ls e (and_parts (expr_fits ls e) (is_summed f e) h).0

all_numbered : (ls : List Leaf) (A : List Aggregate) → list_all (aggregate_fits ls) A ≡ true → are_numbered (length ls) A ≡ true
all_numbered ls [] h = refl
all_numbered ls (a ∷ A) h =
    let w : (aggregate_fits ls a ≡ true) × (list_all (aggregate_fits ls) A ≡ true) = and_parts _ _ h in
    and_from _ _ (leaves_fit ls a w.0) (all_numbered ls A w.1)

pub plan_numbered : (p : Plan) (keys : Vec ℕ Global) (aggregates : Vec Aggregate Global) (items : Vec PlanItem Global) → p.selection ≡ Selected.Groups keys aggregates items
    → are_numbered (length p.leaves.items) aggregates.items ≡ true
plan_numbered p keys aggregates items e =
    ap (λ (n : ℕ). are_numbered n aggregates.items) (sym (length-map p.leaves.items path_view)) ∙ all_numbered (plan_leaves p) aggregates.items (groups_fit p keys aggregates items e).fit
