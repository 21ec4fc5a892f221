-- What a scan over columns has taken.
use Rattle.std.proofs.Common.{◌≡◌, ℕ, zero, suc, ◌<◌, List, [], ◌∷◌, ◌++◌, map, length, Bool, true, false, Option, Some, refl, sym, ap, ap₂, subst, ◌∙◌, arith}
use Rattle.std.specs.List.{list_all, flat_map, slice_get, slice_index_or}
use Rattle.std.specs.declared.alloc.Global.{Global}
use Rattle.std.specs.declared.vec.Vec.{Vec}
use Rattle.std.proofs.lemmas.List.Sorted.{IsPermutation-refl}
use Rattle.std.proofs.lemmas.List.Folds.{list_all-append}
use Rattle.std.proofs.lemmas.Bool.{and_from}
use Rattle.dr_meaning.specs.Schema.{Schema, Fields}
use Rattle.dr_meaning.specs.Path.{Step, Leaf, paths_of_leaves, is_leaf_path, chain_end, common}
use Rattle.dr_meaning.specs.Record.{Value, Node, is_record}
use Rattle.dr_meaning.specs.Rows.{rows, value_at}
use Rattle.dr_meaning.specs.Column.{Triplet, column}
use Rattle.dr_meaning.specs.Query.{GroupTerm, key, count_rows, aggregate, GroupItem, Selection, objects, groups, Object, Query}
use Rattle.dr_partials.specs.PartialLaws.{is_mergeable_selection}
use Rattle.dr_partials.specs.PartialTypes.{aggregates_among}
use Rattle.dr_partials.specs.Partials.{Partial, lines, grouped, partial_of, empty_groups, empty_selected, empty_partial}
use Rattle.dr_partials.specs.Putting.{Put, put_all, puts_of, puts_of_terms}
use Rattle.dr_partials.proofs.BoundLemmas.{bound_is_mergeable}
use Rattle.dr_made_laws.proofs.FlowPartialLemmas.{puts_make_partial}
use Rattle.dr_partials.proofs.GroupPutLemmas.{groups_become}
use Rattle.dr_nested.specs.PathView.{path_view, paths_view}
use Rattle.dr_nested.specs.declared.path.Path.{Path}
use Rattle.std.proofs.lemmas.List.{length-map}
use Rattle.dr_plan.specs.Planned.{Planned, plan_view, plan_leaves, planned_query}
use Rattle.dr_plan.specs.Views.{aggregate_view, group_item_view, selection_view}
use Rattle.dr_plan.specs.declared.aggregate.Aggregate.{Aggregate}
use Rattle.dr_plan.specs.declared.plan.GroupItem.{GroupItem as PlanItem}
use Rattle.dr_plan.specs.declared.plan.Plan.{Plan}
use Rattle.dr_plan.specs.declared.plan.Selection.{Selection as Selected}
use Rattle.dr_group.specs.Gathering.{gatherings_of}
use Rattle.dr_group.specs.Maps.{groups_view, gatherings_view}
use Rattle.dr_group.specs.Partials.{GathersFor, IsPartialOf}
use Rattle.dr_group.specs.declared.group_map.GroupMap.{GroupMap}
use Rattle.dr_group.specs.declared.partial.Partial as held
use Rattle.dr_beside.specs.Chunks.{HasColumns}
use Rattle.dr_beside.specs.Neighbours.{column_at}
use Rattle.dr_condition.specs.Parted.{constants_hold}
use Rattle.dr_rows_beside.specs.declared.source.Beside.{Beside}
use Rattle.dr_rows_beside.specs.Rows.{Row, slot_at, picked}
use Rattle.dr_rows_beside.specs.RecordRows.{rows_of}
use Rattle.dr_rows_beside.specs.Slots.{EachSlot}
use Rattle.dr_rows_beside.proofs.RecordRowLemmas.{rows_of_records}
use Rattle.dr_rows_beside.proofs.SlotLemmas.{each_slot}
use Rattle.dr_rows_beside.proofs.SourceLemmas.{got_at}
use Rattle.dr_rows_beside.specs.declared.judging.Test.{Test}
use Rattle.dr_rows_beside.specs.declared.keeping.Keeping.{Keeping}
use Rattle.dr_rows_beside.specs.Keepings.{CanJudge}
use Rattle.dr_rows_beside.specs.Kept.{all_hold, RowsAreTyped}
use Rattle.dr_rows_beside.specs.KeptBits.{commons, common_at, kept_bits}
use Rattle.dr_rows_beside.specs.KeptRows.{left_of, kept_rows_of}
use Rattle.dr_rows_beside.specs.Makings.{IsKeepingOf}
use Rattle.dr_rows_beside.proofs.JudgeableLemmas.{records_can_be_judged}
use Rattle.dr_rows_beside.proofs.KeptRowLemmas.{kept_rows_of_records, kept_records_are_counted}
use Rattle.dr_columns.specs.declared.column_scan.ColumnScan.{ColumnScan}
use Rattle.dr_columns.specs.Numbers.{HasPut}
use Rattle.dr_columns.specs.RowPuts.{paths_at}
use Rattle.dr_columns.specs.Takings.{Fires, Take, fired_view, takings_view, fires_of, fired_puts, end_puts, CanFire, CanFireEach}
use Rattle.dr_columns.specs.declared.keeps.Keeps.{Keeps}
use Rattle.dr_columns.specs.ChunksTaken.{ReadsRows, left_by, chunk_puts, planned_puts}
use Rattle.dr_columns.specs.KeptTakings.{kept_read, kept_count, kept_chunk_puts, CanSift}
use Rattle.dr_columns.specs.PlanKeeps.{KeepsFor}
use Rattle.dr_columns.specs.Taken.{HasTaken, plan_paths}
use Rattle.dr_columns.proofs.PlanChunkLemmas.{plan_groups, chunks_are_put, chunk_can_fire, none_left}
use Rattle.dr_columns.proofs.PlanKeepLemmas.{LeavesFor, plan_leaves_left, all_are_left, none_are_left}
use Rattle.dr_columns.proofs.SourceMeansLemmas.{records_shaped, typed_rows}
use Rattle.dr_columns.proofs.SourceReadLemmas.{AreInOrder, leaves_in_order}

-- ---- before any record

no_terms : (keys : List (List Step)) (i : ℕ) (ts : List GroupTerm) → puts_of_terms keys i ts [] ≡ []
no_terms keys i [] = refl
no_terms keys i (key j ∷ ts) = no_terms keys (suc i) ts
no_terms keys i (count_rows ∷ ts) = no_terms keys (suc i) ts
no_terms keys i (aggregate a e ∷ ts) = no_terms keys (suc i) ts

pub no_puts : (q : Query) (keys : List (List Step)) (items : List GroupItem) → q.selection ≡ groups keys items → puts_of q [] ≡ []
no_puts q keys items e = ap (λ (s : Selection). puts_of (record { condition = q.condition; selection = s }) []) e ∙ no_terms keys 0 (aggregates_among items)

-- ---- the items of a plan

abbrev pub items_of : Plan → Vec Aggregate Global → Vec PlanItem Global → List GroupItem
items_of p aggregates items = map (group_item_view (map (aggregate_view (plan_leaves p)) aggregates.items)) items.items

pub selects_groups : (p : Plan) (keys : Vec ℕ Global) (aggregates : Vec Aggregate Global) (items : Vec PlanItem Global) → p.selection ≡ Selected.Groups keys aggregates items
    → (planned_query (plan_view p)).selection ≡ groups (paths_at (plan_leaves p) keys.items) (items_of p aggregates items)
selects_groups p keys aggregates items e = ap (selection_view (plan_leaves p)) e

pub gathers_for : (p : Plan) (keys : Vec ℕ Global) (aggregates : Vec Aggregate Global) (items : Vec PlanItem Global) (m : GroupMap) → p.selection ≡ Selected.Groups keys aggregates items
    → IsPartialOf (plan_view p) (held.Partial.Groups m) → gatherings_of (items_of p aggregates items) ≡ gatherings_view m
gathers_for p keys aggregates items m e h = subst (λ (x : Selection). GathersFor x m) (selects_groups p keys aggregates items e) h

pub gathers_still : (p : Plan) (m n : GroupMap) → gatherings_view n ≡ gatherings_view m → IsPartialOf (plan_view p) (held.Partial.Groups m) → IsPartialOf (plan_view p) (held.Partial.Groups n)
gathers_still p m n e h = by_selection (plan_view p).selection h
  where
    by_selection : (x : Selection) → GathersFor x m → GathersFor x n
    by_selection (groups keys items) h = h ∙ sym e
    by_selection (objects items) h = absurd h

-- ---- its leaves

pub scan_in_order : (s : Schema) (p : Plan) (R : List Node) (x : ColumnScan) → HasTaken s p R x → AreInOrder s.fields (plan_paths p)
scan_in_order s p R x t = leaves_in_order s.fields (plan_leaves p) (plan_groups s p t.keys t.aggregates t.items t.of_groups).leaves

-- ---- the rows of all records

mapped_index : (g : List Step → ℕ) (F : List (List Step)) (i : ℕ) (q : List Step) → slice_get F i ≡ Some q → slice_index_or (map g F) i 0 ≡ g q
mapped_index g [] i q e = absurd (cc)
mapped_index g (p ∷ F) zero q e = let z : p ≡ q = cc in ap g z
mapped_index g (p ∷ F) (suc i) q e = mapped_index g F i q e

records_read : (fs : Fields) (ls : List Leaf) (C : List (List Triplet)) (n : ℕ) (S : List Node) → HasColumns fs (paths_of_leaves ls) C n S → list_all (is_leaf_path fs) (paths_of_leaves ls) ≡ true
    → ReadsRows ls (λ (leaf : ℕ) (bs : List Beside). rows_of leaf bs C) S
records_read fs ls C n S h f leaf p bs js b r =
    let own = (rows_of_records fs (paths_of_leaves ls) C n S leaf p bs h f b).1 in (
      sym (length-map (rows_of leaf bs C) (λ (y : Row). slot_at y.slots leaf)) ∙ ap (λ (vs : List (Option Value)). length vs) own ∙ length-map (flat_map (rows (chain_end p)) S) (value_at p),
      each_slot fs ls C n S leaf p bs h f b js r,
    )

-- ---- a chunk

-- by the rows that are read
has_more : (s : Schema) (p : Plan) (R S : List Node) (read : ℕ → List Beside → List Row) (n : ℕ) (x : ColumnScan) (m : GroupMap) → HasTaken s p R x → list_all (is_record s.fields) S ≡ true
    → ReadsRows (plan_leaves p) read (left_by p S) → n ≡ length (left_by p S)
    → HasPut x.groups (chunk_puts x.keys.now read (map fired_view x.fired.items) (takings_view x.at_end.items) n) m
    → grouped (groups_view m) ≡ put_all (planned_query (plan_view p)) (puts_of (planned_query (plan_view p)) (R ++ S)) (empty_partial (planned_query (plan_view p)))
has_more s p R S read n x m t h r k put =
    let q : Query = planned_query (plan_view p) in
    let I : List GroupItem = items_of p t.aggregates t.items in
    let K : List (List Step) = paths_at (plan_leaves p) t.keys.items in
    let all : List Put = chunk_puts x.keys.now read (map fired_view x.fired.items) (takings_view x.at_end.items) n in
    let same : all ≡ planned_puts p t.keys t.aggregates read n =
    ap₂ (λ (ks : List ℕ) (fs : List Fires). chunk_puts ks read fs (takings_view x.at_end.items) n) t.same_keys t.fired
    ∙ ap (λ (ts : List Take). chunk_puts t.keys.items read (fires_of (plan_paths p) t.keys.items t.aggregates.items (length (plan_leaves p))) ts n) t.at_end in
    ap grouped (put I (gathers_for p t.keys t.aggregates t.items x.groups t.of_groups.selects t.gathers))
    ∙ (sym (groups_become q K I all (groups_view x.groups) (selects_groups p t.keys t.aggregates t.items t.of_groups.selects))
    ∙ (ap₂ (λ (ps : List Put) (y : Partial). put_all q ps y) same t.made
    ∙ chunks_are_put s p t.keys t.aggregates t.items R S read n t.of_groups h r k))

-- where nothing is left of it
pub has_nothing : (s : Schema) (p : Plan) (R S : List Node) (x : ColumnScan) → HasTaken s p R x → left_by p S ≡ []
    → grouped (groups_view x.groups) ≡ put_all (planned_query (plan_view p)) (puts_of (planned_query (plan_view p)) (R ++ S)) (empty_partial (planned_query (plan_view p)))
has_nothing s p R S x t e =
    let q : Query = planned_query (plan_view p) in
    t.made ∙ ap (λ (ps : List Put). put_all q ps (empty_partial q)) (sym (none_left q.condition q.selection R S e))

pub has_none_kept : (s : Schema) (p : Plan) (R S : List Node) (x : ColumnScan) → HasTaken s p R x → constants_hold p.test.items ≡ false → list_all (is_record s.fields) S ≡ true
    → grouped (groups_view x.groups) ≡ put_all (planned_query (plan_view p)) (puts_of (planned_query (plan_view p)) (R ++ S)) (empty_partial (planned_query (plan_view p)))
has_none_kept s p R S x t c h = has_nothing s p R S x t (none_are_left s p t.of_groups.of_schema c S h)

-- where all is left
pub has_all : (s : Schema) (p : Plan) (R S : List Node) (C : List (List Triplet)) (n : ℕ) (x : ColumnScan) (m : GroupMap) → HasTaken s p R x → KeepsFor p Keeps.All → HasColumns s.fields (plan_paths p) C n S
    → HasPut x.groups (flat_map (fired_puts x.keys.now C) (map fired_view x.fired.items) ++ end_puts n (takings_view x.at_end.items)) m
    → grouped (groups_view m) ≡ put_all (planned_query (plan_view p)) (puts_of (planned_query (plan_view p)) (R ++ S)) (empty_partial (planned_query (plan_view p)))
has_all s p R S C n x m t k h put =
    let ls = plan_leaves p in
    let o : AreInOrder s.fields (plan_paths p) = scan_in_order s p R x t in
    let all : left_by p S ≡ S = all_are_left s p t.of_groups.of_schema k.0 k.1 S h.0 in
    has_more s p R S (λ (leaf : ℕ) (bs : List Beside). rows_of leaf bs C) n x m t h.0
    (subst (ReadsRows ls (λ (leaf : ℕ) (bs : List Beside). rows_of leaf bs C)) (sym all) (records_read s.fields ls C n S h o.leaves))
    (sym h.1 ∙ ap (λ (ns : List Node). length ns) (sym all)) put

pub scan_can_fire : (s : Schema) (p : Plan) (R S : List Node) (C : List (List Triplet)) (n : ℕ) (x : ColumnScan) → HasTaken s p R x → HasColumns s.fields (plan_paths p) C n S → CanFireEach C (map fired_view x.fired.items)
scan_can_fire s p R S C n x t h = subst (CanFireEach C) (sym t.fired) (chunk_can_fire s p t.keys t.aggregates t.items S C n t.of_groups h)

-- ---- what a condition keeps of it

pub sift_each : (C : List (List Triplet)) (k : Keeping) (fs : List Fires) → length C ≡ length k.commons.items → CanFireEach C fs → CanSift C k fs
sift_each C k [] e h = tt
sift_each C k (f ∷ fs) e h = (λ n. let w : CanFire C f = h.0 n in (omega (arith, w.leaf, e), w), sift_each C k fs e h.1)

module _ (s : Schema) (p : Plan) (R S : List Node) (C : List (List Triplet)) (n : ℕ) (x : ColumnScan) (t : HasTaken s p R x) (k : Keeping) (c : constants_hold p.test.items ≡ true)
    (w : IsKeepingOf (plan_paths p) p.test.items k) (h : HasColumns s.fields (plan_paths p) C n S) where
  abbrev ls : List Leaf
  ls = plan_leaves p

  v : LeavesFor s p k
  v = plan_leaves_left s p k t.of_groups.of_schema c w

  o : AreInOrder s.fields (plan_paths p)
  o = scan_in_order s p R x t

  typed : RowsAreTyped ls S
  typed i q e = typed_rows s.fields ls (plan_groups s p t.keys t.aggregates t.items t.of_groups).leaves (chain_end q) S (records_shaped s.fields S h.0)

  pub can_judge : CanJudge C k
  can_judge = records_can_be_judged s.fields ls C n S k h o.leaves o.differ v.own v.others w.few

  pub can_sift : CanSift C k (map fired_view x.fired.items)
  can_sift =
      let long : length C ≡ length (plan_paths p) = ap (λ (D : List (List Triplet)). length D) (sym h.2) ∙ length-map (plan_paths p) (λ (q : List Step). column q S) in
      let many : length k.commons.items ≡ length (plan_paths p) =
      ap (λ (ns : List ℕ). length ns) w.commons_are ∙ length-map (plan_paths p) (λ (q : List Step). common q (slice_index_or (plan_paths p) k.own.source.leaf [])) in
      sift_each C k (map fired_view x.fired.items) (long ∙ sym many) (subst (CanFireEach C) (sym t.fired) (chunk_can_fire s p t.keys t.aggregates t.items S C n t.of_groups h))

  left_is : left_by p S ≡ left_of (chain_end v.own.path) (all_hold ls (k.own ∷ k.others.items)) S
  left_is = v.left S h.0

  count_is : kept_count C k ≡ length (left_by p S)
  count_is = kept_records_are_counted s.fields ls C n S k.own k.others.items h o.leaves o.differ typed v.own v.others ∙ ap (λ (ns : List Node). length ns) (sym left_is)

  common_is : (leaf : ℕ) (q : List Step) → slice_get (plan_paths p) leaf ≡ Some q → common_at k leaf ≡ common q v.own.path
  common_is leaf q e =
      ap (λ (ns : List ℕ). slice_index_or ns leaf 0) w.commons_are
      ∙ mapped_index (λ (r : List Step). common r (slice_index_or (plan_paths p) k.own.source.leaf [])) (plan_paths p) leaf q e
      ∙ ap (common q) (got_at (plan_paths p) k.own.source.leaf v.own.path v.own.is_path)

  reads : ReadsRows ls (kept_read C k) (left_by p S)
  reads leaf q bs js b r =
      let all = kept_rows_of_records s.fields ls C n S k.own k.others.items leaf q bs js h o.leaves o.differ typed v.own v.others b r in
      let same : kept_rows_of C k.own k.others.items v.own.path q leaf bs ≡ kept_read C k leaf bs =
      ap (λ (d : ℕ). picked (kept_bits C k.own k.others.items d (column_at C leaf)) (rows_of leaf bs C)) (sym (common_is leaf q b.is_path)) in (
        ap (λ (rs : List Row). length rs) (sym same) ∙ all.0 ∙ ap (λ (ns : List Node). length (flat_map (rows (chain_end q)) ns)) (sym left_is),
        subst (λ (ns : List Node). EachSlot ls js (kept_read C k leaf bs) (flat_map (rows (chain_end q)) ns)) (sym left_is)
            (subst (λ (rs : List Row). EachSlot ls js rs (flat_map (rows (chain_end q)) (left_of (chain_end v.own.path) (all_hold ls (k.own ∷ k.others.items)) S))) same all.1),
      )

  pub has_kept : (m : GroupMap) → HasPut x.groups (kept_chunk_puts x.keys.now C k (map fired_view x.fired.items) (takings_view x.at_end.items) (kept_count C k)) m
      → grouped (groups_view m) ≡ put_all (planned_query (plan_view p)) (puts_of (planned_query (plan_view p)) (R ++ S)) (empty_partial (planned_query (plan_view p)))
  has_kept m put = by_count (kept_count C k) count_is put
    where
      by_count : (i : ℕ) → i ≡ length (left_by p S) → HasPut x.groups (kept_chunk_puts x.keys.now C k (map fired_view x.fired.items) (takings_view x.at_end.items) i) m
          → grouped (groups_view m) ≡ put_all (planned_query (plan_view p)) (puts_of (planned_query (plan_view p)) (R ++ S)) (empty_partial (planned_query (plan_view p)))
      by_count zero e g =
          ap grouped (g (items_of p t.aggregates t.items) (gathers_for p t.keys t.aggregates t.items x.groups t.of_groups.selects t.gathers))
          ∙ has_nothing s p R S x t (no_length (left_by p S) (sym e))
        where
          no_length : (ns : List Node) → length ns ≡ 0 → ns ≡ []
          no_length [] f = refl
          no_length (a ∷ ns) f = absurd (omega (arith, f))
      by_count (suc i) e g = has_more s p R S (kept_read C k) (suc i) x m t h.0 reads e g

-- what it keeps is told by its tests alone
pub keeps_still : (p : Plan) (k l : Keeping) → l.own ≡ k.own → l.others.items ≡ k.others.items → l.commons.items ≡ k.commons.items → length l.above.items ≡ length k.above.items → KeepsFor p (Keeps.Tested k) → KeepsFor p (Keeps.Tested l)
keeps_still p k l a b d e h =
    let F : List (List Step) = plan_paths p in
    let w : IsKeepingOf F p.test.items k = h.1 in (
      h.0,
      record {
        tests = w.tests;
        at = w.at;
        made = w.made;
        within = w.within;
        own = subst (λ (t : Test). t ≡ slice_index_or w.tests w.at t) (sym a) w.own;
        others = b ∙ w.others;
        last = w.last;
        commons_are = d ∙ w.commons_are ∙ ap (λ (t : Test). commons F t.source.leaf) (sym a);
        depths = e ∙ w.depths ∙ ap (λ (t : Test). t.depth) (sym a);
        few = omega (arith, e, w.few);
      },
    )

pub both_records : (s : Schema) (R S : List Node) → list_all (is_record s.fields) R ≡ true → list_all (is_record s.fields) S ≡ true → list_all (is_record s.fields) (R ++ S) ≡ true
both_records s R S h g = list_all-append (is_record s.fields) R S ∙ and_from _ _ h g

-- ---- the partial

pub has_partial : (s : Schema) (p : Plan) (R : List Node) (x : ColumnScan) → HasTaken s p R x → grouped (groups_view x.groups) ≡ partial_of s.fields (planned_query (plan_view p)) R
has_partial s p R x t =
    let q : Query = planned_query (plan_view p) in
    let b : Query = t.of_groups.of_schema.1 in
    let m : is_mergeable_selection s.fields q.selection ≡ true =
    ap (is_mergeable_selection s.fields) (ap (λ (y : Planned). y.selection) t.of_groups.of_schema.3) ∙ bound_is_mergeable s t.of_groups.of_schema.0 b t.of_groups.of_schema.2 in
    t.made
    ∙ puts_make_partial s.fields q (paths_at (plan_leaves p) t.keys.items) (items_of p t.aggregates t.items) (selects_groups p t.keys t.aggregates t.items t.of_groups.selects) m R (puts_of q R) t.are_records (IsPermutation-refl (puts_of q R))

pub paths_same : (ps : List Path) → paths_view ps ≡ paths_of_leaves (map path_view ps)
paths_same [] = refl
paths_same (p ∷ ps) = ap (λ (xs : List (List Step)). (path_view p).path ∷ xs) (paths_same ps)

-- ---- before any record

pub has_none : (p : Plan) (keys : Vec ℕ Global) (aggregates : Vec Aggregate Global) (items : Vec PlanItem Global) (m : GroupMap) → p.selection ≡ Selected.Groups keys aggregates items
    → grouped (groups_view m) ≡ empty_partial (planned_query (plan_view p))
    → grouped (groups_view m) ≡ put_all (planned_query (plan_view p)) (puts_of (planned_query (plan_view p)) []) (empty_partial (planned_query (plan_view p)))
has_none p keys aggregates items m e h =
    let q : Query = planned_query (plan_view p) in
    h ∙ ap (λ (ps : List Put). put_all q ps (empty_partial q)) (sym (no_puts q (paths_at (plan_leaves p) keys.items) (items_of p aggregates items) (selects_groups p keys aggregates items e)))

pub all_fired : (p : Plan) (keys : Vec ℕ Global) (aggregates : Vec Aggregate Global) (fs : List Fires) (ps : List Path) (ks : List ℕ) (A : List Aggregate) → ps ≡ p.leaves.items → ks ≡ keys.items → A ≡ aggregates.items
    → fs ≡ fires_of (paths_view ps) ks A (length ps) → fs ≡ fires_of (plan_paths p) keys.items aggregates.items (length (plan_leaves p))
all_fired p keys aggregates fs ps ks A e f g h =
    h
    ∙ (ap₂ (λ (js : List ℕ) (B : List Aggregate). fires_of (paths_view ps) js B (length ps)) f g
    ∙ (ap (λ (qs : List Path). fires_of (paths_view qs) keys.items aggregates.items (length qs)) e
    ∙ ap₂ (λ (F : List (List Step)) (n : ℕ). fires_of F keys.items aggregates.items n) (paths_same p.leaves.items) (sym (length-map p.leaves.items path_view))))

-- ---- which plans

pub no_lines : (q : Query) (keys : List (List Step)) (items : List GroupItem) (os : List Object) → q.selection ≡ groups keys items → lines os ≡ empty_partial q → ⊥
unfolding empty_partial
no_lines q keys items os e h = let both : lines os ≡ grouped (empty_groups keys items) = h ∙ ap empty_selected e in absurd (cc)
