-- What a scan for a plan of groups makes over the walk of records is their partial.
use Rattle.std.proofs.Common.{◌≡◌, ℕ, List, true, false, Option, Some, None, refl, ap, ◌∙◌}
use Rattle.std.specs.List.{list_all, slice_get}
use Rattle.std.specs.declared.alloc.Global.{Global}
use Rattle.std.specs.declared.vec.Vec.{Vec}
use Rattle.dr_meaning.specs.Schema.{Schema}
use Rattle.dr_meaning.specs.Path.{Leaf, paths_of_leaves}
use Rattle.dr_meaning.specs.Record.{Node, is_record}
use Rattle.dr_meaning.specs.Query.{Query}
use Rattle.dr_meaning.specs.Walk.{walk}
use Rattle.dr_kept_laws.specs.GroupFlow.{all_fired, all_left, left_with}
use Rattle.dr_kept_laws.specs.ChainNumbers.{chain_numbers}
use Rattle.dr_kept_laws.specs.Frames.{Frames}
use Rattle.dr_partials.specs.Partials.{empty_partial, partial_of}
use Rattle.dr_partials.specs.Putting.{Put, put_all}
use Rattle.dr_made_laws.proofs.FlowPartialLemmas.{nothing_is_partial}
use Rattle.dr_made_laws.proofs.FramesPartialLemmas.{frames_put_partial, all_moves_put_partial}
use Rattle.dr_plan.specs.Planned.{plan_view, plan_leaves, planned_query}
use Rattle.dr_plan.specs.PlanOf.{IsPlanOf}
use Rattle.dr_plan.specs.declared.aggregate.Aggregate.{Aggregate}
use Rattle.dr_plan.specs.declared.plan.GroupItem.{GroupItem}
use Rattle.dr_plan.specs.declared.plan.Plan.{Plan}
use Rattle.dr_plan.specs.declared.plan.Selection.{Selection}
use Rattle.dr_scalar.specs.Leaves.{greatest, tests_leaves}
use Rattle.dr_condition.specs.Parted.{reading, lasts_read, constants_hold, WatchedParts, watch_parts}
use Rattle.dr_condition.specs.PlanConditions.{WatchesPlan}
use Rattle.dr_condition.proofs.ReadRows.{are_leaf_paths, plan_leaves_are}
use Rattle.dr_condition.proofs.PlanCondition.{watch_tests, plan_watches, plan_constant, plan_never}
use Rattle.dr_within.specs.Takings.{takings_of}
use Rattle.dr_within.specs.Behind.{readings_at, frames_behind}
use Rattle.dr_within.proofs.PlanReadings.{plan_reads}
use Rattle.dr_within.proofs.FramedLemmas.{framed_whole}
use Rattle.dr_within.proofs.PlanFrames.{watched_frames}

-- ---- the partial

pub watched_partial : (s : Schema) (q : Query) (p : Plan) (keys : Vec ℕ Global) (aggregates : Vec Aggregate Global) (items : Vec GroupItem Global)
    → IsPlanOf s q p → p.selection ≡ Selection.Groups keys aggregates items → constants_hold p.test.items ≡ true
    → (last : ℕ) → greatest (tests_leaves p.test.items) ≡ Some last
    → (chain : List ℕ) → ((l : Leaf) → slice_get (plan_leaves p) last ≡ Some l → chain ≡ chain_numbers s.fields l.path)
    → (W : Option WatchedParts) → W ≡ Some (watch_parts chain last (reading p.test.items) (lasts_read p.test.items))
    → (R : List Node) → list_all (is_record s.fields) R ≡ true
    → put_all (planned_query (plan_view p))
    (frames_behind W (readings_at (plan_leaves p) keys.items (takings_of aggregates.items))
    (walk s.fields (paths_of_leaves (plan_leaves p)) R)).made (empty_partial (planned_query (plan_view p)))
    ≡ partial_of s.fields (planned_query (plan_view p)) R
watched_partial s q p keys aggregates items h e b last g chain c W u R r =
    let fs = s.fields in
    let ls = plan_leaves p in
    let F = paths_of_leaves ls in
    let query = planned_query (plan_view p) in
    let xs = readings_at ls keys.items (takings_of aggregates.items) in
    let x = plan_watches s q p h last g chain c in
    ap (λ (f : Frames Put). put_all query f.made (empty_partial query))
    (ap (λ (V : Option WatchedParts). frames_behind V xs (walk fs F R)) u
    ∙ watched_frames (all_fired xs) (left_with (all_left xs)) s q p h last g chain b R r)
    ∙ frames_put_partial fs query F xs (plan_reads s q p keys aggregates items h e) (watch_tests chain last p.test.items) x.0 x.1 x.2 x.3 x.4 R r

pub whole_partial : (s : Schema) (q : Query) (p : Plan) (keys : Vec ℕ Global) (aggregates : Vec Aggregate Global) (items : Vec GroupItem Global)
    → IsPlanOf s q p → p.selection ≡ Selection.Groups keys aggregates items
    → greatest (tests_leaves p.test.items) ≡ None → constants_hold p.test.items ≡ true
    → (W : Option WatchedParts) → W ≡ None
    → (R : List Node) → list_all (is_record s.fields) R ≡ true
    → put_all (planned_query (plan_view p))
    (frames_behind W (readings_at (plan_leaves p) keys.items (takings_of aggregates.items))
    (walk s.fields (paths_of_leaves (plan_leaves p)) R)).made (empty_partial (planned_query (plan_view p)))
    ≡ partial_of s.fields (planned_query (plan_view p)) R
whole_partial s q p keys aggregates items h e g b W u R r =
    let fs = s.fields in
    let ls = plan_leaves p in
    let F = paths_of_leaves ls in
    let query = planned_query (plan_view p) in
    let xs = readings_at ls keys.items (takings_of aggregates.items) in
    ap (λ (f : Frames Put). put_all query f.made (empty_partial query))
    (ap (λ (V : Option WatchedParts). frames_behind V xs (walk fs F R)) u ∙ framed_whole (all_fired xs) (left_with (all_left xs)) (walk fs F R))
    ∙ all_moves_put_partial fs query F xs (plan_reads s q p keys aggregates items h e) (are_leaf_paths fs ls (plan_leaves_are s q p h))
    (plan_constant s q p h g b) R r

-- where a test that reads no leaf isn't true
pub nothing_partial : (s : Schema) (q : Query) (p : Plan) → IsPlanOf s q p → constants_hold p.test.items ≡ false
    → (R : List Node) → list_all (is_record s.fields) R ≡ true
    → empty_partial (planned_query (plan_view p)) ≡ partial_of s.fields (planned_query (plan_view p)) R
nothing_partial s q p h b R r = nothing_is_partial s.fields (planned_query (plan_view p)) R r (plan_never s q p h b)

-- whatever is watched of it
pub scan_partial : (s : Schema) (q : Query) (p : Plan) (keys : Vec ℕ Global) (aggregates : Vec Aggregate Global) (items : Vec GroupItem Global)
    → IsPlanOf s q p → p.selection ≡ Selection.Groups keys aggregates items → (W : Option WatchedParts) → WatchesPlan s p W
    → (R : List Node) → list_all (is_record s.fields) R ≡ true
    → put_all (planned_query (plan_view p))
    (frames_behind W (readings_at (plan_leaves p) keys.items (takings_of aggregates.items))
    (walk s.fields (paths_of_leaves (plan_leaves p)) R)).made (empty_partial (planned_query (plan_view p)))
    ≡ partial_of s.fields (planned_query (plan_view p)) R
scan_partial s q p keys aggregates items h e None c R r = whole_partial s q p keys aggregates items h e c.0 c.1 None refl R r
scan_partial s q p keys aggregates items h e (Some w) c R r =
    watched_partial s q p keys aggregates items h e c.1 w.watch.last c.0 w.watch.chain c.3 (Some w) (ap Some c.2) R r
