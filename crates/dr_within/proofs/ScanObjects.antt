-- What a scan for a plan of objects makes over the walk of records is the objects of what its condition keeps of them: their partial.
use Rattle.std.proofs.Common.{◌≡◌, ℕ, List, true, false, Option, Some, None, ap, ◌∙◌, []}
use Rattle.std.specs.List.{list_all, slice_get, filter_map}
use Rattle.std.specs.declared.alloc.Global.{Global}
use Rattle.std.specs.declared.vec.Vec.{Vec}
use Rattle.dr_meaning.specs.Schema.{Schema}
use Rattle.dr_meaning.specs.Path.{Leaf, paths_of_leaves}
use Rattle.dr_meaning.specs.Record.{Node, is_record}
use Rattle.dr_meaning.specs.Kept.{kept}
use Rattle.dr_meaning.specs.Query.{Query, levels_of}
use Rattle.dr_meaning.specs.Walk.{walk}
use Rattle.dr_kept_laws.specs.ChainNumbers.{chain_numbers}
use Rattle.dr_kept_laws.specs.Frames.{Frames}
use Rattle.dr_partials.specs.Partials.{lines, partial_of}
use Rattle.dr_made_laws.specs.ObjectFlow.{Made, items_of, seen_items, left_items}
use Rattle.dr_made_laws.specs.ObjectFlowLaws.{built_of, made_objects}
use Rattle.dr_made_laws.proofs.FramesObjects.{frames_make_objects, all_moves_make_objects}
use Rattle.dr_made_laws.proofs.PartialLemmas.{objects_make_partial, no_objects_make_partial}
use Rattle.dr_plan.specs.Planned.{plan_view, plan_leaves, planned_query}
use Rattle.dr_plan.specs.PlanOf.{IsPlanOf}
use Rattle.dr_plan.specs.declared.objects.ObjectPlan.{ObjectPlan}
use Rattle.dr_plan.specs.declared.plan.Plan.{Plan}
use Rattle.dr_plan.specs.declared.plan.RecordItem.{RecordItem}
use Rattle.dr_plan.specs.declared.plan.Selection.{Selection}
use Rattle.dr_scalar.specs.Leaves.{greatest, tests_leaves}
use Rattle.dr_condition.specs.Parted.{reading, lasts_read, constants_hold, WatchedParts, watch_parts}
use Rattle.dr_condition.specs.PlanConditions.{WatchesPlan}
use Rattle.dr_condition.proofs.PlanCondition.{watch_tests, plan_watches, plan_constant, plan_never}
use Rattle.dr_condition.proofs.ReadRows.{are_leaf_paths, plan_leaves_are}
use Rattle.dr_within.specs.ObjectsBehind.{read_items, objects_behind}
use Rattle.dr_within.proofs.FramedLemmas.{framed_whole}
use Rattle.dr_within.proofs.PlanFrames.{watched_frames}
use Rattle.dr_within.proofs.PlanItems.{plan_items_read, plan_selects}

-- the objects of what a plan's condition keeps of records
abbrev kept_objects : Schema → Plan → List RecordItem → List Node → List Made
kept_objects s p items R = built_of s.fields (items_of (read_items (plan_leaves p) items)) (filter_map (kept (planned_query (plan_view p)).condition) R)

-- what is made along their walk
abbrev made_along : Schema → Plan → List RecordItem → Option WatchedParts → List Node → List Made
made_along s p items W R = (objects_behind W s.fields (read_items (plan_leaves p) items) (walk s.fields (paths_of_leaves (plan_leaves p)) R)).made

watched_objects : (s : Schema) (q : Query) (p : Plan) (items : Vec RecordItem Global) (object : ObjectPlan)
    → IsPlanOf s q p → p.selection ≡ Selection.Objects items object → constants_hold p.test.items ≡ true
    → (last : ℕ) → greatest (tests_leaves p.test.items) ≡ Some last
    → (chain : List ℕ) → ((l : Leaf) → slice_get (plan_leaves p) last ≡ Some l → chain ≡ chain_numbers s.fields l.path)
    → (W : Option WatchedParts) → W ≡ Some (watch_parts chain last (reading p.test.items) (lasts_read p.test.items))
    → (R : List Node) → list_all (is_record s.fields) R ≡ true → made_along s p items.items W R ≡ kept_objects s p items.items R
watched_objects s q p items object h e b last g chain c W u R r =
    let fs = s.fields in
    let F = paths_of_leaves (plan_leaves p) in
    let rs = read_items (plan_leaves p) items.items in
    let x = plan_watches s q p h last g chain c in
    ap (λ (V : Option WatchedParts). made_along s p items.items V R) u
    ∙ (ap (λ (f : Frames Made). f.made) (watched_frames (seen_items rs) (left_items rs (levels_of fs)) s q p h last g chain b R r)
    ∙ frames_make_objects fs (planned_query (plan_view p)) F rs (plan_items_read s q p items object h e) (watch_tests chain last p.test.items) x.0 x.1 x.2 x.3 x.4 R r)

whole_objects : (s : Schema) (q : Query) (p : Plan) (items : Vec RecordItem Global) (object : ObjectPlan)
    → IsPlanOf s q p → p.selection ≡ Selection.Objects items object → greatest (tests_leaves p.test.items) ≡ None → constants_hold p.test.items ≡ true
    → (R : List Node) → list_all (is_record s.fields) R ≡ true → made_along s p items.items None R ≡ kept_objects s p items.items R
whole_objects s q p items object h e g b R r =
    let fs = s.fields in
    let ls = plan_leaves p in
    let F = paths_of_leaves ls in
    let rs = read_items ls items.items in
    ap (λ (f : Frames Made). f.made) (framed_whole (seen_items rs) (left_items rs (levels_of fs)) (walk fs F R))
    ∙ all_moves_make_objects fs (planned_query (plan_view p)) F rs (plan_items_read s q p items object h e) (are_leaf_paths fs ls (plan_leaves_are s q p h))
    (plan_constant s q p h g b) R r

-- whatever is watched of the condition, the objects of what it keeps are made, and nothing else
pub scan_objects : (s : Schema) (q : Query) (p : Plan) (items : Vec RecordItem Global) (object : ObjectPlan)
    → IsPlanOf s q p → p.selection ≡ Selection.Objects items object → (W : Option WatchedParts) → WatchesPlan s p W
    → (R : List Node) → list_all (is_record s.fields) R ≡ true
    → (objects_behind W s.fields (read_items (plan_leaves p) items.items) (walk s.fields (paths_of_leaves (plan_leaves p)) R)).made
    ≡ built_of s.fields (items_of (read_items (plan_leaves p) items.items)) (filter_map (kept (planned_query (plan_view p)).condition) R)
scan_objects s q p items object h e None c R r = whole_objects s q p items object h e c.0 c.1 R r
scan_objects s q p items object h e (Some w) c R r =
    watched_objects s q p items object h e c.1 w.watch.last c.0 w.watch.chain c.3 (Some w) (ap Some c.2) R r

-- and they are the lines of the partial
pub scan_lines : (s : Schema) (q : Query) (p : Plan) (items : Vec RecordItem Global) (object : ObjectPlan)
    → IsPlanOf s q p → p.selection ≡ Selection.Objects items object → (W : Option WatchedParts) → WatchesPlan s p W
    → (R : List Node) → list_all (is_record s.fields) R ≡ true
    → lines (made_objects (objects_behind W s.fields (read_items (plan_leaves p) items.items) (walk s.fields (paths_of_leaves (plan_leaves p)) R)).made)
    ≡ partial_of s.fields (planned_query (plan_view p)) R
scan_lines s q p items object h e W c R r =
    ap (λ (ms : List Made). lines (made_objects ms)) (scan_objects s q p items object h e W c R r)
    ∙ objects_make_partial s.fields (planned_query (plan_view p)) (items_of (read_items (plan_leaves p) items.items)) (plan_selects (plan_leaves p) p.selection items object e) R

-- where a test that reads no leaf isn't true there are none
pub nothing_lines : (s : Schema) (q : Query) (p : Plan) (items : Vec RecordItem Global) (object : ObjectPlan)
    → IsPlanOf s q p → p.selection ≡ Selection.Objects items object → constants_hold p.test.items ≡ false
    → (R : List Node) → list_all (is_record s.fields) R ≡ true → lines [] ≡ partial_of s.fields (planned_query (plan_view p)) R
nothing_lines s q p items object h e b R r =
    no_objects_make_partial s.fields (planned_query (plan_view p)) (items_of (read_items (plan_leaves p) items.items)) (plan_selects (plan_leaves p) p.selection items object e)
    R r (plan_never s q p h b)
