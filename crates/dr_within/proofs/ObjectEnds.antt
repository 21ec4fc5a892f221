-- A scan of objects at its begin, and at the end of the walk of records.
use Rattle.std.proofs.Common.{◌≡◌, ℕ, List, [], ◌∷◌, ◌++◌, length, map, true, false, Option, Some, refl, sym, ap, subst, ◌∙◌, append-nil, append_assoc}
use Rattle.std.specs.List.{list_all, filter_map}
use Rattle.std.specs.declared.alloc.Global.{Global}
use Rattle.std.specs.declared.vec.Vec.{Vec}
use Rattle.dr_meaning.specs.Schema.{Schema, Fields}
use Rattle.dr_meaning.specs.Path.{Step, Leaf, is_leaf_path, paths_of_leaves}
use Rattle.dr_meaning.specs.Record.{Node, is_record}
use Rattle.dr_meaning.specs.Kept.{kept}
use Rattle.dr_meaning.specs.Query.{RecordItem as MeantItem, Query, objects, levels_of}
use Rattle.dr_meaning.specs.Walk.{Move, enter, value, leave, walk}
use Rattle.dr_moves.specs.Context.{Context}
use Rattle.dr_moves.specs.Tour.{Tour, over, saw, inside, moves_of, Toured}
use Rattle.dr_moves.proofs.TourLemmas.{walk_tour}
use Rattle.dr_made_laws.specs.ObjectFlow.{Made, items_of, seen_items, left_items}
use Rattle.dr_made_laws.specs.ObjectFlowLaws.{built_of, made_objects}
use Rattle.dr_kept_laws.specs.Frames.{Frames, frame_left, frame_move}
use Rattle.dr_made_laws.specs.FramesPartial.{no_frames}
use Rattle.dr_partials.specs.Partials.{lines, empty_selected, empty_partial, partial_of}
use Rattle.dr_plan.specs.Objects.{ObjectTree, object_tree_of, object_view}
use Rattle.dr_plan.specs.Planned.{Planned, plan_view, plan_leaves, planned_query, objects_of_plan, objects_of_query}
use Rattle.dr_plan.specs.PlanOf.{IsPlanOf}
use Rattle.dr_plan.specs.Views.{record_item_view}
use Rattle.dr_plan.specs.declared.objects.ObjectPlan.{ObjectPlan}
use Rattle.dr_plan.specs.declared.plan.Plan.{Plan}
use Rattle.dr_plan.specs.declared.plan.RecordItem.{RecordItem}
use Rattle.dr_plan.specs.declared.plan.Selection.{Selection}
use Rattle.dr_plan.proofs.ObjectLemmas.{tree_makes_object}
use Rattle.dr_cells.specs.Results.{ShapeTree, FitsShape, AllFitShape}
use Rattle.dr_cells.specs.Shapes.{tree_shape, names_of_items, plan_shape, shape_view}
use Rattle.dr_cells.proofs.ShapeLemmas.{tree_objects_fit, names_of-views, objects_shape}
use Rattle.dr_condition.specs.Conditions.{watch_in}
use Rattle.dr_condition.specs.Parted.{constants_hold, WatchedParts}
use Rattle.dr_condition.specs.Watching.{dropped_at}
use Rattle.dr_condition.proofs.ReadRows.{are_leaf_paths, plan_leaves_are}
use Rattle.dr_within.specs.FramedMoves.{framed_from, framed_behind}
use Rattle.dr_within.specs.ObjectFraming.{HoldsObjects, ClosesAs}
use Rattle.dr_within.specs.ObjectsBehind.{read_items, objects_behind}
use Rattle.dr_within.specs.ObjectScanning.{IsForItems, HasMade}
use Rattle.dr_within.specs.declared.object_scan.ObjectScan.{ObjectScan}
use Rattle.dr_within.proofs.PlanItems.{plan_selects}
use Rattle.dr_within.proofs.ScanObjects.{scan_objects, scan_lines, nothing_lines}

-- ---- no branch is open behind the walk of records

module _ {A : Type 0} (seen : ℕ → Context → List A) (left : ℕ → Context → List A → List A) (W : Option WatchedParts) where
  abbrev moved : List Move → Move → Frames A → Frames A
  moved before m f = frame_move seen left (dropped_at W before m) m f

  append_from : (before a b : List Move) (f : Frames A) → framed_from seen left W before (a ++ b) f ≡ framed_from seen left W (before ++ a) b (framed_from seen left W before a f)
  append_from before [] b f = ap (λ (ns : List Move). framed_from seen left W ns b f) (sym (append-nil before))
  append_from before (m ∷ a) b f =
      append_from (before ++ m ∷ []) a b (moved before m f)
      ∙ ap (λ (ns : List Move). framed_from seen left W ns b (framed_from seen left W (before ++ m ∷ []) a (moved before m f))) (append_assoc before (m ∷ []) a)

  left_marks : (before : List Move) (k m : ℕ) (g : Frames A) (marks rest : List ℕ) → marks ≡ m ∷ rest → (frame_left left (dropped_at W before (leave k)) k g marks).marks ≡ rest
  left_marks before k m g marks rest e = ap (λ (ms : List ℕ). (frame_left left (dropped_at W before (leave k)) k g ms).marks) e

  tour_marks : (T : Tour) (before : List Move) (f : Frames A) → (framed_from seen left W before (moves_of T) f).marks ≡ f.marks
  tour_marks over before f = refl
  tour_marks (saw i t T) before f = tour_marks T (before ++ value i t ∷ []) (moved before (value i t) f)
  tour_marks (inside k B T) before f =
      let in_it = before ++ enter k ∷ [] in
      let behind = in_it ++ moves_of B in
      let g = framed_from seen left W in_it (moves_of B) (moved before (enter k) f) in
      ap (λ (x : Frames A). x.marks) (append_from in_it (moves_of B) (leave k ∷ moves_of T) (moved before (enter k) f))
      ∙ (tour_marks T (behind ++ leave k ∷ []) (moved behind (leave k) g)
      ∙ left_marks behind k (length f.made) g g.marks f.marks (tour_marks B in_it (moved before (enter k) f)))

  walk_marks : (fs : Fields) (F : List (List Step)) (R : List Node) → list_all (is_leaf_path fs) F ≡ true → list_all (is_record fs) R ≡ true
      → (framed_behind seen left W (walk fs F R)).marks ≡ []
  walk_marks fs F R l v =
      let t : Toured (walk fs F R) = walk_tour fs F R l v in
      ap (λ (ms : List Move). (framed_behind seen left W ms).marks) (sym t.moves) ∙ tour_marks t.tour [] no_frames

-- ---- the tree of a plan's objects

pub plan_tree : (s : Schema) (q : Query) (p : Plan) (items : Vec RecordItem Global) (object : ObjectPlan) → IsPlanOf s q p → p.selection ≡ Selection.Objects items object
    → object_view object ≡ object_tree_of s.fields (items_of (read_items (plan_leaves p) items.items))
plan_tree s q p items object h e = one _ _ there
  where
    I : List MeantItem
    I = items_of (read_items (plan_leaves p) items.items)

    one : (a b : ObjectTree) → Some a ≡ Some b → a ≡ b
    one a b e = cc

    selects : q.selection ≡ objects (items_of (read_items (plan_leaves p) items.items))
    selects = sym (ap (λ (x : Planned). x.selection) h.2) ∙ plan_selects (plan_leaves p) p.selection items object e

    there : Some (object_view object) ≡ Some (object_tree_of s.fields (items_of (read_items (plan_leaves p) items.items)))
    there = sym (ap objects_of_plan e) ∙ (ap (λ (x : Planned). x.objects) h.2 ∙ ap (objects_of_query s.fields) selects)

-- ---- the shape of what is made

built_fit : (fs : Fields) (I : List MeantItem) (R : List Node) → AllFitShape (tree_shape (names_of_items I) (object_tree_of fs I)) (made_objects (built_of fs I R))
built_fit fs I [] = tt
built_fit fs I (n ∷ R) =
    (subst (FitsShape (tree_shape (names_of_items I) (object_tree_of fs I))) (tree_makes_object fs I n) (tree_objects_fit I (object_tree_of fs I) n), built_fit fs I R)

views_of : (ls : List Leaf) (items : List RecordItem) → items_of (read_items ls items) ≡ map (record_item_view ls) items
views_of ls [] = refl
views_of ls (i ∷ is) = ap (λ (xs : List MeantItem). record_item_view ls i ∷ xs) (views_of ls is)

shape_is : (s : Schema) (q : Query) (p : Plan) (items : Vec RecordItem Global) (object : ObjectPlan) → IsPlanOf s q p → p.selection ≡ Selection.Objects items object
    → tree_shape (names_of_items (items_of (read_items (plan_leaves p) items.items))) (object_tree_of s.fields (items_of (read_items (plan_leaves p) items.items))) ≡ plan_shape (plan_view p)
shape_is s q p items object h e =
    let ls = plan_leaves p in
    ap (tree_shape (names_of_items (items_of (read_items ls items.items)))) (sym (plan_tree s q p items object h e))
    ∙ (ap (λ (ns : List (List ℕ)). tree_shape ns (object_view object)) (ap names_of_items (views_of ls items.items) ∙ names_of-views ls items.items)
    ∙ objects_shape p items object e)

-- ---- at the end

-- the items that were made for, and what was made along the walk of records
abbrev pub items_made_of : Schema → Plan → Vec RecordItem Global → ObjectScan → List Node → List MeantItem
items_made_of s p items g R = items_of (read_items (plan_leaves p) items.items)

abbrev pub all_made_of : Schema → Plan → Vec RecordItem Global → ObjectScan → List Node → List Made
all_made_of s p items g R = (objects_behind (watch_in g.condition) s.fields (read_items (plan_leaves p) items.items) (walk s.fields (paths_of_leaves (plan_leaves p)) R)).made

module _ (s : Schema) (q : Query) (p : Plan) (items : Vec RecordItem Global) (object : ObjectPlan) (h : IsPlanOf s q p) (e : p.selection ≡ Selection.Objects items object)
    (R : List Node) (r : list_all (is_record s.fields) R ≡ true) (g : ObjectScan) (is_for : IsForItems s p items.items g)
    (behind : HasMade s p items.items (walk s.fields (paths_of_leaves (plan_leaves p)) R) g) where
  abbrev I : List MeantItem
  I = items_of (read_items (plan_leaves p) items.items)

  abbrev all_made : List Made
  all_made = all_made_of s p items g R

  pub all_held : HoldsObjects I all_made [] g.frames
  all_held =
      let ls = plan_leaves p in
      let rs = read_items ls items.items in
      subst (λ (ms : List ℕ). HoldsObjects I all_made ms g.frames)
      (walk_marks (seen_items rs) (left_items rs (levels_of s.fields)) (watch_in g.condition) s.fields (paths_of_leaves ls) R (are_leaf_paths s.fields ls (plan_leaves_are s q p h)) r) behind.made

  pub all_fits : AllFitShape (shape_view g.shape) (made_objects all_made)
  all_fits =
      subst (λ (x : ShapeTree). AllFitShape x (made_objects all_made)) (shape_is s q p items object h e ∙ sym is_for.shape)
      (subst (λ (ms : List Made). AllFitShape (tree_shape (names_of_items I) (object_tree_of s.fields I)) (made_objects ms))
      (sym (scan_objects s q p items object h e (watch_in g.condition) is_for.watches R r))
      (built_fit s.fields I (filter_map (kept (planned_query (plan_view p)).condition) R)))

  pub all_close : ClosesAs (shape_view g.shape) g.frames
  all_close = record { items = I; made = all_made; holds = all_held; fits = all_fits }

  pub all_lines : lines (made_objects all_made) ≡ partial_of s.fields (planned_query (plan_view p)) R
  all_lines = scan_lines s q p items object h e (watch_in g.condition) is_for.watches R r

-- ---- at the begin

-- where a test that reads no leaf isn't true
pub nothing_begins : (s : Schema) (q : Query) (p : Plan) (items : Vec RecordItem Global) (object : ObjectPlan) → IsPlanOf s q p → p.selection ≡ Selection.Objects items object
    → constants_hold p.test.items ≡ false → (R : List Node) → list_all (is_record s.fields) R ≡ true
    → empty_partial (planned_query (plan_view p)) ≡ partial_of s.fields (planned_query (plan_view p)) R
unfolding empty_partial
nothing_begins s q p items object h e b R r = ap empty_selected (plan_selects (plan_leaves p) p.selection items object e) ∙ nothing_lines s q p items object h e b R r
