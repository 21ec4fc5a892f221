-- A scan of objects behind one more move.
use Rattle.std.proofs.Common.{◌≡◌, ℕ, suc, List, [], ◌∷◌, ◌++◌, length, take, drop, Bool, Option, Some, None, refl, sym, ap, ap₂, subst, ◌∙◌}
use Rattle.std.specs.Prelude.{if◌then◌else◌}
use Rattle.dr_meaning.specs.Schema.{Schema}
use Rattle.dr_meaning.specs.Path.{Leaf}
use Rattle.dr_meaning.specs.Query.{RecordItem as MeantItem, levels_of}
use Rattle.dr_meaning.specs.Walk.{Move}
use Rattle.dr_moves.specs.Context.{Context}
use Rattle.dr_made_laws.specs.ObjectFlow.{Made, ReadItem, items_of, seen_items, left_items}
use Rattle.dr_kept_laws.specs.Frames.{Frames, frame_left, frame_move}
use Rattle.dr_plan.specs.Planned.{plan_leaves}
use Rattle.dr_plan.specs.declared.plan.Plan.{Plan}
use Rattle.dr_plan.specs.declared.plan.RecordItem.{RecordItem}
use Rattle.dr_plan.specs.declared.plan.RecordTerm.{RecordTerm}
use Rattle.dr_scalar.specs.Leaves.{expr_leaves, greatest}
use Rattle.dr_scalar.specs.OverSlots.{expr_over}
use Rattle.dr_condition.specs.Conditions.{HasWatched, watch_in}
use Rattle.dr_condition.specs.Parted.{WatchedParts}
use Rattle.dr_condition.specs.PlanConditions.{WatchesPlan}
use Rattle.dr_condition.specs.Watching.{dropped_at}
use Rattle.dr_within.specs.ItemFirings.{term_taken_at, places_taken, FiresItems}
use Rattle.dr_within.specs.LevelTable.{AreLevels}
use Rattle.dr_cells.specs.Shapes.{shape_view}
use Rattle.dr_within.specs.ObjectFraming.{argument_of, is_fired, fired_places, AreReadItems, HoldsObjects}
use Rattle.dr_within.specs.ObjectsBehind.{term_expr, read_items, objects_behind}
use Rattle.dr_within.specs.ObjectScanning.{IsForItems, ScansObjects}
use Rattle.dr_within.specs.Takings.{same_leaf}
use Rattle.dr_within.specs.declared.object_frames.ObjectFrames.{ObjectFrames}
use Rattle.dr_within.specs.declared.object_scan.ObjectScan.{ObjectScan}
use Rattle.dr_within.proofs.FramedLemmas.{framed_snoc}
use Rattle.dr_within.proofs.TableLemmas.{same_test}
use Rattle.dr_plan.specs.Views.{record_term_view}

-- ---- the items as they are read

same_argument : (t : RecordTerm) → term_expr t ≡ argument_of t
same_argument (RecordTerm.Value e) = refl
same_argument (RecordTerm.Within w) = refl

pub items_are_read : (ls : List Leaf) (items : List RecordItem) → AreReadItems ls items (read_items ls items)
items_are_read ls [] = tt
items_are_read ls (i ∷ is) =
    let e = same_argument i.term in
    (record { item = refl; leaf = ap (λ x. greatest (expr_leaves x)) e; fires = λ c. ap (expr_over c) e }, items_are_read ls is)

fired_same : (ls : List Leaf) (t : RecordTerm) (k : ℕ) → same_leaf (term_taken_at t) (Some k) ≡ is_fired (record_term_view ls t) (greatest (expr_leaves (term_expr t))) k
fired_same ls (RecordTerm.Value e) k = refl
fired_same ls (RecordTerm.Within w) k = by_leaf (greatest (expr_leaves w.argument))
  where
    by_leaf : (o : Option ℕ) → same_leaf o (Some k) ≡ is_fired (record_term_view ls (RecordTerm.Within w)) o k
    by_leaf None = refl
    by_leaf (Some i) = same_test i k

pub fired_are : (ls : List Leaf) (j : ℕ) (items : List RecordItem) (k : ℕ) → places_taken j items k ≡ fired_places j (read_items ls items) k
fired_are ls j [] k = refl
fired_are ls j (i ∷ is) k = ap₂ (λ (b : Bool) (ks : List ℕ). if b then j ∷ ks else ks) (fired_same ls i.term k) (fired_are ls (suc j) is k)

-- ---- the frames of a plan's items

module _ (s : Schema) (p : Plan) (items : List RecordItem) (W : Option WatchedParts) where
  abbrev pub rs_of : List ReadItem
  rs_of = read_items (plan_leaves p) items

  abbrev pub behind_objects : List Move → Frames Made
  behind_objects ms = objects_behind W s.fields (read_items (plan_leaves p) items) ms

  -- one move more
  abbrev pub next_objects : List Move → Move → Frames Made
  next_objects ms m = frame_move (seen_items (read_items (plan_leaves p) items)) (left_items (read_items (plan_leaves p) items) (levels_of s.fields)) (dropped_at W ms m) m (behind_objects ms)

-- what is held
abbrev pub HoldsMade : List MeantItem → Frames Made → ObjectFrames → Type 0
HoldsMade I f g = HoldsObjects I f.made f.marks g

-- as an instance is left
pub left_holds : (I : List MeantItem) (left : ℕ → Context → List Made → List Made) (k : ℕ) (f : Frames Made) (is_dropped b : Bool) (c : Context) (old new : ObjectFrames)
    → ((made : List Made) (mark : ℕ) (marks : List ℕ) → HoldsObjects I made (mark ∷ marks) old
    → HoldsObjects I (if is_dropped then take mark made else take mark made ++ left k c (drop mark made)) marks new)
    → ((made : List Made) → HoldsObjects I made [] old → HoldsObjects I made [] new)
    → is_dropped ≡ b → c ≡ f.context → HoldsMade I f old → HoldsMade I (frame_left left b k f f.marks) new
left_holds I left k f is_dropped b c old new call none d e h = by_marks f.marks refl h
  where
    by_marks : (marks : List ℕ) → f.marks ≡ marks → HoldsObjects I f.made marks old → HoldsMade I (frame_left left b k f marks) new
    by_marks [] q h = subst (λ (ms : List ℕ). HoldsObjects I f.made ms new) (sym q) (none f.made h)
    by_marks (m ∷ ms) q h =
        subst (λ (x : Context). HoldsObjects I (if b then take m f.made else take m f.made ++ left k x (drop m f.made)) ms new) e
        (subst (λ (x : Bool). HoldsObjects I (if x then take m f.made else take m f.made ++ left k c (drop m f.made)) ms new) d (call f.made m ms h))

-- ---- a scan

-- what was watched stays
is_for_next : (s : Schema) (p : Plan) (items : List RecordItem) (old new : ObjectScan) → IsForItems s p items old → new.items ≡ old.items → new.levels ≡ old.levels → new.firing ≡ old.firing
    → new.shape ≡ old.shape → watch_in new.condition ≡ watch_in old.condition → IsForItems s p items new
is_for_next s p items old new h a b c d e =
    record {
      items_are = ap (λ xs. xs.now) a ∙ h.items_are;
      levels = subst (AreLevels (items_of (read_items (plan_leaves p) items)) (levels_of s.fields)) (sym b) h.levels;
      fires = subst (FiresItems (length (plan_leaves p)) items) (sym c) h.fires;
      shape = ap shape_view d ∙ h.shape;
      watches = subst (WatchesPlan s p) (sym e) h.watches;
    }

pub scans_next : (s : Schema) (p : Plan) (ms : List Move) (m : Move) (old new : ObjectScan) (g : ScansObjects s p ms old) → new.items ≡ old.items → new.levels ≡ old.levels
    → new.firing ≡ old.firing → new.shape ≡ old.shape → watch_in new.condition ≡ watch_in old.condition → HasWatched new.condition (ms ++ m ∷ [])
    → HoldsMade (items_of (read_items (plan_leaves p) g.items.items)) (next_objects s p g.items.items (watch_in old.condition) ms m) new.frames
    → ScansObjects s p (ms ++ m ∷ []) new
scans_next s p ms m old new g a b c d e watched made =
    let items = g.items.items in
    let rs = read_items (plan_leaves p) items in
    record {
      items = g.items;
      object = g.object;
      selects = g.selects;
      is_for = is_for_next s p items old new g.is_for a b c d e;
      behind = record {
        watched = watched;
        made = subst (λ (W : Option WatchedParts). HoldsMade (items_of rs) (behind_objects s p items W (ms ++ m ∷ [])) new.frames) (sym e)
            (subst (λ (f : Frames Made). HoldsMade (items_of rs) f new.frames)
            (sym (framed_snoc (seen_items rs) (left_items rs (levels_of s.fields)) (watch_in old.condition) ms m)) made);
      };
    }
