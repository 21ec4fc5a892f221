-- Along the moves of records, one after another, the objects of what is kept of them are made.
use Rattle.std.proofs.Common.{◌≡◌, ℕ, List, [], ◌∷◌, ◌++◌, length, true, false, None, refl, sym, ap, ap₂, ◌∙◌, append_assoc, append-nil}
use Rattle.std.specs.Prelude.{Option, Some}
use Rattle.std.specs.List.{list_all, filter_map, cons_option}
use Rattle.std.proofs.Math.Seq.{take-append_seam, drop-append_seam}
use Rattle.std.proofs.lemmas.Bool.{and_parts}
use Rattle.dr_meaning.specs.Schema.{Fields}
use Rattle.dr_meaning.specs.Kept.{kept}
use Rattle.dr_meaning.specs.Query.{levels_of, Query}
use Rattle.dr_meaning.specs.Record.{Node, is_record}
use Rattle.dr_meaning.specs.Walk.{Move, leave, walk}
use Rattle.dr_moves.specs.Context.{Context, with_value}
use Rattle.dr_moves.specs.Condition.{Watch}
use Rattle.dr_moves.specs.Cutting.{flow}
use Rattle.dr_moves.specs.Tour.{Tour, over, saw, inside, moves_of, after, Toured}
use Rattle.dr_moves.proofs.TourLemmas.{walk_tour}
use Rattle.dr_kept_laws.specs.Frames.{Frames, frame_left, frame_move, frame_moves}
use Rattle.dr_kept_laws.specs.Telling.{nothing_read}
use Rattle.dr_kept_laws.proofs.FrameLemmas.{frames_make_flow}
use Rattle.dr_made_laws.specs.FramesPartial.{no_frames, all_moves}
use Rattle.dr_made_laws.specs.ObjectFlow.{Made, items_of, seen_items, left_items}
use Rattle.dr_made_laws.specs.ObjectFlowLaws.{built_of, FramesMakeObjects, AllMovesMakeObjects, made_objects, FramesMakeLines, AllMovesMakeLines}
use Rattle.dr_made_laws.proofs.PartialLemmas.{objects_make_partial}
use Rattle.dr_partials.specs.Partials.{lines}
use Rattle.dr_made_laws.proofs.RecordObjects.{flow_makes_objects, whole_flow_makes_objects}

-- ---- where no branch is dropped

-- a condition that drops nothing where it isn't on any branch
abbrev any_watch : Watch
any_watch = record { chain = []; last = 0; test = λ c. true }

module _ {A : Type 0} (seen : ℕ → Context → List A) (left : ℕ → Context → List A → List A) where
  abbrev frames : Context → List A → List ℕ → Frames A
  frames c made marks = record { context = c; made = made; marks = marks }

  moves_append : (a b : List Move) (f : Frames A) → all_moves seen left (a ++ b) f ≡ all_moves seen left b (all_moves seen left a f)
  moves_append [] b f = refl
  moves_append (m ∷ a) b f = moves_append a b (frame_move seen left false m f)

  abbrev made_by : Context → Tour → List A
  made_by c T = flow seen left any_watch None c T

  -- out of a branch in which more was made
  left_behind : (k : ℕ) (c : Context) (made more : List A) (marks : List ℕ)
      → frame_left left false k (frames c (made ++ more) (length made ∷ marks)) (length made ∷ marks) ≡ frames c (made ++ left k c more) marks
  left_behind k c made more marks =
      ap (λ (x : List A). record { context = c; made = x; marks = marks })
      (ap₂ (λ (x y : List A). x ++ left k c y) (take-append_seam made more) (drop-append_seam made more))

  all_behind : (T : Tour) (c : Context) (made : List A) (marks : List ℕ)
      → all_moves seen left (moves_of T) (frames c made marks) ≡ frames (after c T) (made ++ made_by c T) marks
  all_behind over c made marks = ap (λ (x : List A). record { context = c; made = x; marks = marks }) (sym (append-nil made))
  all_behind (saw i t T) c made marks =
      let d = with_value i t.value c in
      all_behind T d (made ++ seen i d) marks
      ∙ ap (λ (x : List A). record { context = after d T; made = x; marks = marks }) (append_assoc made (seen i d) (made_by d T))
  all_behind (inside k B T) c made marks =
      let d = after c B in
      let more = made_by c B in
      moves_append (moves_of B) (leave k ∷ moves_of T) (frames c made (length made ∷ marks))
      ∙ (ap (all_moves seen left (leave k ∷ moves_of T)) (all_behind B c made (length made ∷ marks))
      ∙ (ap (all_moves seen left (moves_of T)) (left_behind k d made more marks)
      ∙ (all_behind T d (made ++ left k d more) marks
      ∙ ap (λ (x : List A). record { context = after d T; made = x; marks = marks }) (append_assoc made (left k d more) (made_by d T)))))

-- ---- the objects

pub frames_make_objects : FramesMakeObjects
frames_make_objects fs q F rs reads w p K test s k R v =
    let t : Toured (walk fs F R) = walk_tour fs F R s.leaves v in
    ap (λ (ms : List Move). (frame_moves (seen_items rs) (left_items rs (levels_of fs)) w nothing_read ms no_frames).made) (sym t.moves)
    ∙ (frames_make_flow Made (seen_items rs) (left_items rs (levels_of fs)) w t.tour
    ∙ flow_makes_objects fs q F rs reads w p K test s k R t.tour nothing_read.context v t.moves)

-- all records are kept
kept_whole : (fs : Fields) (q : Query) → ((n : Node) → is_record fs n ≡ true → kept q.condition n ≡ Some n) → (R : List Node) → list_all (is_record fs) R ≡ true → filter_map (kept q.condition) R ≡ R
kept_whole fs q k [] v = refl
kept_whole fs q k (n ∷ R) v =
    let a : (is_record fs n ≡ true) × (list_all (is_record fs) R ≡ true) = and_parts (is_record fs n) (list_all (is_record fs) R) v in
    ap₂ (λ (o : Option Node) (S : List Node). cons_option o S) (k n a.0) (kept_whole fs q k R a.1)

pub all_moves_make_objects : AllMovesMakeObjects
all_moves_make_objects fs q F rs reads l k R v =
    let t : Toured (walk fs F R) = walk_tour fs F R l v in
    ap (λ (ms : List Move). (all_moves (seen_items rs) (left_items rs (levels_of fs)) ms no_frames).made) (sym t.moves)
    ∙ (ap (λ (f : Frames Made). f.made) (all_behind (seen_items rs) (left_items rs (levels_of fs)) t.tour nothing_read.context [] [])
    ∙ (whole_flow_makes_objects fs F l rs reads R t.tour nothing_read.context any_watch v t.moves
    ∙ ap (built_of fs (items_of rs)) (sym (kept_whole fs q k R v))))

-- ---- the partial

pub frames_make_lines : FramesMakeLines
frames_make_lines fs q F rs e reads w p K test s k R v =
    ap (λ (ms : List Made). lines (made_objects ms)) (frames_make_objects fs q F rs reads w p K test s k R v) ∙ objects_make_partial fs q (items_of rs) e R

pub all_moves_make_lines : AllMovesMakeLines
all_moves_make_lines fs q F rs e reads l k R v =
    ap (λ (ms : List Made). lines (made_objects ms)) (all_moves_make_objects fs q F rs reads l k R v) ∙ objects_make_partial fs q (items_of rs) e R
