-- What is put into groups along the moves of records is the partial of the records.
use Rattle.std.proofs.Common.{◌≡◌, ℕ, List, [], ◌∷◌, ◌++◌, length, true, false, None, sym, ap, ap₂, ◌∙◌, refl, append_assoc, append-nil}
use Rattle.std.proofs.Math.Seq.{take-append_seam, drop-append_seam}
use Rattle.dr_meaning.specs.Walk.{Move, leave, walk}
use Rattle.dr_moves.specs.Context.{Context, with_value}
use Rattle.dr_moves.specs.Tour.{Tour, over, saw, inside, moves_of, after, Toured}
use Rattle.dr_moves.specs.Condition.{Watch}
use Rattle.dr_moves.specs.Cutting.{flow}
use Rattle.dr_moves.proofs.TourLemmas.{walk_tour}
use Rattle.dr_kept_laws.specs.GroupFlow.{all_fired, all_left, left_with}
use Rattle.dr_kept_laws.specs.Frames.{Frames, frame_left, frame_move, frame_moves}
use Rattle.dr_kept_laws.specs.Telling.{nothing_read}
use Rattle.dr_kept_laws.proofs.FrameLemmas.{frames_make_flow}
use Rattle.dr_partials.specs.Partials.{empty_partial}
use Rattle.dr_partials.specs.Putting.{Put, put_all}
use Rattle.dr_made_laws.specs.FramesPartial.{no_frames, all_moves, FramesPutPartial, AllMovesPutPartial}
use Rattle.dr_made_laws.proofs.FlowPartialLemmas.{flow_is_partial, whole_flow_is_partial}

-- ---- where no branch is dropped

-- a condition that drops nothing where it isn't on any branch
abbrev any_watch : Watch
any_watch = record { chain = []; last = 0; test = λ c. true }

module _ {A : Type 0} (seen : ℕ → Context → List A) (left : ℕ → Context → List A → List A) where
  abbrev frames : Context → List A → List ℕ → Frames A
  frames c made marks = record { context = c; made = made; marks = marks }

  moves_append : (a b : List Move) (f : Frames A) → all_moves seen left (a ++ b) f ≡ all_moves seen left b (all_moves seen left a f)
  moves_append [] b f = refl
  moves_append (m ∷ a) b f = moves_append a b (frame_move seen left false m f)

  abbrev made_by : Context → Tour → List A
  made_by c T = flow seen left any_watch None c T

  -- out of a branch in which more was made
  left_behind : (k : ℕ) (c : Context) (made more : List A) (marks : List ℕ)
      → frame_left left false k (frames c (made ++ more) (length made ∷ marks)) (length made ∷ marks) ≡ frames c (made ++ left k c more) marks
  left_behind k c made more marks =
      ap (λ (x : List A). record { context = c; made = x; marks = marks })
      (ap₂ (λ (x y : List A). x ++ left k c y) (take-append_seam made more) (drop-append_seam made more))

  all_behind : (T : Tour) (c : Context) (made : List A) (marks : List ℕ)
      → all_moves seen left (moves_of T) (frames c made marks) ≡ frames (after c T) (made ++ made_by c T) marks
  all_behind over c made marks = ap (λ (x : List A). record { context = c; made = x; marks = marks }) (sym (append-nil made))
  all_behind (saw i t T) c made marks =
      let d = with_value i t.value c in
      all_behind T d (made ++ seen i d) marks
      ∙ ap (λ (x : List A). record { context = after d T; made = x; marks = marks }) (append_assoc made (seen i d) (made_by d T))
  all_behind (inside k B T) c made marks =
      let d = after c B in
      let more = made_by c B in
      moves_append (moves_of B) (leave k ∷ moves_of T) (frames c made (length made ∷ marks))
      ∙ (ap (all_moves seen left (leave k ∷ moves_of T)) (all_behind B c made (length made ∷ marks))
      ∙ (ap (all_moves seen left (moves_of T)) (left_behind k d made more marks)
      ∙ (all_behind T d (made ++ left k d more) marks
      ∙ ap (λ (x : List A). record { context = after d T; made = x; marks = marks }) (append_assoc made (left k d more) (made_by d T)))))

-- ---- the partial

pub frames_put_partial : FramesPutPartial
frames_put_partial fs q F xs x w p K test s k R a =
    let t : Toured (walk fs F R) = walk_tour fs F R s.leaves a in
    ap (λ (ms : List Move). put_all q (frame_moves (all_fired xs) (left_with (all_left xs)) w nothing_read ms no_frames).made (empty_partial q))
    (sym t.moves)
    ∙ (ap (λ (ps : List Put). put_all q ps (empty_partial q)) (frames_make_flow Put (all_fired xs) (left_with (all_left xs)) w t.tour)
    ∙ flow_is_partial fs q F xs x w p K test s k R t.tour nothing_read.context a t.moves)

pub all_moves_put_partial : AllMovesPutPartial
all_moves_put_partial fs q F xs x l k R a =
    let t : Toured (walk fs F R) = walk_tour fs F R l a in
    ap (λ (ms : List Move). put_all q (all_moves (all_fired xs) (left_with (all_left xs)) ms no_frames).made (empty_partial q)) (sym t.moves)
    ∙ (ap (λ (f : Frames Put). put_all q f.made (empty_partial q))
    (all_behind (all_fired xs) (left_with (all_left xs)) t.tour nothing_read.context [] [])
    ∙ whole_flow_is_partial fs q F xs x l k R t.tour nothing_read.context any_watch a t.moves)
