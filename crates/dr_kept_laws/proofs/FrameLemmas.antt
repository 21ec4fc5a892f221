-- Cutting where a branch is told dropped makes what the kept moves make.
use Rattle.std.proofs.Common.{◌≡◌, ℕ, List, [], ◌∷◌, ◌++◌, length, Bool, true, false, Option, refl, sym, ap, ap₂, ◌∙◌, append_assoc, append-nil}
use Rattle.std.specs.Prelude.{map, if◌then◌else◌}
use Rattle.std.proofs.Math.Seq.{take-append_seam, drop-append_seam}
use Rattle.dr_meaning.specs.Walk.{Move, leave}
use Rattle.dr_kept_laws.specs.Telling.{Opened, Watching, nothing_read, chain_in, rows_at, with_rows, watch_move, watch_moves, verdicts_at, first_dropped, is_told_dropped, last_verdict_on}
use Rattle.dr_kept_laws.specs.Frames.{Frames, frame_left, frame_move, frame_moves, FramesMakeFlow}
use Rattle.dr_kept_laws.proofs.TellingLemmas.{tour_rows, any_row, left_verdict, same_chain, watches_behind}
use Rattle.dr_moves.specs.Context.{Context, with_value}
use Rattle.dr_moves.specs.Tour.{Tour, over, saw, inside, moves_of, after}
use Rattle.dr_moves.specs.Condition.{Watch, some_true, rest_below, is_dropped}
use Rattle.dr_moves.specs.Cutting.{flow}

module _ {A : Type 0} (seen : ℕ → Context → List A) (left : ℕ → Context → List A → List A) (w : Watch) where
  frames_append : (a b : List Move) (g : Watching) (f : Frames A) → frame_moves seen left w g (a ++ b) f ≡ frame_moves seen left w (watch_moves w g a) b (frame_moves seen left w g a f)
  frames_append [] b g f = refl
  frames_append (m ∷ a) b g f = frames_append a b (watch_move w g m) (frame_move seen left (first_dropped (verdicts_at w g m)) m f)

  abbrev watching : Context → List Opened → Watching
  watching c bs = record { context = c; open_ones = bs }

  abbrev frames : Context → List A → List ℕ → Frames A
  frames c made marks = record { context = c; made = made; marks = marks }

  -- out of a branch in which more was made
  left_behind : (d : Bool) (k : ℕ) (c : Context) (made more : List A) (marks : List ℕ)
      → frame_left left d k (frames c (made ++ more) (length made ∷ marks)) (length made ∷ marks) ≡ frames c (made ++ (if d then [] else left k c more)) marks
  left_behind true k c made more marks = ap (λ (x : List A). record { context = c; made = x; marks = marks }) (take-append_seam made more ∙ sym (append-nil made))
  left_behind false k c made more marks = ap (λ (x : List A). record { context = c; made = x; marks = marks }) (ap₂ (λ (x y : List A). x ++ left k c y) (take-append_seam made more) (drop-append_seam made more))

  pub frames_behind : (T : Tour) (c : Context) (bs : List Opened) (made : List A) (marks : List ℕ)
      → frame_moves seen left w (watching c bs) (moves_of T) (frames c made marks) ≡ frames (after c T) (made ++ flow seen left w (chain_in w bs) c T) marks
  frames_behind over c bs made marks = ap (λ (x : List A). record { context = c; made = x; marks = marks }) (sym (append-nil made))
  frames_behind (saw i t T) c bs made marks =
      let d = with_value i t.value c in
      frames_behind T d (map (with_rows (rows_at w i d)) bs) (made ++ seen i d) marks
      ∙ ap (λ (x : List A). record { context = after d T; made = x; marks = marks })
      (append_assoc made (seen i d) (flow seen left w (chain_in w (map (with_rows (rows_at w i d)) bs)) d T) ∙ ap (λ (x : Option (List ℕ)). made ++ (seen i d ++ flow seen left w x d T)) (same_chain w (rows_at w i d) bs))
  frames_behind (inside k B T) c bs made marks =
      let r = rest_below k (chain_in w bs) in
      let o : Opened = record { rest = r; rows = [] } in
      let d = after c B in
      let rows = tour_rows w c B in
      let more = flow seen left w r c B in
      let h : is_told_dropped (last_verdict_on r rows) ≡ is_dropped r (some_true w c B) = left_verdict r rows ∙ ap (is_dropped r) (any_row w B c) in
      let cut = made ++ (if is_dropped r (some_true w c B) then [] else left k d more) in
      frames_append (moves_of B) (leave k ∷ moves_of T) (watching c (o ∷ bs)) (frames c made (length made ∷ marks))
      ∙ ap₂ (λ (x : Watching) (y : Frames A). frame_moves seen left w x (leave k ∷ moves_of T) y) (watches_behind w B (watching c (o ∷ bs))) (frames_behind B c (o ∷ bs) made (length made ∷ marks))
      ∙ ap (λ (x : Frames A). frame_moves seen left w (watching d (map (with_rows rows) bs)) (moves_of T) x)
      (left_behind (is_told_dropped (last_verdict_on r rows)) k d made more marks ∙ ap (λ (x : Bool). frames d (made ++ (if x then [] else left k d more)) marks) h)
      ∙ frames_behind T d (map (with_rows rows) bs) cut marks
      ∙ ap (λ (x : List A). record { context = after d T; made = x; marks = marks })
      (append_assoc made (if is_dropped r (some_true w c B) then [] else left k d more) (flow seen left w (chain_in w (map (with_rows rows) bs)) d T)
      ∙ ap (λ (x : Option (List ℕ)). made ++ ((if is_dropped r (some_true w c B) then [] else left k d more) ++ flow seen left w x d T)) (same_chain w rows bs))

pub frames_make_flow : (A : Type 0) → FramesMakeFlow A
frames_make_flow A seen left w T = ap (λ (f : Frames A). f.made) (frames_behind seen left w T nothing_read.context [] [] [])
