-- Moves, one after another, with what is watched: one move more, what was read last, and the frames of the laws.
use Rattle.std.proofs.Common.{◌≡◌, ℕ, List, [], ◌∷◌, ◌++◌, Bool, false, Option, Some, None, refl, sym, ap, ap₂, ◌∙◌, append-nil, append_assoc}
use Rattle.std.specs.Prelude.{reverse}
use Rattle.dr_meaning.specs.Walk.{Move, enter, value, leave}
use Rattle.dr_moves.specs.Context.{Context}
use Rattle.dr_moves.specs.Condition.{Watch}
use Rattle.dr_kept_laws.specs.Frames.{Frames, frame_left, frame_move, frame_moves}
use Rattle.dr_kept_laws.specs.MovedContexts.{after_moves}
use Rattle.dr_kept_laws.specs.Parts.{pruning_tells}
use Rattle.dr_kept_laws.specs.Telling.{Verdict, Watching, nothing_read, watch_move, watch_moves, verdicts_at, told, first_dropped}
use Rattle.dr_made_laws.specs.FramesPartial.{no_frames, all_moves}
use Rattle.dr_condition.specs.Parted.{WatchedParts}
use Rattle.dr_condition.specs.Watching.{pruned_behind, dropped_at}
use Rattle.dr_condition.proofs.WatchingLemmas.{twice_reversed}
use Rattle.dr_within.specs.FramedMoves.{framed_from, framed_behind}

watch_snoc : (w : Watch) (g : Watching) (ms : List Move) (m : Move) → watch_moves w g (ms ++ m ∷ []) ≡ watch_move w (watch_moves w g ms) m
watch_snoc w g [] m = refl
watch_snoc w g (n ∷ ms) m = watch_snoc w (watch_move w g n) ms m

module _ {A : Type 0} (seen : ℕ → Context → List A) (left : ℕ → Context → List A → List A) where
  abbrev moved : Bool → Move → Frames A → Frames A
  moved is_dropped m f = frame_move seen left is_dropped m f

  snoc_from : (W : Option WatchedParts) (before ms : List Move) (m : Move) (f : Frames A)
      → framed_from seen left W before (ms ++ m ∷ []) f ≡ frame_move seen left (dropped_at W (before ++ ms) m) m (framed_from seen left W before ms f)
  snoc_from W before [] m f = ap (λ (ns : List Move). moved (dropped_at W ns m) m f) (sym (append-nil before))
  snoc_from W before (n ∷ ms) m f =
      let g = moved (dropped_at W before n) n f in
      snoc_from W (before ++ n ∷ []) ms m g
      ∙ ap (λ (ns : List Move). moved (dropped_at W ns m) m (framed_from seen left W (before ++ n ∷ []) ms g)) (append_assoc before (n ∷ []) ms)

  -- one move more
  pub framed_snoc : (W : Option WatchedParts) (ms : List Move) (m : Move)
      → framed_behind seen left W (ms ++ m ∷ []) ≡ frame_move seen left (dropped_at W ms m) m (framed_behind seen left W ms)
  framed_snoc W ms m = snoc_from W [] ms m no_frames

  -- ---- the context

  left_context : (b : Bool) (k : ℕ) (f : Frames A) (marks : List ℕ) → (frame_left left b k f marks).context ≡ f.context
  left_context b k f [] = refl
  left_context b k f (i ∷ marks) = refl

  context_from : (W : Option WatchedParts) (before ms : List Move) (f : Frames A) → (framed_from seen left W before ms f).context ≡ after_moves f.context ms
  context_from W before [] f = refl
  context_from W before (enter k ∷ ms) f = context_from W (before ++ enter k ∷ []) ms (moved false (enter k) f)
  context_from W before (value i t ∷ ms) f = context_from W (before ++ value i t ∷ []) ms (moved false (value i t) f)
  context_from W before (leave k ∷ ms) f =
      let b = dropped_at W before (leave k) in
      context_from W (before ++ leave k ∷ []) ms (moved b (leave k) f) ∙ ap (λ (c : Context). after_moves c ms) (left_context b k f f.marks)

  pub framed_context : (W : Option WatchedParts) (ms : List Move) → (framed_behind seen left W ms).context ≡ after_moves (λ i. None) ms
  framed_context W ms = context_from W [] ms no_frames

  -- ---- they are those of the laws

  -- what is told counts only where a branch is left
  told_at : (w : WatchedParts) (before : List Move) (m : Move) (f : Frames A) → pruning_tells w.watch (pruned_behind w before) m ≡ told w.watch before m
      → moved (dropped_at (Some w) before m) m f ≡ moved (first_dropped (verdicts_at w.watch (watch_moves w.watch nothing_read before) m)) m f
  told_at w before (enter k) f e = refl
  told_at w before (value i t) f e = refl
  told_at w before (leave k) f e =
      ap (λ (b : Bool). moved b (leave k) f)
      (ap (λ (vs : List Verdict). first_dropped (reverse vs)) e
      ∙ ap first_dropped (twice_reversed (verdicts_at w.watch (watch_moves w.watch nothing_read before) (leave k))))

  -- along moves at which the parts tell what is told
  module _ (w : WatchedParts) (whole : List Move)
      (tell : (ms rest : List Move) (m : Move) → whole ≡ ms ++ m ∷ rest → pruning_tells w.watch (pruned_behind w ms) m ≡ told w.watch ms m) where
    watched_from : (before ms : List Move) (f : Frames A) → whole ≡ before ++ ms
        → framed_from seen left (Some w) before ms f ≡ frame_moves seen left w.watch (watch_moves w.watch nothing_read before) ms f
    watched_from before [] f e = refl
    watched_from before (m ∷ ms) f e =
        watched_from (before ++ m ∷ []) ms (moved (dropped_at (Some w) before m) m f) (e ∙ sym (append_assoc before (m ∷ []) ms))
        ∙ ap₂ (λ (g : Watching) (h : Frames A). frame_moves seen left w.watch g ms h)
        (watch_snoc w.watch nothing_read before m) (told_at w before m f (tell before ms m e))

    pub framed_watched : framed_behind seen left (Some w) whole ≡ frame_moves seen left w.watch nothing_read whole no_frames
    framed_watched = watched_from [] whole no_frames refl

  none_told : (before : List Move) (m : Move) (f : Frames A) → moved (dropped_at None before m) m f ≡ moved false m f
  none_told before (enter k) f = refl
  none_told before (value i t) f = refl
  none_told before (leave k) f = refl

  whole_from : (before ms : List Move) (f : Frames A) → framed_from seen left None before ms f ≡ all_moves seen left ms f
  whole_from before [] f = refl
  whole_from before (m ∷ ms) f =
      whole_from (before ++ m ∷ []) ms (moved (dropped_at None before m) m f) ∙ ap (all_moves seen left ms) (none_told before m f)

  -- where nothing is watched
  pub framed_whole : (ms : List Move) → framed_behind seen left None ms ≡ all_moves seen left ms no_frames
  framed_whole ms = whole_from [] ms no_frames
