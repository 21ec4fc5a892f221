-- What is made behind some moves: of what is seen at triplets and left of instances, cut where what is watched tells a branch dropped.
use Rattle.std.specs.Prelude.{ℕ, List, [], ◌∷◌, ◌++◌, Option}
use Rattle.dr_meaning.specs.Walk.{Move}
use Rattle.dr_moves.specs.Context.{Context}
use Rattle.dr_kept_laws.specs.Frames.{Frames, frame_move}
use Rattle.dr_made_laws.specs.FramesPartial.{no_frames}
use Rattle.dr_condition.specs.Parted.{WatchedParts}
use Rattle.dr_condition.specs.Watching.{dropped_at}

-- moves behind others
abbrev pub framed_from : {A : Type 0} → (ℕ → Context → List A) → (ℕ → Context → List A → List A) → Option WatchedParts → List Move → List Move
    → Frames A → Frames A
framed_from seen left W before [] f = f
framed_from seen left W before (m ∷ ms) f = framed_from seen left W (before ++ m ∷ []) ms (frame_move seen left (dropped_at W before m) m f)

-- from the first on
abbrev pub framed_behind : {A : Type 0} → (ℕ → Context → List A) → (ℕ → Context → List A → List A) → Option WatchedParts → List Move → Frames A
framed_behind seen left W ms = framed_from seen left W [] ms no_frames
