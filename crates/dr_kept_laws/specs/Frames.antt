-- What is made along moves with what is told: appended at a triplet, and where a branch is left cut off, or made into something else.
use Rattle.std.specs.Prelude.{◌≡◌, ℕ, List, [], ◌∷◌, ◌++◌, length, take, drop, Bool, if◌then◌else◌, Some}
use Rattle.dr_meaning.specs.Walk.{Move, enter, value, leave}
use Rattle.dr_kept_laws.specs.Telling.{Watching, nothing_read, watch_move, verdicts_at, first_dropped}
use Rattle.dr_moves.specs.Context.{Context, with_value}
use Rattle.dr_moves.specs.Tour.{Tour, moves_of}
use Rattle.dr_moves.specs.Condition.{Watch}
use Rattle.dr_moves.specs.Cutting.{flow}

-- what was read last of each leaf, what was made, and how much of it as each open branch began, the innermost first
pub record Frames (A : Type 0) : Type 0 where
  pub context : Context
  pub made : List A
  pub marks : List ℕ

-- out of the innermost branch
abbrev pub frame_left : {A : Type 0} → (ℕ → Context → List A → List A) → Bool → ℕ → Frames A → List ℕ → Frames A
frame_left left is_dropped k f [] = f
frame_left left is_dropped k f (m ∷ ms) = record {
  context = f.context;
  made = if is_dropped then take m f.made else take m f.made ++ left k f.context (drop m f.made);
  marks = ms;
}

-- one move, and whether the branch that it leaves is dropped
abbrev pub frame_move : {A : Type 0} → (ℕ → Context → List A) → (ℕ → Context → List A → List A) → Bool → Move → Frames A → Frames A
frame_move seen left is_dropped (enter k) f = record { context = f.context; made = f.made; marks = length f.made ∷ f.marks }
frame_move seen left is_dropped (value i t) f = record { context = with_value i t.value f.context; made = f.made ++ seen i (with_value i t.value f.context); marks = f.marks }
frame_move seen left is_dropped (leave k) f = frame_left left is_dropped k f f.marks

-- moves behind others, with what is told at each of the innermost branch
abbrev pub frame_moves : {A : Type 0} → (ℕ → Context → List A) → (ℕ → Context → List A → List A) → Watch → Watching → List Move → Frames A → Frames A
frame_moves seen left w g [] f = f
frame_moves seen left w g (m ∷ ms) f = frame_moves seen left w (watch_move w g m) ms (frame_move seen left (first_dropped (verdicts_at w g m)) m f)

-- in this way what the kept moves make is made
abbrev pub FramesMakeFlow : Type 0 → Type 0
FramesMakeFlow A = (seen : ℕ → Context → List A) (left : ℕ → Context → List A → List A) (w : Watch) (T : Tour)
    → (frame_moves seen left w nothing_read (moves_of T) (record { context = nothing_read.context; made = []; marks = [] })).made ≡ flow seen left w (Some (0 ∷ w.chain)) nothing_read.context T
