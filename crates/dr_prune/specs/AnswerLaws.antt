-- The answers of parts along a walk.
use Rattle.std.specs.Prelude.{◌≡◌, ℕ, ◌+◌, ◌≤◌, List, [], ◌∷◌, ◌++◌, length, Bool, true, None, is_some}
use Rattle.dr_meaning.specs.Schema.{Fields, depth, greatest_depth}
use Rattle.dr_meaning.specs.Path.{Leaf}
use Rattle.dr_meaning.specs.Column.{Triplet}
use Rattle.dr_meaning.specs.Walk.{Move, enter, value, leave, no_record}
use Rattle.dr_meaning.specs.WalkLaws.{open_after_moves}
use Rattle.dr_moves.specs.Context.{Context}
use Rattle.dr_kept_laws.specs.MovedContexts.{after_moves}
use Rattle.dr_prune.specs.Pruning.{open_in}
use Rattle.dr_prune.specs.PartAnswers.{lasts_of, parts_of, tested_to, HasAnswered, HasPruned}
use Rattle.dr_prune.specs.declared.answers.Answers.{Answers}
use Rattle.dr_prune.specs.declared.pruner.Pruner.{Pruner}

-- the same answers behind an Enter or a Leave
abbrev pub AnswersStay : Type 0
AnswersStay = (t : ℕ → Context → Bool) (ms : List Move) (k : ℕ) (a : Answers) → HasAnswered t ms a
    → HasAnswered t (ms ++ enter k ∷ []) a × HasAnswered t (ms ++ leave k ∷ []) a

-- those behind a triplet, where each part was tested that is tested there
abbrev pub AnswersAreTested : Type 0
AnswersAreTested = (t : ℕ → Context → Bool) (ms : List Move) (i : ℕ) (x : Triplet) (a b : Answers) → HasAnswered t ms a → lasts_of b ≡ lasts_of a
    → parts_of t b ≡ tested_to (length (lasts_of a)) i (after_moves (λ j. None) (ms ++ value i x ∷ [])) (parts_of t a)
    → HasAnswered t (ms ++ value i x ∷ []) b

-- behind moves that nest a pruner that steps by answers may step
abbrev pub FewArePruned : Type 0
FewArePruned = (fs : Fields) (F : List Leaf) (ms : List Move) (s : Context → Bool) (t : ℕ → Context → Bool) (ls : List ℕ) (p : Pruner)
    → depth fs ≤ greatest_depth
    → is_some (open_after_moves fs F no_record ms) ≡ true → HasPruned s t ls ms p → open_in p ≤ 1 + greatest_depth
