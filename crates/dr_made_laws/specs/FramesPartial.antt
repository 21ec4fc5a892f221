-- What is put into groups along the moves of records, one after another, is the partial of the records.
use Rattle.std.specs.Prelude.{◌≡◌, ℕ, List, [], ◌∷◌, Bool, true, false, Some}
use Rattle.std.specs.List.{list_all}
use Rattle.dr_meaning.specs.Schema.{Fields}
use Rattle.dr_meaning.specs.Path.{Step, chain_end, is_leaf_path}
use Rattle.dr_meaning.specs.Record.{Node, is_record}
use Rattle.dr_meaning.specs.Kept.{kept, kept_along}
use Rattle.dr_meaning.specs.Query.{Query}
use Rattle.dr_meaning.specs.Walk.{Move, walk}
use Rattle.dr_moves.specs.Context.{Context}
use Rattle.dr_moves.specs.Condition.{Watch}
use Rattle.dr_kept_laws.specs.GroupFlow.{Reading, all_fired, all_left, left_with}
use Rattle.dr_kept_laws.specs.Frames.{Frames, frame_move, frame_moves}
use Rattle.dr_kept_laws.specs.Telling.{nothing_read}
use Rattle.dr_kept_laws.specs.TellingLaws.{StandsFor}
use Rattle.dr_partials.specs.Partials.{partial_of, empty_partial}
use Rattle.dr_partials.specs.Putting.{Put, put_all}
use Rattle.dr_made_laws.specs.FlowPartial.{ReadsGroups}

-- before any move
abbrev pub no_frames : {A : Type 0} → Frames A
no_frames = record { context = nothing_read.context; made = []; marks = [] }

-- moves in which no branch is dropped
abbrev pub all_moves : {A : Type 0} → (ℕ → Context → List A) → (ℕ → Context → List A → List A) → List Move → Frames A → Frames A
all_moves seen left [] f = f
all_moves seen left (m ∷ ms) f = all_moves seen left ms (frame_move seen left false m f)

-- along the walk of records what the readings of a group query make, cut where a branch is told dropped, is put together the
-- partial of the records
abbrev pub FramesPutPartial : Type 0
FramesPutPartial = (fs : Fields) (q : Query) (F : List (List Step)) (xs : List (Reading Put)) → ReadsGroups fs q F xs
    → (w : Watch) (p : List Step) (K : List ℕ) (test : Node → Bool) → StandsFor fs F w p K test
    → ((n : Node) → is_record fs n ≡ true → kept q.condition n ≡ kept_along (chain_end p) test n) → (R : List Node) → list_all (is_record fs) R ≡ true
    → put_all q (frame_moves (all_fired xs) (left_with (all_left xs)) w nothing_read (walk fs F R) no_frames).made (empty_partial q)
    ≡ partial_of fs q R

-- where the condition keeps each record, no branch is dropped
abbrev pub AllMovesPutPartial : Type 0
AllMovesPutPartial = (fs : Fields) (q : Query) (F : List (List Step)) (xs : List (Reading Put)) → ReadsGroups fs q F xs
    → list_all (is_leaf_path fs) F ≡ true → ((n : Node) → is_record fs n ≡ true → kept q.condition n ≡ Some n)
    → (R : List Node) → list_all (is_record fs) R ≡ true
    → put_all q (all_moves (all_fired xs) (left_with (all_left xs)) (walk fs F R) no_frames).made (empty_partial q) ≡ partial_of fs q R
