-- What masks tell, and what a pruner's numbers stand for, by computation.
use Rattle.std.proofs.Common.{◌≡◌, ℕ, zero, suc, List, [], ◌∷◌, ◌++◌, Bool, true, false, Option, None, Some, refl}
use Rattle.std.specs.Prelude.{map, pos, ◌==◌}
use Rattle.dr_meaning.specs.Record.{Value, int_value}
use Rattle.dr_meaning.specs.Column.{triplet}
use Rattle.dr_meaning.specs.Walk.{Move, enter, value, leave}
use Rattle.dr_moves.specs.Context.{Context}
use Rattle.dr_moves.specs.Condition.{Watch}
use Rattle.dr_kept_laws.specs.Telling.{kept, dropped, undecided, told}
use Rattle.dr_kept_laws.specs.Counting.{nothing_counted, count_all}
use Rattle.dr_kept_laws.specs.Parts.{Part}
use Rattle.dr_prune.specs.PartAnswers.{pruned, tested_to, untested}
use Rattle.dr_prune.proofs.MaskLemmas.{verdict_between}
use Rattle.dr_prune.specs.Pruning.{verdicts_in, told_count, IsAnswer, IsAnswerBehind}

-- bit i is for the branch at place i; one with neither bit is kept, one with both is undecided
masks : verdicts_in 5 (record { undecided = 18; dropped = 20 }) ≡ kept ∷ undecided ∷ dropped ∷ kept ∷ undecided ∷ []
masks = refl

-- a branch behind the last bit is kept
no_masks : (verdicts_in 2 (record { undecided = 0; dropped = 0 }) ≡ kept ∷ kept ∷ []) × (verdicts_in 0 (record { undecided = 1; dropped = 0 }) ≡ [])
no_masks = (refl, refl)

-- five branches, the first with a true row, the fourth the end of the chain, dropped
between : map (verdict_between 1 3 4) (0 ∷ 1 ∷ 2 ∷ 3 ∷ 4 ∷ []) ≡ kept ∷ undecided ∷ undecided ∷ dropped ∷ kept ∷ []
between = refl

-- none is dropped; each has a true row
between_none : (map (verdict_between 0 2 2) (0 ∷ 1 ∷ 2 ∷ []) ≡ undecided ∷ undecided ∷ kept ∷ []) × (map (verdict_between 2 2 2) (0 ∷ 1 ∷ 2 ∷ []) ≡ kept ∷ kept ∷ kept ∷ [])
between_none = (refl, refl)

-- it is told of the branch that is entered, and of the one that is left
counts : (told_count 2 (enter 5) ≡ 3) × (told_count 2 (value 0 (triplet 0 0 None)) ≡ 2) × (told_count 2 (leave 5) ≡ 2)
counts = (refl, refl, refl)

-- ---- a record with two instances of field 1, in which leaf 0 is 4 and then 7; an instance is kept where it is 7

abbrev is_seven : Option Value → Bool
is_seven (Some (int_value (pos n))) = n == 7
is_seven _ = false

abbrev watch : Watch
watch = record { chain = 1 ∷ []; last = 0; test = λ c. is_seven (c 0) }

abbrev first_instance : List Move
first_instance = enter 0 ∷ enter 1 ∷ value 0 (triplet 0 1 (Some (int_value (pos 4)))) ∷ []

abbrev second_instance : List Move
second_instance = first_instance ++ leave 1 ∷ enter 1 ∷ value 0 (triplet 1 1 (Some (int_value (pos 7)))) ∷ []

-- its numbers behind the first row, and behind the second
numbers_behind : ((count_all watch nothing_counted first_instance).numbers ≡ record { depth = 2; along = 2; hit = 0; read = true })
    × ((count_all watch nothing_counted second_instance).numbers ≡ record { depth = 2; along = 2; hit = 2; read = true })
numbers_behind = (refl, refl)

-- the masks that tell what is told: the first instance is dropped at its row, and the record undecided; both are kept at the second's
tells_first : verdicts_in 2 (record { undecided = 1; dropped = 2 }) ≡ told watch (enter 0 ∷ enter 1 ∷ []) (value 0 (triplet 0 1 (Some (int_value (pos 4)))))
tells_first = refl

tells_second : verdicts_in 2 (record { undecided = 0; dropped = 0 }) ≡ told watch (first_instance ++ leave 1 ∷ enter 1 ∷ []) (value 0 (triplet 1 1 (Some (int_value (pos 7)))))
tells_second = refl

-- the first instance is told dropped as it is left
tells_left : verdicts_in 2 (record { undecided = 1; dropped = 2 }) ≡ told watch first_instance (leave 1)
tells_left = refl

-- the answer is asked for in the row of the last leaf alone, in which the value is there already
answer_asked : IsAnswerBehind watch (enter 0 ∷ enter 1 ∷ []) (value 0 (triplet 0 1 (Some (int_value (pos 7))))) true
answer_asked = λ e. refl

answer_not_asked : (b : Bool) → IsAnswer watch (λ i. None) (enter 0) b × IsAnswer watch (λ i. None) (value 3 (triplet 0 1 None)) b × IsAnswer watch (λ i. None) (leave 0) b
answer_not_asked b = (tt, (λ e. absurd (cc)), tt)

-- ---- a condition in two parts: leaf 0 is 7, and so is leaf 1

abbrev tests : ℕ → Context → Bool
tests zero c = is_seven (c 0)
tests (suc k) c = is_seven (c 1)

abbrev answers : List Part → List Bool
answers ps = map (λ (a : Part). a.answer) ps

-- the first part's answer is that at the last triplet of its leaf, and holds while leaf 1 is read
answers_hold : (answers (pruned watch tests (0 ∷ 1 ∷ []) first_instance).parts ≡ false ∷ false ∷ [])
    × (answers (pruned watch tests (0 ∷ 1 ∷ []) (second_instance ++ value 1 (triplet 1 1 (Some (int_value (pos 7)))) ∷ [])).parts ≡ true ∷ true ∷ [])
    × (answers (pruned watch tests (0 ∷ 1 ∷ []) (second_instance ++ value 1 (triplet 1 1 None) ∷ [])).parts ≡ true ∷ false ∷ [])
answers_hold = (refl, refl, refl)

-- where a leaf is read, the first of the parts that are tested there was tested, and the second not yet
tested_first : answers (tested_to 1 0 (λ i. Some (int_value (pos 7))) (untested tests (0 ∷ 0 ∷ []))) ≡ true ∷ false ∷ []
tested_first = refl
