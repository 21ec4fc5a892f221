-- A pruner and the answers of parts behind moves.
use Rattle.std.proofs.Common.{◌≡◌, ℕ, List, [], ◌∷◌, ◌++◌, length, Bool, None, refl, sym, ap, ap₂, ◌∙◌, arith}
use Rattle.std.specs.Prelude.{reverse}
use Rattle.dr_meaning.specs.Walk.{Move, enter, value, leave}
use Rattle.dr_levels.specs.declared.kept.Kept.{Kept}
use Rattle.dr_moves.specs.Context.{Context}
use Rattle.dr_moves.specs.Condition.{Watch}
use Rattle.dr_kept_laws.specs.MovedContexts.{after_moves}
use Rattle.dr_kept_laws.specs.Counting.{Numbers, count_move, numbers_tell, context_behind}
use Rattle.dr_kept_laws.specs.Parts.{Part, all_answers, parts_behind, answering, Pruning, prune_move, prune_moves, pruning_tells}
use Rattle.dr_prune.specs.declared.answers.Answers.{Answers}
use Rattle.dr_prune.specs.declared.pruner.Pruner.{Pruner}
use Rattle.dr_prune.specs.Pruning.{numbers_of, open_in, watch_of, verdicts_in, told_count, IsAnswer}
use Rattle.dr_prune.specs.AnswerLaws.{AnswersStay, AnswersAreTested}
use Rattle.dr_prune.proofs.PartAnswerLemmas.{parts_length, tested_all}
use Rattle.dr_prune.specs.PartAnswers.{lasts_of, parts_of, pruned, HasAnswered, HasPruned}

prune_more : (w : Watch) (g : Pruning) (ms : List Move) (m : Move) → prune_moves w g (ms ++ m ∷ []) ≡ prune_move w (prune_moves w g ms) m
prune_more w g [] m = refl
prune_more w g (x ∷ ms) m = prune_more w (prune_move w g x) ms m

-- an answer of the parts behind a move is one of a watch that asks them
is_answer : (w : Watch) (c : Context) (m : Move) (b : Bool) → w.test c ≡ b → IsAnswer w c m b
is_answer w c (enter k) b e = tt
is_answer w c (value i t) b e = λ same. e
is_answer w c (leave k) b e = tt

-- what steps by the answer of all parts
module _ (p : Pruner) (m : Move) (a : Answers) (b : Bool) (q : Pruner) (k : Kept)
    (counts : (t : Context → Bool) (c : Context) → IsAnswer (watch_of t p) c m b → numbers_of q ≡ count_move (watch_of t p) c m (numbers_of p))
    (tells : (t : Context → Bool) (c : Context) → IsAnswer (watch_of t p) c m b → verdicts_in (told_count (open_in p) m) k ≡ reverse (numbers_tell (watch_of t p) c m (numbers_of p)))
    (watches : (t : Context → Bool) → watch_of t q ≡ watch_of t p)
    (all : (t : ℕ → Context → Bool) → b ≡ all_answers (parts_of t a)) where
  module _ (s : Context → Bool) (t : ℕ → Context → Bool) (ms : List Move) (seen : HasPruned s t (lasts_of a) ms p) (answered : HasAnswered t (ms ++ m ∷ []) a) where
    abbrev before : Pruning
    before = pruned (watch_of s p) t (lasts_of a) ms

    abbrev behind : Context
    behind = context_behind before.context m

    abbrev asked : List Part
    asked = parts_behind behind m before.parts

    more : pruned (watch_of s p) t (lasts_of a) (ms ++ m ∷ []) ≡ prune_move (watch_of s p) before m
    more = prune_more (watch_of s p) (pruned (watch_of s p) t (lasts_of a) []) ms m

    right : all_answers asked ≡ b
    right = sym (all t ∙ ap all_answers (answered (watch_of s p) ∙ ap (λ (g : Pruning). g.parts) more))

    is_right : IsAnswer (answering (watch_of s p) asked) behind m b
    is_right = is_answer (answering (watch_of s p) asked) behind m b right

    pub tells_pruned : verdicts_in (told_count (open_in p) m) k ≡ pruning_tells (watch_of s p) before m
    tells_pruned = tells (λ c. all_answers asked) behind is_right
        ∙ ap (λ (n : Numbers). reverse (numbers_tell (answering (watch_of s p) asked) behind m n)) seen

    pub pruned_more : HasPruned s t (lasts_of a) (ms ++ m ∷ []) q
    pruned_more =
        counts (λ c. all_answers asked) behind is_right
        ∙ ap (count_move (answering (watch_of s p) asked) behind m) seen
        ∙ sym (ap (λ (g : Pruning). g.numbers) more)
        ∙ ap (λ (w : Watch). (pruned w t (lasts_of a) (ms ++ m ∷ [])).numbers) (sym (watches s))

-- ---- answers along a walk

pruned_context : (w : Watch) (g : Pruning) (ms : List Move) → (prune_moves w g ms).context ≡ after_moves g.context ms
pruned_context w g [] = refl
pruned_context w g (enter k ∷ ms) = pruned_context w (prune_move w g (enter k)) ms
pruned_context w g (value i x ∷ ms) = pruned_context w (prune_move w g (value i x)) ms
pruned_context w g (leave k ∷ ms) = pruned_context w (prune_move w g (leave k)) ms

-- the context behind one more move
context_there : (w : Watch) (g : Pruning) (ms : List Move) (m : Move) → context_behind (prune_moves w g ms).context m
    ≡ after_moves g.context (ms ++ m ∷ [])
context_there w g ms m = sym (ap (λ (h : Pruning). h.context) (prune_more w g ms m)) ∙ pruned_context w g (ms ++ m ∷ [])

answered_more : (t : ℕ → Context → Bool) (ms : List Move) (m : Move) (a b : Answers) → HasAnswered t ms a → lasts_of b ≡ lasts_of a
    → parts_of t b ≡ parts_behind (after_moves (λ j. None) (ms ++ m ∷ [])) m (parts_of t a) → HasAnswered t (ms ++ m ∷ []) b
answered_more t ms m a b h same e w =
    let g = pruned w t (lasts_of a) ms in
    e ∙ ap₂ (λ (c : Context) (ps : List Part). parts_behind c m ps) (sym (context_there w (pruned w t (lasts_of a) []) ms m)) (h w)
    ∙ sym (ap (λ (x : Pruning). x.parts) (prune_more w (pruned w t (lasts_of a) []) ms m))
    ∙ ap (λ (ls : List ℕ). (pruned w t ls (ms ++ m ∷ [])).parts) (sym same)

pub answers_stay : AnswersStay
answers_stay t ms k a h = (answered_more t ms (enter k) a a h refl refl, answered_more t ms (leave k) a a h refl refl)

pub answers_are_tested : AnswersAreTested
answers_are_tested t ms i x a b h same e =
    let n = length (lasts_of a) in
    let long : length (parts_of t a) ≡ n = parts_length t 0 a.parts.items in
    answered_more t ms (value i x) a b h same (e ∙ tested_all i (after_moves (λ j. None) (ms ++ value i x ∷ [])) n (parts_of t a) (omega (arith, long)))
