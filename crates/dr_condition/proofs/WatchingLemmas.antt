-- What a pruner in parts tells of the branches that are open.
use Rattle.std.proofs.Common.{◌≡◌, ◌⊎◌, inl, inr, ◌+◌, ℕ, zero, suc, List, [], ◌∷◌, ◌++◌, map, Bool, true, ◌&&◌, Some, refl, sym, ap, ap₂, subst, ◌∙◌, arith}
use Rattle.std.specs.Prelude.{◌==◌, reverse, if◌then◌else◌}
use Rattle.std.specs.List.{list_all}
use Rattle.std.proofs.lemmas.Bool.{eqb-true, and_parts}
use Rattle.std.proofs.lemmas.List.{reverse-append}
use Rattle.std.proofs.lemmas.List.Folds.{list_all-append}
use Rattle.std.proofs.lemmas.Nat.Bits.{bit_at-zero}
use Rattle.std.specs.Int.{bit_at}
use Rattle.dr_meaning.specs.Walk.{Move, enter, value, leave}
use Rattle.dr_levels.specs.Branches.{branch_at, branches_from}
use Rattle.dr_levels.specs.declared.kept.Branch.{Branch}
use Rattle.dr_levels.specs.declared.kept.Kept.{Kept}
use Rattle.dr_levels.specs.declared.moves.Move.{Move as CodeMove}
use Rattle.dr_levels.specs.Views.{move_view}
use Rattle.dr_moves.specs.Context.{Context}
use Rattle.dr_moves.specs.Condition.{Watch}
use Rattle.dr_kept_laws.specs.Telling.{Verdict, first_dropped}
use Rattle.dr_kept_laws.specs.Parts.{all_tests, pruning_tells}
use Rattle.dr_plan.specs.declared.expression.Truth.{Truth}
use Rattle.dr_prune.specs.PartAnswers.{lasts_of, untested, pruned, HasAnswered, HasPruned}
use Rattle.dr_prune.specs.Pruning.{verdict_of, verdicts_in, watch_of, told_count}
use Rattle.dr_prune.specs.declared.answers.Answers.{Answers}
use Rattle.dr_prune.specs.declared.pruner.Pruner.{Pruner}
use Rattle.dr_prune.proofs.PrunedLemmas.{answers_stay}
use Rattle.dr_condition.specs.Parted.{test_at, WatchedParts}
use Rattle.dr_condition.specs.Watching.{watch_with, HaveWatched, pruned_behind, told_inside, is_settled, TellsKept, dropped_at, innermost_dropped}

-- ---- it steps by the answers, which have the same last leaves

module _ (ts : List Truth) (ls : List ℕ) (m : Move) (p : Pruner) (a : Answers) (e : lasts_of a ≡ ls) where
  abbrev asked : Context → Bool
  asked = all_tests (untested (test_at ts) ls)

  pub told_parts : (ms : List Move) (n : ℕ) (k : Kept) → HasPruned (all_tests (untested (test_at ts) ls)) (test_at ts) ls ms p → HasAnswered (test_at ts) (ms ++ m ∷ []) a
      → ((s : Context → Bool) (t : ℕ → Context → Bool) (ns : List Move) → HasPruned s t (lasts_of a) ns p → HasAnswered t (ns ++ m ∷ []) a
      → verdicts_in n k ≡ pruning_tells (watch_of s p) (pruned (watch_of s p) t (lasts_of a) ns) m)
      → verdicts_in n k ≡ pruning_tells (watch_with ts ls p).watch (pruned_behind (watch_with ts ls p) ms) m
  told_parts ms n k h g call =
      call asked (test_at ts) ms (subst (λ (L : List ℕ). HasPruned asked (test_at ts) L ms p) (sym e) h) g
      ∙ ap (λ (L : List ℕ). pruning_tells (watch_of asked p) (pruned (watch_of asked p) (test_at ts) L ms) m) e

  pub watched_on : (ms : List Move) (q : Pruner) → HasPruned (all_tests (untested (test_at ts) ls)) (test_at ts) ls ms p → HasAnswered (test_at ts) (ms ++ m ∷ []) a
      → ((s : Context → Bool) (t : ℕ → Context → Bool) (ns : List Move) → HasPruned s t (lasts_of a) ns p → HasAnswered t (ns ++ m ∷ []) a
      → HasPruned s t (lasts_of a) (ns ++ m ∷ []) q)
      → HaveWatched ts a (ms ++ m ∷ []) q
  watched_on ms q h g call = record {
    answered = g;
    pruned = subst (λ (L : List ℕ). HasPruned (all_tests (untested (test_at ts) L)) (test_at ts) (lasts_of a) (ms ++ m ∷ []) q) (sym e)
        (call asked (test_at ts) ms (subst (λ (L : List ℕ). HasPruned asked (test_at ts) L ms p) (sym e) h) g);
  }

  pub watches_on : (q : Pruner) → ((s : Context → Bool) → watch_of s q ≡ watch_of s p) → watch_with ts (lasts_of a) q ≡ watch_with ts ls p
  watches_on q same =
      ap (λ (L : List ℕ). watch_with ts L q) e
      ∙ ap (λ (w : Watch). record { watch = w; parts = untested (test_at ts) ls }) (same asked)

-- ---- the answers where no leaf is read

pub answered_on : (t : ℕ → Context → Bool) (ms : List Move) (a : Answers) (m : CodeMove) → ((k : ℕ) × (m ≡ CodeMove.Enter k)) ⊎ ((k : ℕ) × (m ≡ CodeMove.Leave k))
    → HasAnswered t ms a → HasAnswered t (ms ++ move_view m ∷ []) a
answered_on t ms a m (inl x) h = subst (λ (y : CodeMove). HasAnswered t (ms ++ move_view y ∷ []) a) (sym x.1) (answers_stay t ms x.0 a h).0
answered_on t ms a m (inr x) h = subst (λ (y : CodeMove). HasAnswered t (ms ++ move_view y ∷ []) a) (sym x.1) (answers_stay t ms x.0 a h).1

-- ---- what it tells, by the masks

all_last : (p : Verdict → Bool) (vs : List Verdict) (v : Verdict) → list_all p (vs ++ v ∷ []) ≡ true → (p v ≡ true) × (list_all p vs ≡ true)
all_last p vs v h = let x = and_parts _ _ (sym (list_all-append p vs (v ∷ [])) ∙ h) in ((and_parts _ _ x.1).0, x.0)

all_reversed : (p : Verdict → Bool) (vs : List Verdict) → list_all p (reverse vs) ≡ true → list_all p vs ≡ true
all_reversed p [] h = refl
all_reversed p (v ∷ vs) h = let x = all_last p (reverse vs) v (sym (ap (list_all p) (reverse-append (v ∷ []) vs)) ∙ h) in ap₂ (λ (a b : Bool). a && b) x.0 (all_reversed p vs x.1)

kept_branch : (k : Kept) → k.undecided ≡ 0 → k.dropped ≡ 0 → (i : ℕ) → is_settled (verdict_of (branch_at k i)) ≡ true
kept_branch k u d i = ap₂ (λ (x y : ℕ). is_settled (verdict_of (if x == 1 then Branch.Undecided else if y == 1 then Branch.Dropped else Branch.Kept)))
    (ap (λ (x : ℕ). bit_at x i) u ∙ bit_at-zero i) (ap (λ (x : ℕ). bit_at x i) d ∙ bit_at-zero i)

kept_branches : (k : Kept) → k.undecided ≡ 0 → k.dropped ≡ 0 → (n i : ℕ) → list_all is_settled (map verdict_of (branches_from k i n)) ≡ true
kept_branches k u d zero i = refl
kept_branches k u d (suc n) i = ap₂ (λ (a b : Bool). a && b) (kept_branch k u d i) (kept_branches k u d n (suc i))

pub twice_reversed : (vs : List Verdict) → reverse (reverse vs) ≡ vs
twice_reversed [] = refl
twice_reversed (v ∷ vs) = ap reverse (reverse-append (v ∷ []) vs) ∙ reverse-append (reverse vs) (v ∷ []) ∙ ap (λ (us : List Verdict). v ∷ us) (twice_reversed vs)

pub told_kept : (w : WatchedParts) (ms : List Move) (m : Move) (n : ℕ) (k : Kept) (b : Bool) → verdicts_in n k ≡ pruning_tells w.watch (pruned_behind w ms) m
    → b ≡ ((k.undecided == 0) && (k.dropped == 0)) → TellsKept (Some w) ms m b
told_kept w ms m n k b e q = λ t.
    let x = and_parts _ _ (sym q ∙ t) in
    all_reversed is_settled (told_inside w ms m)
    (ap (list_all is_settled) (twice_reversed (pruning_tells w.watch (pruned_behind w ms) m) ∙ sym e)
    ∙ kept_branches k (eqb-true k.undecided 0 x.0) (eqb-true k.dropped 0 x.1) n 0)

branches_last : (k : Kept) (n i : ℕ) → branches_from k i (suc n) ≡ branches_from k i n ++ branch_at k (i + n) ∷ []
branches_last k zero i = let z : i ≡ i + 0 = omega arith in ap (λ (j : ℕ). branch_at k j ∷ []) z
branches_last k (suc n) i = let z : suc i + n ≡ i + suc n = omega arith in ap (λ (bs : List Branch). branch_at k i ∷ bs) (branches_last k n (suc i) ∙ ap (λ (j : ℕ). branches_from k (suc i) n ++ branch_at k j ∷ []) z)

map_last : (bs : List Branch) (b : Branch) → map verdict_of (bs ++ b ∷ []) ≡ map verdict_of bs ++ verdict_of b ∷ []
map_last [] b = refl
map_last (x ∷ bs) b = ap (λ (vs : List Verdict). verdict_of x ∷ vs) (map_last bs b)

-- the last of what is told in front is told of the innermost
first_of_reversed : (k : Kept) (n : ℕ) (vs : List Verdict) → verdicts_in n k ≡ reverse vs → (x : Move) (j : ℕ) → x ≡ leave j → innermost_dropped x n k ≡ first_dropped vs
first_of_reversed k zero vs e x j q = ap (λ (y : Move). innermost_dropped y 0 k) q ∙ ap first_dropped (ap reverse e ∙ twice_reversed vs)
first_of_reversed k (suc n) vs e x j q =
    ap (λ (y : Move). innermost_dropped y (suc n) k) q
    ∙ ap first_dropped (sym (reverse-append (map verdict_of (branches_from k 0 n)) (verdict_of (branch_at k n) ∷ [])) ∙ ap reverse (sym (map_last (branches_from k 0 n) (branch_at k n)))
    ∙ ap (λ (bs : List Branch). reverse (map verdict_of bs)) (sym (branches_last k n 0 ∙ ap (λ (i : ℕ). branches_from k 0 n ++ branch_at k i ∷ []) same)) ∙ ap reverse e ∙ twice_reversed vs)
  where
    same : 0 + n ≡ n
    same = omega arith

pub told_dropped : (w : WatchedParts) (ms : List Move) (m : Move) (n : ℕ) (k : Kept) → verdicts_in (told_count n m) k ≡ pruning_tells w.watch (pruned_behind w ms) m
    → innermost_dropped m n k ≡ dropped_at (Some w) ms m
told_dropped w ms (enter j) n k e = refl
told_dropped w ms (value i t) n k e = refl
told_dropped w ms (leave j) n k e =
    first_of_reversed k n (told_inside w ms (leave j)) (e ∙ sym (twice_reversed (pruning_tells w.watch (pruned_behind w ms) (leave j)))) (leave j) j refl
