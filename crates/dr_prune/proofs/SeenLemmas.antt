-- A step of a pruner, by its move, and behind moves.
use Rattle.std.proofs.Common.{◌≡◌, ℕ, suc, List, [], ◌∷◌, ◌++◌, length, Bool, true, false, None, refl, sym, ap, ◌∙◌}
use Rattle.std.specs.Prelude.{reverse, ◌==◌, if◌then◌else◌}
use Rattle.std.proofs.lemmas.Bool.{eqb-true}
use Rattle.dr_meaning.specs.Column.{Triplet}
use Rattle.dr_meaning.specs.Walk.{Move, enter, value, leave}
use Rattle.dr_levels.specs.declared.kept.Kept.{Kept}
use Rattle.dr_moves.specs.Context.{Context}
use Rattle.dr_moves.specs.Condition.{Watch}
use Rattle.dr_kept_laws.specs.MovedContexts.{after_moves}
use Rattle.dr_kept_laws.specs.Telling.{told}
use Rattle.dr_kept_laws.specs.Counting.{Numbers, count_row, count_left, count_move, verdicts_of, left_among, numbers_tell, context_behind, Counted, nothing_counted, count_on, count_all, NumbersTell}
use Rattle.dr_prune.specs.Pruning.{IsAnswer, HasSeen, numbers_of, open_in, watch_of, verdicts_in, told_count}
use Rattle.dr_prune.specs.declared.pruner.Pruner.{Pruner}

-- ---- one step, by its move

pub record IsStep (p : Pruner) (m : Move) (b : Bool) (q : Pruner) (k : Kept) : Type 0 where
  pub chain : q.chain ≡ p.chain
  pub last : q.last ≡ p.last
  pub counts : (t : Context → Bool) (c : Context) → IsAnswer (watch_of t p) c m b → numbers_of q ≡ count_move (watch_of t p) c m (numbers_of p)
  pub tells : (t : Context → Bool) (c : Context) → IsAnswer (watch_of t p) c m b → verdicts_in (told_count (open_in p) m) k ≡ reverse (numbers_tell (watch_of t p) c m (numbers_of p))

module _ (p : Pruner) (b : Bool) (q : Pruner) (k : Kept) (chain : q.chain ≡ p.chain) (last : q.last ≡ p.last) where
  pub enters : (j : ℕ) → ((t : Context → Bool) (c : Context) → numbers_of q ≡ count_move (watch_of t p) c (enter j) (numbers_of p))
      → ((n : ℕ) → verdicts_in n k ≡ reverse (verdicts_of (length (0 ∷ p.chain.items)) (numbers_of q) n)) → IsStep p (enter j) b q k
  enters j h g = record {
    chain = chain;
    last = last;
    counts = λ t c a. h t c;
    tells = λ t c a. g (suc (open_in p)) ∙ ap (λ (n : Numbers). reverse (verdicts_of (length (0 ∷ p.chain.items)) n (suc (open_in p)))) (h t c);
  }

  pub reads : (i : ℕ) (x : Triplet) → numbers_of q ≡ (if i == p.last then count_row b (numbers_of p) else numbers_of p)
      → ((n : ℕ) → verdicts_in n k ≡ reverse (verdicts_of (length (0 ∷ p.chain.items)) (numbers_of q) n)) → IsStep p (value i x) b q k
  reads i x h g = record {
    chain = chain;
    last = last;
    counts = counts;
    tells = λ t c a. g (open_in p) ∙ ap (λ (n : Numbers). reverse (verdicts_of (length (0 ∷ p.chain.items)) n (open_in p))) (counts t c a);
  }
    where
      counts : (t : Context → Bool) (c : Context) → IsAnswer (watch_of t p) c (value i x) b → numbers_of q ≡ count_move (watch_of t p) c (value i x) (numbers_of p)
      counts t c a = h ∙ by_leaf (i == p.last) refl
        where
          by_leaf : (l : Bool) → (i == p.last) ≡ l → (if l then count_row b (numbers_of p) else numbers_of p) ≡ (if l then count_row (t c) (numbers_of p) else numbers_of p)
          by_leaf true e = ap (λ (v : Bool). count_row v (numbers_of p)) (sym (a (eqb-true i p.last e)))
          by_leaf false e = refl

  pub leaves : (j : ℕ) → numbers_of q ≡ count_left ((numbers_of p).along == (numbers_of p).depth) (numbers_of p)
      → verdicts_in (open_in p) k ≡ reverse (left_among (length (0 ∷ p.chain.items)) (numbers_of p) (open_in p)) → IsStep p (leave j) b q k
  leaves j h g = record { chain = chain; last = last; counts = λ t c a. h; tells = λ t c a. g }

-- ---- behind moves

module _ (w : Watch) where
  count_more : (g : Counted) (ms : List Move) (m : Move) → count_all w g (ms ++ m ∷ []) ≡ count_on w (count_all w g ms) m
  count_more g [] m = refl
  count_more g (x ∷ ms) m = count_more (count_on w g x) ms m

  counted_context : (g : Counted) (ms : List Move) → (count_all w g ms).context ≡ after_moves g.context ms
  counted_context g [] = refl
  counted_context g (enter k ∷ ms) = counted_context (count_on w g (enter k)) ms
  counted_context g (value i t ∷ ms) = counted_context (count_on w g (value i t)) ms
  counted_context g (leave k ∷ ms) = counted_context (count_on w g (leave k)) ms

  -- the context behind one more
  context_more : (ms : List Move) (m : Move) → context_behind (count_all w nothing_counted ms).context m ≡ after_moves (λ i. None) (ms ++ m ∷ [])
  context_more ms m = sym (ap (λ (g : Counted). g.context) (count_more nothing_counted ms m)) ∙ counted_context nothing_counted (ms ++ m ∷ [])

module _ (p : Pruner) (m : Move) (b : Bool) (q : Pruner) (k : Kept) (s : IsStep p m b q k) where
  pub same_watch : (t : Context → Bool) → watch_of t q ≡ watch_of t p
  same_watch t = cc

  module _ (t : Context → Bool) (ms : List Move) (seen : HasSeen t ms p) (answer : IsAnswer (watch_of t p) (after_moves (λ i. None) (ms ++ m ∷ [])) m b) where
    -- the numbers behind one more
    pub seen_more : HasSeen t (ms ++ m ∷ []) q
    seen_more =
        let w = watch_of t p in
        s.counts t (after_moves (λ i. None) (ms ++ m ∷ [])) answer
        ∙ ap (count_move w (after_moves (λ i. None) (ms ++ m ∷ [])) m) seen
        ∙ ap (λ (d : Context). count_move w d m (count_all w nothing_counted ms).numbers) (sym (context_more w ms m))
        ∙ sym (ap (λ (g : Counted). g.numbers) (count_more w nothing_counted ms m))
        ∙ ap (λ (v : Watch). (count_all v nothing_counted (ms ++ m ∷ [])).numbers) (sym (same_watch t))

    -- what is told there
    pub told_there : NumbersTell → verdicts_in (told_count (open_in p) m) k ≡ told (watch_of t p) ms m
    told_there law =
        let w = watch_of t p in
        s.tells t (after_moves (λ i. None) (ms ++ m ∷ [])) answer
        ∙ ap (λ (x : Numbers). reverse (numbers_tell w (after_moves (λ i. None) (ms ++ m ∷ [])) m x)) seen
        ∙ ap (λ (d : Context). reverse (numbers_tell w d m (count_all w nothing_counted ms).numbers)) (sym (context_more w ms m))
        ∙ law w ms m
