-- Contexts of moves behind others.
use Rattle.std.proofs.Common.{◌≡◌, ℕ, suc, List, [], ◌∷◌, ◌++◌, length, arith, Bool, true, false, refl, ap, ◌∙◌}
use Rattle.std.specs.Prelude.{◌==◌, if◌then◌else◌}
use Rattle.dr_meaning.specs.Walk.{Move, enter, value, leave}
use Rattle.dr_meaning.specs.WalkLaws.{triplets_of}
use Rattle.dr_kept_laws.specs.MovedContexts.{after_moves}
use Rattle.dr_moves.specs.Context.{Context, with_value, contexts}
use Rattle.dr_moves.specs.Tour.{Tour, over, saw, inside, moves_of, after}

pub moved_on : (c : Context) (a b : List Move) → after_moves c (a ++ b) ≡ after_moves (after_moves c a) b
moved_on c [] b = refl
moved_on c (enter k ∷ a) b = moved_on c a b
moved_on c (value i t ∷ a) b = moved_on (with_value i t.value c) a b
moved_on c (leave k ∷ a) b = moved_on c a b

pub moved_after : (T : Tour) (c : Context) → after_moves c (moves_of T) ≡ after c T
moved_after over c = refl
moved_after (saw i t T) c = moved_after T (with_value i t.value c)
moved_after (inside k B T) c = moved_on c (moves_of B) (leave k ∷ moves_of T) ∙ ap (λ (x : Context). after_moves x (moves_of T)) (moved_after B c) ∙ moved_after T (after c B)

pub contexts_more : (i : ℕ) (c : Context) (a b : List Move) → contexts i c (a ++ b) ≡ contexts i c a ++ contexts i (after_moves c a) b
contexts_more i c [] b = refl
contexts_more i c (enter k ∷ a) b = contexts_more i c a b
contexts_more i c (leave k ∷ a) b = contexts_more i c a b
contexts_more i c (value j t ∷ a) b = by_leaf (j == i) (contexts_more i (with_value j t.value c) a b)
  where
    d : Context
    d = with_value j t.value c

    by_leaf : (h : Bool) → contexts i (with_value j t.value c) (a ++ b) ≡ contexts i (with_value j t.value c) a ++ contexts i (after_moves (with_value j t.value c) a) b
        → (if h then with_value j t.value c ∷ contexts i (with_value j t.value c) (a ++ b) else contexts i (with_value j t.value c) (a ++ b))
        ≡ (if h then with_value j t.value c ∷ contexts i (with_value j t.value c) a else contexts i (with_value j t.value c) a) ++ contexts i (after_moves (with_value j t.value c) a) b
    by_leaf true e = ap (λ (x : List Context). with_value j t.value c ∷ x) e
    by_leaf false e = e

pub contexts_count : (i : ℕ) (c : Context) (ms : List Move) → length (contexts i c ms) ≡ length (triplets_of i ms)
contexts_count i c [] = refl
contexts_count i c (enter k ∷ ms) = contexts_count i c ms
contexts_count i c (leave k ∷ ms) = contexts_count i c ms
contexts_count i c (value j t ∷ ms) = by_leaf (j == i) (contexts_count i (with_value j t.value c) ms)
  where
    by_leaf : (h : Bool) → length (contexts i (with_value j t.value c) ms) ≡ length (triplets_of i ms)
        → length (if h then with_value j t.value c ∷ contexts i (with_value j t.value c) ms else contexts i (with_value j t.value c) ms) ≡ length (if h then t ∷ triplets_of i ms else triplets_of i ms)
    by_leaf true e = ap suc e
    by_leaf false e = e

pub contexts_none : (i : ℕ) (c : Context) (ms : List Move) → triplets_of i ms ≡ [] → contexts i c ms ≡ []
contexts_none i c ms h = no_length (contexts i c ms) (contexts_count i c ms ∙ ap length h)
  where
    no_length : (xs : List Context) → length xs ≡ 0 → xs ≡ []
    no_length [] e = refl
    no_length (x ∷ xs) e = absurd (omega (arith, e))
