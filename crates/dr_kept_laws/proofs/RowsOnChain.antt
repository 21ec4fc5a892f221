-- Off a leaf's chain no triplet of it is given.
use Rattle.std.proofs.Common.{◌≡◌, ℕ, List, [], ◌∷◌, Bool, true, false, Option, None, Some, ◌∙◌, sym}
use Rattle.std.specs.Prelude.{◌==◌, if◌then◌else◌}
use Rattle.dr_meaning.specs.Walk.{leave}
use Rattle.dr_meaning.specs.WalkLaws.{triplets_of}
use Rattle.dr_meaning.proofs.WalkLemmas.{of_append}
use Rattle.dr_kept_laws.specs.Tours.{joined}
use Rattle.dr_kept_laws.specs.Leavings.{tour_leavings}
use Rattle.dr_kept_laws.proofs.Selections.{both_empty, never_empty}
use Rattle.dr_moves.specs.Context.{Context, with_value}
use Rattle.dr_moves.specs.Tour.{Tour, over, saw, inside, moves_of}
use Rattle.dr_moves.specs.Condition.{Watch, rest_below}

-- leaf i is given on the chain alone
abbrev pub OnlyOn : ℕ → Option (List ℕ) → Tour → Type 0
OnlyOn i r over = Unit {0}
OnlyOn i r (saw j t T) = ((j == i) ≡ true → r ≡ None → ⊥) × OnlyOn i r T
OnlyOn i r (inside k B T) = OnlyOn i (rest_below k r) B × OnlyOn i r T

pub joined_only : (i : ℕ) (r : Option (List ℕ)) (T U : Tour) → OnlyOn i r T → OnlyOn i r U → OnlyOn i r (joined T U)
joined_only i r over U h g = g
joined_only i r (saw j t T) U h g = (h.0, joined_only i r T U h.1 g)
joined_only i r (inside k B T) U h g = (h.0, joined_only i r T U h.1 g)

-- where it isn't given at all
pub silent_only : (i : ℕ) (r : Option (List ℕ)) (T : Tour) → triplets_of i (moves_of T) ≡ [] → OnlyOn i r T
silent_only i r over h = tt
silent_only i r (saw j t T) h = by_leaf (j == i) h (silent_only i r T)
  where
    by_leaf : (b : Bool) → (if b then t ∷ triplets_of i (moves_of T) else triplets_of i (moves_of T)) ≡ [] → (triplets_of i (moves_of T) ≡ [] → OnlyOn i r T) → (b ≡ true → r ≡ None → ⊥) × OnlyOn i r T
    by_leaf true h f = absurd (cc)
    by_leaf false h f = (λ e z. absurd (cc), f h)
silent_only i r (inside k B T) h =
    let e : (triplets_of i (moves_of B) ≡ []) × (triplets_of i (moves_of T) ≡ []) = both_empty (triplets_of i (moves_of B)) (triplets_of i (moves_of T)) (sym (of_append i (moves_of B) (leave k ∷ moves_of T)) ∙ h) in
    (silent_only i (rest_below k r) B e.0, silent_only i r T e.1)

-- without branches
pub bare_only : (w : Watch) (c : Context) (i : ℕ) (N : List ℕ) (T : Tour) → tour_leavings w None c T ≡ [] → OnlyOn i (Some N) T
bare_only w c i N over h = tt
bare_only w c i N (saw j t T) h = (λ e z. absurd (cc), bare_only w (with_value j t.value c) i N T h)
bare_only w c i N (inside k B T) h = absurd (never_empty (tour_leavings w None c B) _ _ h)
