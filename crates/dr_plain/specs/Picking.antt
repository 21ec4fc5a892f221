-- Items at indices.
use Rattle.std.specs.Prelude.{ℕ, zero, suc, List, [], ◌∷◌, Option, Some, None, option_map, option_and_then}

-- the item at this index, from 0
abbrev pub nth : {A : Type 0} → List A → ℕ → Option A
nth [] i = None
nth (x ∷ xs) zero = Some x
nth (x ∷ xs) (suc i) = nth xs i

-- the items at these indices; none where one isn't below how many there are
abbrev pub picked : {A : Type 0} → List A → List ℕ → Option (List A)
picked {A = A} items [] = Some []
picked {A = A} items (i ∷ is) = option_and_then (λ (x : A). option_map (λ xs. x ∷ xs) (picked items is)) (nth items i)
