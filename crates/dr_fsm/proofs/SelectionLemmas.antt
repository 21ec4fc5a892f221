-- The paths of selected leaves in an order.
use Rattle.std.specs.Prelude.{◌≡◌, ℕ, zero, suc, ◌<◌, List, [], ◌∷◌, length, map, All}
use Rattle.std.specs.List.{slice_get, cons_option}
use Rattle.std.proofs.Common.{refl, ap, ◌∙◌, arith, get_or}
use Rattle.dr_meaning.specs.Path.{Step, Leaf}
use Rattle.dr_meaning.specs.Fsm.{leaves_at}
use Rattle.dr_fsm.specs.Tables.{paths_at}

abbrev path_of : Leaf → List Step
path_of l = l.path

-- a leaf of a selection, before others
first_path : (ls : List Leaf) (i : ℕ) (rest : List Leaf) → i < length ls → map path_of (cons_option (slice_get ls i) rest) ≡ get_or (map path_of ls) i [] ∷ map path_of rest
first_path [] i rest h = absurd (omega (arith, h))
first_path (l ∷ ls) zero rest h = refl
first_path (l ∷ ls) (suc i) rest h = first_path ls i rest (omega (arith, h))

-- the paths of the leaves at places of a selection are the paths at these places
pub paths_of_leaves : (ls : List Leaf) (is : List ℕ) → All (λ (i : ℕ). i < length ls) is → map (λ (l : Leaf). l.path) (leaves_at ls is) ≡ paths_at (map (λ (l : Leaf). l.path) ls) is
paths_of_leaves ls [] h = refl
paths_of_leaves ls (i ∷ is) h =
    first_path ls i (leaves_at ls is) (h 0 0 (omega arith))
    ∙ ap (λ (ps : List (List Step)). get_or (map path_of ls) i [] ∷ ps) (paths_of_leaves ls is (λ (k d : ℕ) l. h (suc k) d (omega (arith, l))))
