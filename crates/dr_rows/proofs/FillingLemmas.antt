-- The values of leaves, filled one after another.
use Rattle.std.specs.Prelude.{◌≡◌, ◌<◌, ◌≤◌, ℕ, zero, suc, List, [], ◌∷◌, length, map, get_or, Option, option_map}
use Rattle.std.proofs.Common.{refl, ap, ap₂, ◌∙◌, arith}
use Rattle.std.proofs.Math.ListN.{set}
use Rattle.std.proofs.lemmas.List.{length-map}
use Rattle.dr_meaning.specs.Path.{Step}
use Rattle.dr_meaning.specs.Record.{Value, Instance}
use Rattle.dr_nested.specs.PathView.{step_view, paths_view}
use Rattle.dr_nested.specs.declared.path.Path.{Path}
use Rattle.dr_levels.specs.Views.{lent_value}
use Rattle.dr_levels.specs.declared.triplet.ValueRef.{ValueRef}
use Rattle.dr_rows.specs.Views.{lent_cells}
use Rattle.dr_rows.specs.Walking.{behind, filled, filled_one}

-- filled from a leaf on
abbrev pub filled_from : List Step → Instance → ℕ → List (List Step) → List (Option Value) → List (Option Value)
filled_from q x zero ps vs = filled q x ps vs
filled_from q x (suc k) [] vs = []
filled_from q x (suc k) (p ∷ ps) [] = []
filled_from q x (suc k) (p ∷ ps) (v ∷ vs) = v ∷ filled_from q x k ps vs

-- one leaf more
pub filled_more : (q : List Step) (x : Instance) (k : ℕ) (ls : List Path) (vs : List (Option ValueRef)) (l : Path) (v w : Option ValueRef)
    → k < length ls → length vs ≡ length ls → l ≡ get_or ls k l → v ≡ get_or vs k v
    → option_map lent_value w ≡ filled_one (behind q (map step_view l.steps.items)) x (option_map lent_value v)
    → filled_from q x (suc k) (paths_view ls) (lent_cells (set vs k w)) ≡ filled_from q x k (paths_view ls) (lent_cells vs)
filled_more q x k [] vs l v w h n e g f = absurd (omega arith)
filled_more q x k (m ∷ ls) [] l v w h n e g f = absurd (omega arith)
filled_more q x zero (m ∷ ls) (u ∷ vs) l v w h n e g f =
    ap (λ (o : Option Value). o ∷ filled q x (paths_view ls) (lent_cells vs)) f
    ∙ ap₂ (λ (y : Path) (o : Option ValueRef). filled_one (behind q (map step_view y.steps.items)) x (option_map lent_value o) ∷ filled q x (paths_view ls) (lent_cells vs)) e g
filled_more q x (suc k) (m ∷ ls) (u ∷ vs) l v w h n e g f =
    ap (λ (os : List (Option Value)). option_map lent_value u ∷ os) (filled_more q x k ls vs l v w (omega arith) (omega arith) e g f)

-- all leaves are filled
pub filled_all : (q : List Step) (x : Instance) (k : ℕ) (ps : List (List Step)) (vs : List (Option Value)) → length ps ≤ k → length vs ≡ length ps → filled_from q x k ps vs ≡ vs
filled_all q x zero [] [] h n = refl
filled_all q x zero [] (v ∷ vs) h n = absurd (omega arith)
filled_all q x zero (p ∷ ps) vs h n = absurd (omega arith)
filled_all q x (suc k) [] [] h n = refl
filled_all q x (suc k) [] (v ∷ vs) h n = absurd (omega arith)
filled_all q x (suc k) (p ∷ ps) [] h n = absurd (omega arith)
filled_all q x (suc k) (p ∷ ps) (v ∷ vs) h n = ap (λ (os : List (Option Value)). v ∷ os) (filled_all q x k ps vs (omega arith) (omega arith))

pub cells-length : (vs : List (Option ValueRef)) → length (lent_cells vs) ≡ length vs
cells-length vs = length-map vs (option_map lent_value)

pub paths-length : (ls : List Path) → length (paths_view ls) ≡ length ls
paths-length ls = length-map ls (λ (l : Path). map step_view l.steps.items)
