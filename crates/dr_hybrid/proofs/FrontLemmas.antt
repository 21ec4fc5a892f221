-- How many values at the front are equal, counted piece by piece.
use Rattle.std.proofs.Common.{◌≡◌, ℕ, zero, suc, ◌+◌, ◌≤◌, List, [], ◌∷◌, length, take, drop, Bool, true, false, refl, sym, ap, ◌∙◌, true≢false, arith}
use Rattle.std.specs.Prelude.{◌==◌, if◌then◌else◌}
use Rattle.std.specs.List.{list_all}
use Rattle.std.proofs.lemmas.List.{drop-drop, length-take, length-drop}
use Rattle.std.proofs.lemmas.Bool.{and_parts}
use Rattle.dr_formats.specs.Hybrid.{equal_front}

-- one more that is equal, or none
one_more_front : (b : Bool) (k f t r : ℕ) → (k ≤ t → f ≡ k + r) → suc k ≤ (if b then suc t else 0) → (if b then suc f else 0) ≡ suc k + r
one_more_front true k f t r rest e = omega (arith, rest (omega (arith, e)))
one_more_front false k f t r rest e = absurd (omega (arith, e))

-- where all of the first so many are equal, the count goes on behind them
pub front_of_taken : (v k : ℕ) (ns : List ℕ) → k ≤ equal_front v (take k ns) → equal_front v ns ≡ k + equal_front v (drop k ns)
front_of_taken v zero ns h = omega arith
front_of_taken v (suc k) [] h = absurd (omega (arith, h))
front_of_taken v (suc k) (n ∷ ns) h =
    one_more_front (n == v) k (equal_front v ns) (equal_front v (take k ns)) (equal_front v (drop k ns)) (front_of_taken v k ns) h

pub all_front : (v : ℕ) (ns : List ℕ) → list_all (λ n. n == v) ns ≡ true → equal_front v ns ≡ length ns
all_front v [] h = refl
all_front v (n ∷ ns) h =
    let p : (n == v ≡ true) × (list_all (λ m. m == v) ns ≡ true) = and_parts (n == v) (list_all (λ m. m == v) ns) h in
    ap (λ (b : Bool). if b then suc (equal_front v ns) else 0) p.0 ∙ ap suc (all_front v ns p.1)

-- k more that are all equal
pub more_equal : (v k done : ℕ) (ns ms : List ℕ) → ms ≡ take k (drop done ns) → list_all (λ n. n == v) ms ≡ true → done + k ≤ length ns
    → equal_front v ns ≡ done + equal_front v (drop done ns) → equal_front v ns ≡ done + k + equal_front v (drop (done + k) ns)
more_equal v k done ns ms e h l w =
    let full : length ms ≡ k = ap length e ∙ length-take k (drop done ns) ∙ omega (arith, l, length-drop done ns) in
    let all : k ≤ equal_front v (take k (drop done ns)) = omega (arith, full, ap (equal_front v) (sym e) ∙ all_front v ms h) in
    let next : equal_front v (drop done ns) ≡ k + equal_front v (drop (done + k) ns) = front_of_taken v k (drop done ns) all ∙ ap (λ (xs : List ℕ). k + equal_front v xs) (drop-drop k done ns) in
    omega (arith, w, next)
