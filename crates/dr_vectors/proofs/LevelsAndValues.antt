-- Levels and values side by side as triplets, their fronts, and branches by bits, by computation.
use Rattle.std.specs.Prelude.{◌≡◌, ℕ, List, [], ◌∷◌, ◌++◌, map, length, replicate, take, drop, true, false, ℤ, pos, neg_ℤ, Some, None, codes, refl}
use Rattle.dr_meaning.specs.Record.{Value, bool_value, int_value, text_value}
use Rattle.dr_meaning.specs.Column.{Triplet, triplet}
use Rattle.dr_levels.specs.Branches.{branch_at}
use Rattle.dr_levels.specs.Dense.{joined, text_values}
use Rattle.dr_levels.specs.declared.kept.Branch.{Branch}
use Rattle.dr_levels.specs.declared.kept.Kept.{Kept}
use Rattle.dr_levels.specs.declared.text_place.TextPlace.{TextPlace}
use Rattle.dr_levels.specs.declared.triplet.Levels.{Levels}

abbrev levels : ℕ → ℕ → Levels
levels r d = record { repetition = r; definition = d }

-- a value, no value, a value
abbrev three : List Levels
three = levels 0 1 ∷ levels 0 0 ∷ levels 1 1 ∷ []

abbrev there : ℕ → ℕ → Value → Triplet
there r d v = triplet r d (Some v)

pub truths : joined 1 three (map bool_value (true ∷ false ∷ [])) ≡ there 0 1 (bool_value true) ∷ triplet 0 0 None ∷ there 1 1 (bool_value false) ∷ []
truths = refl

abbrev numbers : List ℤ → List Value
numbers zs = map int_value zs

-- behind them two more without a value, and one with
pub integers : joined 1 (three ++ (replicate 2 (levels 0 0) ++ levels 0 1 ∷ [])) (numbers (neg_ℤ (pos 7) ∷ pos 8 ∷ pos 9 ∷ [])) ≡
    there 0 1 (int_value (neg_ℤ (pos 7))) ∷ triplet 0 0 None ∷ there 1 1 (int_value (pos 8)) ∷ triplet 0 0 None ∷ triplet 0 0 None ∷ there 0 1 (int_value (pos 9)) ∷ []
integers = refl

abbrev place : ℕ → TextPlace
place n = record { start = n; length = 2 }

-- a text before them, and two that lie in a buffer among other bytes
abbrev four_texts : List Triplet
four_texts = joined 1 (levels 0 1 ∷ three) (text_value (codes "xy") ∷ text_values (codes ".ab.cd.") (place 1 ∷ place 4 ∷ []))

abbrev text : ℕ → List ℕ → Triplet
text r t = there r 1 (text_value t)

pub texts : four_texts ≡ text 0 (codes "xy") ∷ text 0 (codes "ab") ∷ triplet 0 0 None ∷ text 1 (codes "cd") ∷ []
texts = refl

-- ---- fronts

abbrev cut : ℕ → List Triplet
cut n = take n four_texts ++ text 0 (codes "new") ∷ []

-- with one more behind what is kept: all four, four, three, two, none
pub first_ones : (cut 7 ≡ cut 4) × (cut 4 ≡ text 0 (codes "xy") ∷ text 0 (codes "ab") ∷ triplet 0 0 None ∷ text 1 (codes "cd") ∷ text 0 (codes "new") ∷ [])
    × (cut 3 ≡ text 0 (codes "xy") ∷ text 0 (codes "ab") ∷ triplet 0 0 None ∷ text 0 (codes "new") ∷ []) × (cut 2 ≡ text 0 (codes "xy") ∷ text 0 (codes "ab") ∷ text 0 (codes "new") ∷ [])
    × (cut 0 ≡ text 0 (codes "new") ∷ [])
first_ones = (refl, refl, refl, refl, refl)

-- the first three and the last
pub two_parts : (length four_texts ≡ 4) × (length (take 3 four_texts) ≡ 3) × (take 1 (take 3 four_texts) ≡ text 0 (codes "xy") ∷ []) × (drop 3 four_texts ≡ text 1 (codes "cd") ∷ [])
two_parts = (refl, refl, refl, refl)

-- ---- branches

-- the places 1 and 3 are undecided, 2 and 3 dropped: what is undecided is not dropped yet
abbrev masks : Kept
masks = record { undecided = 10; dropped = 12 }

pub branches : map (branch_at masks) (0 ∷ 1 ∷ 2 ∷ 3 ∷ 4 ∷ []) ≡ Branch.Kept ∷ Branch.Undecided ∷ Branch.Dropped ∷ Branch.Undecided ∷ Branch.Kept ∷ []
branches = refl
