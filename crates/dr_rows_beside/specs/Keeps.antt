-- What a plan's condition, made ready, keeps.
use Rattle.std.specs.Prelude.{◌≡◌, ◌≤◌, ℕ, List, [], ◌∷◌, length, true, Some}
use Rattle.std.specs.List.{list_all, slice_get}
use Rattle.dr_meaning.specs.Schema.{Fields}
use Rattle.dr_meaning.specs.Column.{Triplet}
use Rattle.dr_moves.specs.Selection.{all_differ}
use Rattle.dr_beside.specs.Chunks.{HasColumns}
use Rattle.dr_rows_beside.specs.Keepings.{CanJudge}
use Rattle.dr_meaning.specs.Path.{Step, Leaf, paths_of_leaves, is_leaf_path, begins_with, chain_end}
use Rattle.dr_meaning.specs.Record.{Node}
use Rattle.dr_plan.specs.declared.expression.Truth.{Truth}
use Rattle.dr_plan.specs.Fitting.{truth_fits}
use Rattle.dr_scalar.specs.Leaves.{greatest, truth_leaves}
use Rattle.dr_rows_beside.specs.declared.keeping.Keeping.{Keeping}
use Rattle.dr_rows_beside.specs.Sources.{AreOnItsChain}
use Rattle.dr_rows_beside.specs.Makings.{reading, IsKeepingOf}
use Rattle.dr_rows_beside.specs.Kept.{holds, all_hold, IsTestOf, AreTestsOf}

-- the leaves of each test are on the chain of its last one, and that one on the chain of a path
abbrev pub AreOnOneChain : List Leaf → List Step → List Truth → Type 0
AreOnOneChain ls l [] = Unit {0}
AreOnOneChain ls l (t ∷ ts) = ((k : ℕ) → greatest (truth_leaves t) ≡ Some k → (p : List Step) × (slice_get (paths_of_leaves ls) k ≡ Some p) × AreOnItsChain (paths_of_leaves ls) p (truth_leaves t)
    × (begins_with (chain_end p) (chain_end l) ≡ true)) × AreOnOneChain ls l ts

-- its tests are tests of the plan, and all of them are true where all of the plan's that read a leaf are
abbrev pub KeepingHolds : Type 0
KeepingHolds = (ls : List Leaf) (ts : List Truth) (k : Keeping) (l : List Step) → IsKeepingOf (paths_of_leaves ls) ts k → slice_get (paths_of_leaves ls) k.own.source.leaf ≡ Some l
    → list_all (truth_fits ls) (reading ts) ≡ true → AreOnOneChain ls l (reading ts)
    → (v : IsTestOf ls k.own) × (v.path ≡ l) × AreTestsOf ls v.path k.others.items
    × ((m : Node) → all_hold ls (k.own ∷ k.others.items) m ≡ list_all (λ (t : Truth). holds ls t m) (reading ts))

-- the columns that records have can be judged
abbrev pub RecordsCanBeJudged : Type 0
RecordsCanBeJudged = (fs : Fields) (ls : List Leaf) (C : List (List Triplet)) (n : ℕ) (R : List Node) (k : Keeping) → HasColumns fs (paths_of_leaves ls) C n R
    → list_all (is_leaf_path fs) (paths_of_leaves ls) ≡ true → all_differ (paths_of_leaves ls) ≡ true → (v : IsTestOf ls k.own) → AreTestsOf ls v.path k.others.items → length k.above.items ≤ 256
    → CanJudge C k
