-- A scan over columns, chunk by chunk.
use Rattle.std.specs.Prelude.{◌≡◌, ◌≢◌, ◌<◌, ⊤, ℕ, List, [], ◌++◌, map, length, Bool, true, false, Option, Some, None, Result, Ok, Err}
use Rattle.std.specs.declared.alloc.Global.{Global}
use Rattle.std.specs.declared.vec.Vec.{Vec}
use Rattle.dr_meaning.specs.Schema.{Schema}
use Rattle.dr_meaning.specs.Record.{Node}
use Rattle.dr_meaning.specs.Column.{Triplet}
use Rattle.dr_meaning.specs.WalkLaws.{AreLeavesOf}
use Rattle.dr_levels.specs.Views.{triplets_view}
use Rattle.dr_moves.specs.Leading.{Left, columns_of}
use Rattle.dr_plan.specs.Planned.{IsOfSchema, plan_leaves}
use Rattle.dr_plan.specs.declared.plan.Plan.{Plan}
use Rattle.dr_beside.specs.Chunks.{HasColumns, NoneHas}
use Rattle.dr_agreement.specs.Alone.{AreTestsOf}
use Rattle.dr_agreement.specs.AtHand.{here_of, ends_of, form_of, whole_at, AreFronts, IsKept}
use Rattle.dr_agreement.specs.Behind.{GoesOn, IsBehind}
use Rattle.dr_agreement.specs.declared.at_hand.AtHand.{AtHand}
use Rattle.dr_agreement.specs.declared.at_hand.Kept.{Kept}
use Rattle.dr_agreement.specs.declared.column_of_leaf.LeafTest.{LeafTest}
use Rattle.dr_columns.specs.Taken.{HasTaken, plan_paths}
use Rattle.dr_columns.specs.declared.chunks.Chunks.{Chunks}
use Rattle.dr_columns.specs.declared.chunks.Step.{Step}
use Rattle.dr_columns.specs.declared.column_scan.ColumnScan.{ColumnScan}

-- nothing of any column
abbrev pub nothing : Left
nothing i = []

-- what is at hand of each leaf of a plan, and the leaf's test
pub record AreForPlan (s : Schema) (p : Plan) (xs : List AtHand) (tests : List LeafTest) : Type 0 where
  pub of_schema : AreLeavesOf s.fields (plan_leaves p)
  pub as_many : length xs ≡ length (plan_leaves p)
  pub are_tests : AreTestsOf (plan_leaves p) tests

-- the next so many records were taken, so many triplets of each leaf; or none have them
abbrev pub TakesFronts : Schema → Plan → List AtHand → ℕ → List Node → ColumnScan → Option (Vec ℕ Global) → Type 0
TakesFronts s p xs records R y (Some counts) = (C : List (List Triplet)) × AreFronts records xs C × (counts.items ≡ map (λ (ts : List Triplet). length ts) C)
    × (S : List Node) × HasColumns s.fields (plan_paths p) C records S × HasTaken s p (R ++ S) y
TakesFronts s p xs records R y None = (C : List (List Triplet)) × AreFronts records xs C × NoneHas s.fields (plan_paths p) C records

-- of what was given of the columns of so many records it has taken these records
pub record HasTakenChunks (s : Schema) (p : Plan) (rows : ℕ) (given : Left) (R : List Node) (x : Chunks) : Type 0 where
  pub behind : IsBehind s.fields (plan_paths p) rows given (here_of x.leaves.items) (ends_of x.leaves.items) R x.records
  pub taken : HasTaken s p R x.scan
  pub for_plan : AreForPlan s p x.leaves.items x.tests.items

-- of some plan's records
abbrev pub CanStep : Chunks → Type 0
CanStep x = (s : Schema) × (p : Plan) × (rows : ℕ) × (given : Left) × (R : List Node) × HasTakenChunks s p rows given R x

-- nothing is at hand of a plan's leaves, and nothing is taken
pub record BeginsFor (s : Schema) (p : Plan) (xs : List AtHand) (y : ColumnScan) : Type 0 where
  pub of_schema : AreLeavesOf s.fields (plan_leaves p)
  pub as_many : length xs ≡ length (plan_leaves p)
  pub none : (i : ℕ) → here_of xs i ≡ []
  pub taken : HasTaken s p [] y

-- what is at hand of a leaf is lent, these triplets: nothing is at hand of it, and all else is as it was
pub record IsLent (leaf : ℕ) (ts : List Triplet) (kept : Kept) (x y : Chunks) : Type 0 where
  pub triplets : ts ≡ here_of x.leaves.items leaf
  pub is_kept : IsKept ts kept
  pub none : here_of y.leaves.items leaf ≡ []
  pub others : (i : ℕ) → i ≢ leaf → here_of y.leaves.items i ≡ here_of x.leaves.items i
  pub ends : (i : ℕ) → ends_of y.leaves.items i ≡ ends_of x.leaves.items i
  pub forms : map form_of y.leaves.items ≡ map form_of x.leaves.items
  pub scan : (y.scan ≡ x.scan) × (y.records ≡ x.records) × (y.tests ≡ x.tests)

-- all is taken, and nothing comes later
abbrev pub IsAllTaken : Plan → Chunks → Type 0
IsAllTaken p x = (x.records ≡ 0) × ((i : ℕ) → i < length (plan_leaves p) → (here_of x.leaves.items i ≡ []) × (ends_of x.leaves.items i ≡ true))

-- no records have columns that begin so
abbrev pub NoneGoesOn : Schema → Plan → ℕ → Left → (ℕ → Bool) → Type 0
NoneGoesOn s p rows given ends = (C : List (List Triplet)) (later : Left) → GoesOn (length (plan_paths p)) given ends C later → NoneHas s.fields (plan_paths p) C rows

-- what a step comes to
abbrev pub ComesTo : Schema → Plan → ℕ → Left → Chunks → Step → Type 0
ComesTo s p rows given x Step.Took = (R : List Node) × HasTakenChunks s p rows given R x
ComesTo s p rows given x (Step.Wants i) = (R : List Node) × HasTakenChunks s p rows given R x × (i < length (plan_leaves p)) × (ends_of x.leaves.items i ≡ false)
ComesTo s p rows given x Step.Long = (R : List Node) × HasTakenChunks s p rows given R x × (0 < length (plan_leaves p))
ComesTo s p rows given x Step.Ended = (R : List Node) × HasTakenChunks s p rows given R x × IsAllTaken p x
ComesTo s p rows given x Step.NoneHave = NoneGoesOn s p rows given (ends_of x.leaves.items)
