-- The last of some leaves whose chains begin with one another: what depends on them is known where it is read, once for each row of them all.
use Rattle.std.specs.Prelude.{◌≡◌, ℕ, List, [], ◌∷◌, ◌++◌, map, length, Bool, true, nat_lt, if◌then◌else◌, Option, None, Some, slice_index_or}
use Rattle.std.specs.List.{slice_get, list_all}
use Rattle.dr_meaning.specs.Schema.{Fields}
use Rattle.dr_meaning.specs.Path.{Step, chain_end, is_leaf_path, longer}
use Rattle.dr_meaning.specs.Record.{Node}
use Rattle.dr_meaning.specs.Expression.{longest_chain}
use Rattle.dr_meaning.specs.AutomatonLaws.{AreInReadingOrder}
use Rattle.dr_moves.specs.Selection.{all_differ}
use Rattle.dr_moves.specs.Context.{Context}
use Rattle.dr_moves.specs.Firing.{AllTogether, IsRow}
use Rattle.dr_moves.specs.Condition.{Watch}
use Rattle.dr_kept_laws.specs.GroupFlowLaws.{MeansAt}
use Rattle.dr_kept_laws.specs.ChainNumbers.{chain_numbers}
use Rattle.dr_kept_laws.specs.TellingLaws.{StandsFor}
use Rattle.dr_partials.specs.PartialLaws.{all_related}

-- the paths of leaves, by their places among these
abbrev pub paths_at : List (List Step) → List ℕ → List (List Step)
paths_at F K = map (λ k. slice_index_or F k []) K

-- a number or one of others, the greater
abbrev pub greater_of : ℕ → Option ℕ → ℕ
greater_of k None = k
greater_of k (Some m) = if nat_lt k m then m else k

-- the greatest of some numbers
abbrev pub greatest : List ℕ → Option ℕ
greatest [] = None
greatest (k ∷ K) = Some (greater_of k (greatest K))

-- of leaves in reading order, each once, the last of some that are related is read together with each of them, and has their longest chain
abbrev pub LastReadsAll : Type 0
LastReadsAll = (fs : Fields) (F : List (List Step)) (K : List ℕ) (i : ℕ) → list_all (is_leaf_path fs) F ≡ true → AreInReadingOrder fs F
    → all_differ F ≡ true
    → list_all (λ k. nat_lt k (length F)) K ≡ true → all_related (paths_at F K) ≡ true → greatest K ≡ Some i
    → (p : List Step) × (slice_get F i ≡ Some p) × AllTogether F i p K × (chain_end p ≡ longest_chain (paths_at F K))

-- ---- what depends on such leaves alone

-- at the last of them it is what it is in the rows of their longest chain; without leaves in each record
abbrev pub MeantAtLast : Type 0 → Type 0
MeantAtLast X = (fs : Fields) (F : List (List Step)) (K : List ℕ) (f : Context → X) (g : Node → X) → list_all (is_leaf_path fs) F ≡ true
    → AreInReadingOrder fs F → all_differ F ≡ true → list_all (λ k. nat_lt k (length F)) K ≡ true → all_related (paths_at F K) ≡ true
    → ((c : Context) (row : Node) → IsRow F K c row → f c ≡ g row) → MeansAt F (greatest K) f (longest_chain (paths_at F K)) g

-- a watch whose last leaf is the last of them stands for what its test is in a row
abbrev pub LastStands : Type 0
LastStands = (fs : Fields) (F : List (List Step)) (K : List ℕ) (w : Watch) (condition : Node → Bool) → list_all (is_leaf_path fs) F ≡ true
    → AreInReadingOrder fs F → all_differ F ≡ true → list_all (λ k. nat_lt k (length F)) K ≡ true → all_related (paths_at F K) ≡ true
    → greatest K ≡ Some w.last → ((p : List Step) → slice_get F w.last ≡ Some p → w.chain ≡ chain_numbers fs p)
    → ((c : Context) (row : Node) → IsRow F K c row → w.test c ≡ condition row)
    → (p : List Step) × StandsFor fs F w p K condition × (chain_end p ≡ longest_chain (paths_at F K))

-- the longest chain of two lists of paths is the longer of the longest of either
abbrev pub LongestOfBoth : Type 0
LongestOfBoth = (ps qs : List (List Step)) → longest_chain (ps ++ qs) ≡ longer (longest_chain ps) (longest_chain qs)
