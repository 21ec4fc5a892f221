-- What is read of a row at the leaves of a plan, and the types of what is read.
use Rattle.std.proofs.Common.{◌≡◌, ◌<◌, ℕ, zero, suc, List, [], ◌∷◌, map, length, Bool, true, false, cond, ◌&&◌}
use Rattle.std.proofs.Common.{Option, Some, None, refl, ap, ap₂, ◌∙◌, arith}
use Rattle.std.specs.Prelude.{nat_lt, filter, slice_index_or}
use Rattle.std.specs.List.{list_all, list_any, slice_get, filter_map, cons_option}
use Rattle.std.proofs.lemmas.Bool.{and_parts}
use Rattle.std.proofs.lemmas.Bool.Decides.{nat_tests}
use Rattle.std.proofs.lemmas.List.{length-map}
use Rattle.dr_meaning.specs.Schema.{Schema, Fields}
use Rattle.dr_meaning.specs.Path.{Step, Leaf, leaves, same_path, paths_of_leaves, is_leaf_path}
use Rattle.dr_meaning.specs.Record.{Node}
use Rattle.dr_meaning.specs.Rows.{value_at}
use Rattle.dr_meaning.specs.Query.{Query}
use Rattle.dr_meaning.specs.QueryLeaves.{used_paths, query_leaves}
use Rattle.dr_meaning.specs.Automaton.{reading_order}
use Rattle.dr_meaning.specs.BoundExpression.{kind_type}
use Rattle.dr_meaning.specs.BindingLaws.{is_of_type, has_shapes}
use Rattle.dr_meaning.proofs.LeafKinds.{kind_of_leaf}
use Rattle.dr_meaning.proofs.HasShapesLemmas.{leaf_typed}
use Rattle.dr_moves.specs.Context.{Context}
use Rattle.dr_moves.specs.Firing.{IsRow}
use Rattle.dr_made_laws.specs.LastRead.{paths_at}
use Rattle.dr_made_laws.proofs.LeavesInOrderLemmas.{query_leaves_in_order}
use Rattle.dr_plan.specs.Planned.{Planned, plan_leaves}
use Rattle.dr_plan.specs.PlanOf.{IsPlanOf}
use Rattle.dr_plan.specs.Views.{path_of}
use Rattle.dr_plan.specs.declared.plan.Plan.{Plan}
use Rattle.dr_scalar.specs.LeafLaws.{AreRead, SameRead, are_typed}
use Rattle.dr_scalar.proofs.LeafLemmas.{holds_of_leaf}
use Rattle.dr_condition.specs.RowValues.{read_of}
use Rattle.dr_condition.proofs.LeavesBelow.{are_below}

-- ---- the paths of leaves

same_path_at : (ls : List Leaf) (k : ℕ) → slice_index_or (paths_of_leaves ls) k [] ≡ path_of (slice_get ls k)
same_path_at [] k = refl
same_path_at (l ∷ ls) zero = refl
same_path_at (l ∷ ls) (suc k) = same_path_at ls k

pub same_paths : (ls : List Leaf) (K : List ℕ) → paths_at (paths_of_leaves ls) K ≡ map (λ k. path_of (slice_get ls k)) K
same_paths ls [] = refl
same_paths ls (k ∷ K) = ap₂ (λ (p : List Step) (ps : List (List Step)). p ∷ ps) (same_path_at ls k) (same_paths ls K)

less_back : (a b : ℕ) → nat_lt (suc a) (suc b) ≡ true → nat_lt a b ≡ true
less_back a b h = let g : suc a < suc b = grind (arith, nat_tests) in let f : a < b = omega (arith, g) in grind (arith, nat_tests)

none_less : (a : ℕ) → nat_lt a 0 ≡ true → ⊥
none_less a h = let g : a < 0 = grind (arith, nat_tests) in absurd (omega (arith, g))

path_is_there : (ls : List Leaf) (k : ℕ) → nat_lt k (length ls) ≡ true → slice_get (paths_of_leaves ls) k ≡ Some (path_of (slice_get ls k))
path_is_there [] k h = absurd (none_less k h)
path_is_there (l ∷ ls) zero h = refl
path_is_there (l ∷ ls) (suc k) h = path_is_there ls k (less_back k (length ls) h)

-- as many paths as leaves
pub below_paths : (ls : List Leaf) (K : List ℕ) → are_below ls K ≡ true → list_all (λ k. nat_lt k (length (paths_of_leaves ls))) K ≡ true
below_paths ls K h = ap (λ (n : ℕ). list_all (λ k. nat_lt k n) K) (length-map ls (λ (l : Leaf). l.path)) ∙ h

-- ---- what is read

-- a context that has the values of a row at these leaves has what would be read of it
pub row_is_read : (ls : List Leaf) (K : List ℕ) (c : Context) (row : Node) → are_below ls K ≡ true → IsRow (paths_of_leaves ls) K c row
    → SameRead K c (read_of ls row)
row_is_read ls [] c row b h = tt
row_is_read ls (k ∷ K) c row b h =
    let x : (nat_lt k (length ls) ≡ true) × (are_below ls K ≡ true) = and_parts (nat_lt k (length ls)) (are_below ls K) b in
    (h.0 (path_of (slice_get ls k)) (path_is_there ls k x.0), row_is_read ls K c row x.1 h.1)

pub all_are_read : (ls : List Leaf) (K : List ℕ) (row : Node) → AreRead ls K (read_of ls row) row
all_are_read ls [] row = tt
all_are_read ls (k ∷ K) row = (refl, all_are_read ls K row)

-- ---- of which types

both : (a b : Bool) → a ≡ true → b ≡ true → (a && b) ≡ true
both a b h g = ap₂ (λ x y. x && y) h g

all_from_each : (test : Leaf → Bool) (ls : List Leaf) → ((i : ℕ) (l : Leaf) → slice_get ls i ≡ Some l → test l ≡ true) → list_all test ls ≡ true
all_from_each test [] h = refl
all_from_each test (l ∷ ls) h = both (test l) (list_all test ls) (h 0 l refl) (all_from_each test ls (λ i m e. h (suc i) m e))

all_filtered : (test f : Leaf → Bool) (ls : List Leaf) → list_all test ls ≡ true → list_all test (filter f ls) ≡ true
all_filtered test f [] h = refl
all_filtered test f (l ∷ ls) h =
    let x : (test l ≡ true) × (list_all test ls ≡ true) = and_parts (test l) (list_all test ls) h in
    by_test (f l) x.0 (all_filtered test f ls x.1)
  where
    by_test : (b : Bool) → test l ≡ true → list_all test (filter f ls) ≡ true → list_all test (cond b (l ∷ filter f ls) (filter f ls)) ≡ true
    by_test true t g = both (test l) (list_all test (filter f ls)) t g
    by_test false t g = g

all_picked : (test : Leaf → Bool) (ls : List Leaf) (js : List ℕ) → list_all test ls ≡ true → list_all test (filter_map (slice_get ls) js) ≡ true
all_picked test ls [] h = refl
all_picked test ls (j ∷ js) h = by_found (slice_get ls j) refl (all_picked test ls js h)
  where
    by_found : (o : Option Leaf) → slice_get ls j ≡ o → list_all test (filter_map (slice_get ls) js) ≡ true
        → list_all test (cons_option o (filter_map (slice_get ls) js)) ≡ true
    by_found None e g = g
    by_found (Some l) e g = both (test l) (list_all test (filter_map (slice_get ls) js)) (holds_of_leaf test ls j l h e) g

-- in a row with the schema's shapes the values of a query's leaves are of their types
pub leaves_typed : (fs : Fields) (q : Query) (row : Node) → has_shapes fs row ≡ true → are_typed (query_leaves fs q) row ≡ true
unfolding query_leaves
leaves_typed fs q row h =
    let used : Leaf → Bool = λ (l : Leaf). list_any (same_path l.path) (used_paths q) in
    let typed : Leaf → Bool = λ (l : Leaf). is_of_type (kind_type l.kind) (value_at l.path row) in
    let all : list_all typed (leaves fs) ≡ true =
    all_from_each typed (leaves fs) (λ i l g. leaf_typed fs l.path l.kind row (kind_of_leaf fs i l g) h) in
    all_picked typed (filter used (leaves fs)) (reading_order fs (map (λ (l : Leaf). l.path) (filter used (leaves fs))))
    (all_filtered typed used (leaves fs) all)

-- ---- of a plan

-- the leaves of some query
pub record AreLeavesOf (fs : Fields) (ls : List Leaf) : Type 0 where
  pub query : Query
  pub same : ls ≡ query_leaves fs query

pub plan_leaves_are : (s : Schema) (q : Query) (p : Plan) → IsPlanOf s q p → AreLeavesOf s.fields (plan_leaves p)
plan_leaves_are s q p h = record { query = q; same = ap (λ (x : Planned). x.leaves) h.2 }

pub are_leaf_paths : (fs : Fields) (ls : List Leaf) → AreLeavesOf fs ls → list_all (is_leaf_path fs) (paths_of_leaves ls) ≡ true
are_leaf_paths fs ls o =
    ap (λ (x : List Leaf). list_all (is_leaf_path fs) (paths_of_leaves x)) o.same ∙ (query_leaves_in_order fs o.query).0

pub rows_typed : (fs : Fields) (ls : List Leaf) → AreLeavesOf fs ls → (row : Node) → has_shapes fs row ≡ true → are_typed ls row ≡ true
rows_typed fs ls o row h = ap (λ (x : List Leaf). are_typed x row) o.same ∙ leaves_typed fs o.query row h
