-- The laws of what a group query makes over the moves of records: what it makes of the rows of what the condition keeps.
use Rattle.std.specs.Prelude.{◌≡◌, ℕ, List, [], ◌∷◌, map, true, Bool, Option, Some, None, IsPermutation}
use Rattle.std.specs.List.{slice_get, list_all, flat_map, filter_map}
use Rattle.dr_meaning.specs.Schema.{Fields}
use Rattle.dr_meaning.specs.Path.{Step, chain_end, is_leaf_path}
use Rattle.dr_meaning.specs.Record.{Node, is_record}
use Rattle.dr_meaning.specs.Rows.{rows}
use Rattle.dr_meaning.specs.Kept.{kept_along}
use Rattle.dr_meaning.specs.Walk.{walk}
use Rattle.dr_kept_laws.specs.TellingLaws.{StandsFor}
use Rattle.dr_kept_laws.specs.GroupFlow.{fired_at, left_alone, Reading, all_fired, all_left, left_with}
use Rattle.dr_moves.specs.Context.{Context}
use Rattle.dr_moves.specs.Tour.{Tour, moves_of}
use Rattle.dr_moves.specs.Condition.{Watch}
use Rattle.dr_moves.specs.Cutting.{flow}
use Rattle.dr_moves.specs.Firing.{AllTogether, IsRow}

-- something that is told by the values of these leaves, which are read together with leaf i, whose path is p
pub record IsTold (X : Type 0) (F : List (List Step)) (i : ℕ) (p : List Step) (f : Context → X) (g : Node → X) : Type 0 where
  pub path : slice_get F i ≡ Some p
  pub leaves : List ℕ
  pub together : AllTogether F i p leaves
  pub same : (c : Context) (row : Node) → IsRow F leaves c row → f c ≡ g row

-- over the moves of records that a condition cuts, what fires at the triplets of leaf i is what is told of the rows of its chain in what
-- the condition keeps of the records, in their order
abbrev pub FiredOfKept : Type 0 → Type 0
FiredOfKept X = (fs : Fields) (F : List (List Step)) (w : Watch) (q : List Step) (K : List ℕ) (condition : Node → Bool)
    → StandsFor fs F w q K condition → (i : ℕ) (p : List Step) (f : Context → X) (g : Node → X) → IsTold X F i p f g
    → (R : List Node) (T : Tour) (c : Context) → list_all (is_record fs) R ≡ true → moves_of T ≡ walk fs F R
    → flow (fired_at i f) left_alone w (Some (0 ∷ w.chain)) c T
    ≡ map g (flat_map (rows (chain_end p)) (filter_map (kept_along (chain_end q) condition) R))

-- without a condition it is what is told of all rows of the records
abbrev pub FiredOfAll : Type 0 → Type 0
FiredOfAll X = (fs : Fields) (F : List (List Step)) (i : ℕ) (p : List Step) (f : Context → X) (g : Node → X)
    → list_all (is_leaf_path fs) F ≡ true → IsTold X F i p f g
    → (R : List Node) (T : Tour) (c : Context) (w : Watch) → list_all (is_record fs) R ≡ true → moves_of T ≡ walk fs F R
    → flow (fired_at i f) left_alone w None c T ≡ map g (flat_map (rows (chain_end p)) R)

-- ---- several readings

-- a reading means this in the rows of its chain: at a leaf of that chain by what is read together with it; without a leaf the same in each record
abbrev pub MeansAt : {X : Type 0} → List (List Step) → Option ℕ → (Context → X) → List Step → (Node → X) → Type 0
MeansAt F None f l g = (l ≡ []) × ((c : Context) (row : Node) → f c ≡ g row)
MeansAt {X} F (Some i) f l g = (p : List Step) × (chain_end p ≡ l) × IsTold X F i p f g

-- each of these readings does
abbrev pub AllMean : {X : Type 0} → List (List Step) → List (Reading X) → Type 0
AllMean F [] = Unit {0}
AllMean F (x ∷ xs) = MeansAt F x.leaf x.fires x.level x.means × AllMean F xs

-- what the readings mean in these records: of one after the other
abbrev pub all_means : {X : Type 0} → List (Reading X) → List Node → List X
all_means {X} xs R = flat_map (λ (x : Reading X). map x.means (flat_map (rows x.level) R)) xs

-- over the moves of records that a condition cuts the readings make what they mean in what the condition keeps of the records, in some order
abbrev pub FiredTogether : Type 0 → Type 0
FiredTogether X = (fs : Fields) (F : List (List Step)) (w : Watch) (q : List Step) (K : List ℕ) (condition : Node → Bool)
    → StandsFor fs F w q K condition → (xs : List (Reading X)) → AllMean F xs
    → (R : List Node) (T : Tour) (c : Context) → list_all (is_record fs) R ≡ true → moves_of T ≡ walk fs F R
    → IsPermutation (flow (all_fired xs) (left_with (all_left xs)) w (Some (0 ∷ w.chain)) c T)
    (all_means xs (filter_map (kept_along (chain_end q) condition) R))

-- without a condition they make what they mean in the records
abbrev pub AllFiredTogether : Type 0 → Type 0
AllFiredTogether X = (fs : Fields) (F : List (List Step)) → list_all (is_leaf_path fs) F ≡ true → (xs : List (Reading X)) → AllMean F xs
    → (R : List Node) (T : Tour) (c : Context) (w : Watch) → list_all (is_record fs) R ≡ true → moves_of T ≡ walk fs F R
    → IsPermutation (flow (all_fired xs) (left_with (all_left xs)) w None c T) (all_means xs R)
