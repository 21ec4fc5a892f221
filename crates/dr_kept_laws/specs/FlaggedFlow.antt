-- What kept moves make, by a flag for each branch in the order in which they are left: so the condition has no part in it any more.
use Rattle.std.specs.Prelude.{◌≡◌, ℕ, suc, ◌+◌, List, [], ◌∷◌, ◌++◌, map, drop, Bool, true, false, if◌then◌else◌, Some}
use Rattle.std.specs.List.{flat_map, list_all}
use Rattle.dr_meaning.specs.Schema.{Fields}
use Rattle.dr_meaning.specs.Path.{Step, chain_end}
use Rattle.dr_meaning.specs.Record.{Node, is_record}
use Rattle.dr_meaning.specs.Walk.{walk}
use Rattle.dr_kept_laws.specs.Leavings.{Leaving, record_leavings}
use Rattle.dr_kept_laws.specs.TellingLaws.{StandsFor}
use Rattle.dr_moves.specs.Context.{Context, with_value}
use Rattle.dr_moves.specs.Tour.{Tour, over, saw, inside, moves_of, after}
use Rattle.dr_moves.specs.Condition.{Watch}
use Rattle.dr_moves.specs.Cutting.{flow}
use Rattle.dr_meaning.specs.Lists.{first_answer}

-- how many branches a tour leaves
abbrev pub branch_count : Tour → ℕ
branch_count over = 0
branch_count (saw i t T) = branch_count T
branch_count (inside k B T) = branch_count B + suc (branch_count T)

-- a branch whose flag is true makes nothing
abbrev pub flagged_flow : {A : Type 0} → (ℕ → Context → List A) → (ℕ → Context → List A → List A) → List Bool → Context → Tour → List A
flagged_flow seen left flags c over = []
flagged_flow seen left flags c (saw i t T) = seen i (with_value i t.value c) ++ flagged_flow seen left flags (with_value i t.value c) T
flagged_flow seen left flags c (inside k B T) =
    (if first_answer (drop (branch_count B) flags) then [] else left k (after c B) (flagged_flow seen left flags c B))
    ++ flagged_flow seen left (drop (suc (branch_count B)) flags) (after c B) T

-- the flags of some branches
abbrev pub flags_of : List Leaving → List Bool
flags_of ls = map (λ (l : Leaving). l.dropped) ls

-- over the walk of records the flags are those of the branches that the query drops
abbrev pub FlowIsKept : Type 0 → Type 0
FlowIsKept A = (seen : ℕ → Context → List A) (left : ℕ → Context → List A → List A) (fs : Fields) (F : List (List Step)) (w : Watch) (p : List Step) (K : List ℕ)
    (condition : Node → Bool) → StandsFor fs F w p K condition → (R : List Node) (T : Tour) (c : Context) → list_all (is_record fs) R ≡ true → moves_of T ≡ walk fs F R
    → flow seen left w (Some (0 ∷ w.chain)) c T ≡ flagged_flow seen left (flags_of (flat_map (record_leavings fs F (chain_end p) condition) R)) c T
