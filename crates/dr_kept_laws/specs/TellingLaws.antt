-- What is told of the branches of a walk is what the query keeps.
use Rattle.std.specs.Prelude.{◌≡◌, ℕ, List, ◌∷◌, ◌++◌, length, Bool, true, Some}
use Rattle.std.specs.List.{flat_map, list_all, slice_get}
use Rattle.dr_meaning.specs.Schema.{Fields}
use Rattle.dr_meaning.specs.Path.{Step, chain_end, is_leaf_path}
use Rattle.dr_meaning.specs.Record.{Node, is_record}
use Rattle.dr_meaning.specs.Walk.{Move, enter, leave, walk}
use Rattle.dr_kept_laws.specs.ChainNumbers.{chain_numbers}
use Rattle.dr_kept_laws.specs.Leavings.{tour_leavings, record_leavings}
use Rattle.dr_kept_laws.specs.Telling.{Verdict, undecided, nothing_read, watch_moves, told, told_leavings}
use Rattle.dr_moves.specs.Context.{Context}
use Rattle.dr_moves.specs.Tour.{Tour, moves_of}
use Rattle.dr_moves.specs.Condition.{Watch}
use Rattle.dr_moves.specs.Firing.{AllTogether, IsRow}

-- how many branches are open behind these moves
abbrev pub open_count : Watch → List Move → ℕ
open_count w ms = length (watch_moves w nothing_read ms).open_ones

-- a watch stands for a condition of records: the last leaf read is at the end of the path p, the chain is that of p, and the test, which depends
-- on the leaves K alone, all read together with the last, is in each row the condition
pub record StandsFor (fs : Fields) (F : List (List Step)) (w : Watch) (p : List Step) (K : List ℕ) (condition : Node → Bool) : Type 0 where
  pub leaves : list_all (is_leaf_path fs) F ≡ true
  pub last : slice_get F w.last ≡ Some p
  pub chain : w.chain ≡ chain_numbers fs p
  pub together : AllTogether F w.last p K
  pub decides : (d : Context) (row : Node) → IsRow F K d row → w.test d ≡ condition row

-- however the moves of a walk nest, the branches that are left with no true row are those that the query drops
abbrev pub LeavingsAreKept : Type 0
LeavingsAreKept = (fs : Fields) (F : List (List Step)) (w : Watch) (p : List Step) (K : List ℕ) (condition : Node → Bool) → StandsFor fs F w p K condition
    → (R : List Node) (T : Tour) (c : Context) → list_all (is_record fs) R ≡ true → moves_of T ≡ walk fs F R
    → tour_leavings w (Some (0 ∷ w.chain)) c T ≡ flat_map (record_leavings fs F (chain_end p) condition) R

-- what is told at each Leave of a walk is what the query keeps
abbrev pub ToldIsKept : Type 0
ToldIsKept = (fs : Fields) (F : List (List Step)) (w : Watch) (p : List Step) (K : List ℕ) (condition : Node → Bool) → StandsFor fs F w p K condition
    → (R : List Node) → list_all (is_record fs) R ≡ true → told_leavings w (walk fs F R) ≡ flat_map (record_leavings fs F (chain_end p) condition) R

-- what is told of a branch at one of the moves from its Enter on, if it is decided, is what is told at its Leave
abbrev pub DecidedStays : Type 0
DecidedStays = (fs : Fields) (F : List (List Step)) (w : Watch) (p : List Step) (K : List ℕ) (condition : Node → Bool) → StandsFor fs F w p K condition
    → (R : List Node) → list_all (is_record fs) R ≡ true → (before rest : List Move) (k : ℕ) (B : Tour) → walk fs F R ≡ before ++ enter k ∷ (moves_of B ++ leave k ∷ rest)
    → (a d : List Move) (m : Move) (v : Verdict) → enter k ∷ moves_of B ≡ a ++ m ∷ d
    → slice_get (told w (before ++ a) m) (open_count w before) ≡ Some v → (v ≡ undecided → ⊥) → slice_get (told w (before ++ enter k ∷ moves_of B) (leave k)) (open_count w before) ≡ Some v
