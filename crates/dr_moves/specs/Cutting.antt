-- Append and cut: what each move makes is appended, and cut off again where the branch that is left was dropped.
use Rattle.std.specs.Prelude.{◌≡◌, ℕ, List, [], ◌∷◌, ◌++◌, map, length, take, drop, Bool, false, ◌&&◌, ◌||◌, ◌==◌, if◌then◌else◌, Option}
use Rattle.dr_meaning.specs.Walk.{Move, enter, value, leave}
use Rattle.dr_moves.specs.Context.{Context, with_value}
use Rattle.dr_moves.specs.Tour.{Tour, over, saw, inside, moves_of, after}
use Rattle.dr_moves.specs.Condition.{Watch, some_true, rest_below, is_dropped}

-- what the moves that are kept make, in order: at a triplet something is appended; where an instance is left, what was made in it is made into something else
abbrev pub flow : {A : Type 0} → (ℕ → Context → List A) → (ℕ → Context → List A → List A) → Watch → Option (List ℕ) → Context → Tour → List A
flow seen left w r c over = []
flow seen left w r c (saw i t T) = seen i (with_value i t.value c) ++ flow seen left w r (with_value i t.value c) T
flow seen left w r c (inside k B T) =
    (if is_dropped (rest_below k r) (some_true w c B) then [] else left k (after c B) (flow seen left w (rest_below k r) c B))
    ++ flow seen left w r (after c B) T

-- ---- one move after another

-- an open branch: the rest of the chain where it is on it, whether a row of it was true, and how much had been made when it began
pub record Branch : Type 0 where
  pub rest : Option (List ℕ)
  pub hit : Bool
  pub mark : ℕ

-- where one is: the context, what was made, and the open branches, the innermost first
pub record Going (A : Type 0) : Type 0 where
  pub context : Context
  pub made : List A
  pub branches : List Branch

-- all open branches have a true row, where there is one
abbrev pub hit_all : Bool → List Branch → List Branch
hit_all h bs = map (λ (b : Branch). record b { hit = b.hit || h }) bs

-- the rest of the chain in the innermost branch, or where none is open
abbrev pub rest_of : Option (List ℕ) → List Branch → Option (List ℕ)
rest_of r [] = r
rest_of r (b ∷ bs) = b.rest

-- out of the innermost branch
abbrev pub left_branch : {A : Type 0} → (ℕ → Context → List A → List A) → ℕ → Going A → List Branch → Going A
left_branch left k g [] = g
left_branch left k g (b ∷ bs) = record {
  context = g.context;
  branches = bs;
  made = if is_dropped b.rest b.hit then take b.mark g.made else take b.mark g.made ++ left k g.context (drop b.mark g.made);
}

-- one move
abbrev pub go : {A : Type 0} → (ℕ → Context → List A) → (ℕ → Context → List A → List A) → Watch → Option (List ℕ) → Move → Going A → Going A
go seen left w r (enter k) g = record { context = g.context; made = g.made; branches = record { rest = rest_below k (rest_of r g.branches); hit = false; mark = length g.made } ∷ g.branches }
go seen left w r (value i t) g = record {
  context = with_value i t.value g.context;
  made = g.made ++ seen i (with_value i t.value g.context);
  branches = hit_all ((i == w.last) && w.test (with_value i t.value g.context)) g.branches;
}
go seen left w r (leave k) g = left_branch left k g g.branches

-- moves, one after another
abbrev pub go_all : {A : Type 0} → (ℕ → Context → List A) → (ℕ → Context → List A → List A) → Watch → Option (List ℕ) → List Move → Going A → Going A
go_all seen left w r [] g = g
go_all seen left w r (m ∷ ms) g = go_all seen left w r ms (go seen left w r m g)

-- behind a tour: what the kept moves make was appended, and each open branch in which a row was true knows it
abbrev pub behind : {A : Type 0} → (ℕ → Context → List A) → (ℕ → Context → List A → List A) → Watch → Option (List ℕ) → Going A → Tour → Going A
behind seen left w r g T = record {
  context = after g.context T;
  made = g.made ++ flow seen left w (rest_of r g.branches) g.context T;
  branches = hit_all (some_true w g.context T) g.branches;
}

-- append and cut come to what the kept moves make
abbrev pub AppendAndCut : Type 0 → Type 0
AppendAndCut A = (seen : ℕ → Context → List A) (left : ℕ → Context → List A → List A) (w : Watch) (r : Option (List ℕ)) (T : Tour) (g : Going A) → go_all seen left w r (moves_of T) g ≡ behind seen left w r g T
