-- What is known of the open branches of a walk.
use Rattle.std.specs.Prelude.{ℕ, zero, suc, List, [], ◌∷◌, ◌==◌, if◌then◌else◌}
use Rattle.std.specs.Int.{bit_at}
use Rattle.dr_levels.specs.declared.kept.Branch.{Branch}
use Rattle.dr_levels.specs.declared.kept.Kept.{Kept}

-- what is known of the branch at a place
abbrev pub branch_at : Kept → ℕ → Branch
branch_at k i = if bit_at k.undecided i == 1 then Branch.Undecided else if bit_at k.dropped i == 1 then Branch.Dropped else Branch.Kept

-- the n branches from a place on
abbrev pub branches_from : Kept → ℕ → ℕ → List Branch
branches_from k i zero = []
branches_from k i (suc n) = branch_at k i ∷ branches_from k (suc i) n

-- so many open branches, outermost first
abbrev pub kept_view : ℕ → Kept → List Branch
kept_view n k = branches_from k 0 n
