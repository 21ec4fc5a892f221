-- Which rows fire at which leaf.
use Rattle.std.specs.Prelude.{◌≡◌, ◌<◌, ℕ, List, [], map, length, get_or, ◌==◌, if◌then◌else◌, Some, None}
use Rattle.std.specs.declared.vec.Vec.{Vec}
use Rattle.std.specs.declared.alloc.Global.{Global}
use Rattle.dr_within.specs.Takings.{Take, takings_view, firing_at}
use Rattle.dr_within.specs.declared.taking.Taking.{Taking}
use Rattle.dr_within.specs.declared.firing.Firing.{Firing}

-- those at each of some leaves
abbrev pub each_view : List (Vec Taking Global) → List (List Take)
each_view vs = map (λ (v : Vec Taking Global). takings_view v.items) vs

-- those at a leaf
abbrev pub firing_in : Firing → ℕ → List Take
firing_in f i = get_or (each_view f.at_leaf.items) i []

-- those where the record, or an instance of a repeated field, is left
abbrev pub leaving_in : Firing → ℕ → List Take
leaving_in f k = if k == 0 then takings_view f.at_end.items else []

-- of these, by the numbers of the keys' leaves, at each of so many leaves and at none those are here that fire there
pub record Fires (n : ℕ) (keys : List ℕ) (ts : List Take) (f : Firing) : Type 0 where
  pub count : length f.at_leaf.items ≡ n
  pub leaf : (i : ℕ) → i < n → firing_in f i ≡ firing_at keys (Some i) ts
  pub end : takings_view f.at_end.items ≡ firing_at keys None ts
