use Rattle.std.proofs.Common.{◌≡◌, ℕ, ◌-◌, Option, length}
use Rattle.dr_meaning.specs.Column.{Triplet}
use Rattle.dr_moves.specs.Course.{Items}
use Rattle.dr_moves.specs.Turning.{Stack}
use Rattle.dr_walk.specs.Seen.{AreLevelsOf}
use Rattle.dr_walk.specs.Standing.{Stands, GoesOn}
use Rattle.dr_walk.proofs.course.Course.step.Given as goal

abbrev pub decreases-turns : goal.decreases-turns
decreases-turns l = length l.self.table.items.items - l.self.spot.here.place

-- so far no move was made
abbrev pub invariant-turns : goal.invariant-turns
invariant-turns l = record {
  heads : l.self.heads.items ≡ l.fn.self.heads.items;
  comes : (top : Items) (S : Stack) (ts : ℕ → Option Triplet) → Stands top l.fn.self S → AreLevelsOf l.fn.self.heads.items ts → (V : Stack) × GoesOn top ts S V × Stands top l.self V;
}
