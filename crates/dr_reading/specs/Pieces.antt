-- The pieces of a query that is served: which one is kept of each tablet.
use Rattle.std.specs.Prelude.{ℕ, zero, suc, ◌==◌, List, [], ◌∷◌, if◌then◌else◌}
use Rattle.dr_partials.specs.Partials.{Partial, lines}
use Rattle.dr_reading.specs.Scan.{Copy}
use Rattle.dr_reading.specs.Truth.{IsTrueOf}
use Rattle.dr_reading.specs.Outcome.{Serving, truth_of}

-- the partial of a tablet
pub record TabletPiece : Type 0 where
  pub tablet : ℕ
  pub partial : Partial

-- the copies of the tablet t, none where there is no such tablet
abbrev pub copies_at : List (List Copy) → ℕ → List Copy
copies_at [] t = []
copies_at (copies ∷ rest) zero = copies
copies_at (copies ∷ rest) (suc t) = copies_at rest t

-- a piece is true of the tablet t
abbrev pub IsTrueAt : Serving → ℕ → TabletPiece → Type 0
IsTrueAt s t p = IsTrueOf (truth_of s (copies_at s.tablets t)) p.partial

-- the partial that is kept of a tablet; of one without a piece no lines
abbrev pub kept_partial : List TabletPiece → ℕ → Partial
kept_partial [] t = lines []
kept_partial (p ∷ ps) t = if p.tablet == t then p.partial else kept_partial ps t
