-- Which records have given columns.
use Rattle.std.specs.Prelude.{◌≡◌, ℕ, List, map}
use Rattle.dr_meaning.specs.Schema.{Fields}
use Rattle.dr_meaning.specs.Path.{Step}
use Rattle.dr_meaning.specs.Record.{Node, project}
use Rattle.dr_meaning.specs.Column.{Triplet}
use Rattle.dr_walk.specs.Walking.{HasColumns}

-- these are the projections to the leaves of such records
abbrev pub AreProjections : Fields → List (List Step) → List (List Triplet) → ℕ → List Node → Type 0
AreProjections fs F C rows P = (R : List Node) × HasColumns fs F C rows R × (P ≡ map (project F) R)
