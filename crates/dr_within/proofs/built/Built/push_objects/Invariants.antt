use Rattle.std.proofs.Common.{List}
use Rattle.dr_made_laws.specs.ObjectFlow.{Made}
use Rattle.dr_cells.specs.Views.{cells_view}
use Rattle.dr_within.specs.ObjectFraming.{built_in, HoldsBuilt}
use Rattle.dr_within.proofs.RunLemmas.{Copied, RunsBehind}
use Rattle.dr_within.proofs.built.Built.push_objects.Given as goal

-- the cells of the objects of the level in the runs so far
abbrev pub invariant-runs : goal.invariant-runs
invariant-runs l = (made : List Made) → HoldsBuilt made l.self
    → RunsBehind l.self.runs.items (built_in made) l.run-index (λ (front : List Made). Copied l.level (cells_view l.initial.cells) (cells_view l.cells) l.start front)
