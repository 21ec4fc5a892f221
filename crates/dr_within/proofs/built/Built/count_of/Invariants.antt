use Rattle.std.proofs.Common.{◌≡◌, List, length}
use Rattle.dr_made_laws.specs.ObjectFlow.{Made, objects_for}
use Rattle.dr_within.specs.ObjectFraming.{built_in, HoldsBuilt}
use Rattle.dr_within.proofs.RunLemmas.{RunsBehind}
use Rattle.dr_within.proofs.built.Built.count_of.Given as goal

-- the objects of the level in the runs so far
abbrev pub invariant-runs : goal.invariant-runs
invariant-runs l = (made : List Made) → HoldsBuilt made l.self → RunsBehind l.self.runs.items (built_in made) l.run-index (λ (front : List Made). l.count ≡ length (objects_for l.level front))
