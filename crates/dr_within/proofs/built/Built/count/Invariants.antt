use Rattle.std.proofs.Common.{◌≡◌, List, length}
use Rattle.dr_made_laws.specs.ObjectFlow.{Made}
use Rattle.dr_made_laws.specs.ObjectFlowLaws.{made_objects}
use Rattle.dr_within.specs.ObjectFraming.{built_in, HoldsBuilt}
use Rattle.dr_within.proofs.RunLemmas.{RunsBehind}
use Rattle.dr_within.proofs.built.Built.count.Given as goal

-- the objects of the runs so far
abbrev pub invariant-runs : goal.invariant-runs
invariant-runs l = (made : List Made) → HoldsBuilt made l.self → RunsBehind l.self.runs.items (built_in made) l.run-index (λ (front : List Made). l.count ≡ length (made_objects front))
