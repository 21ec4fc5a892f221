use Rattle.std.proofs.Common.{◌≡◌, ◌++◌, List}
use Rattle.dr_made_laws.specs.ObjectFlow.{Made}
use Rattle.dr_within.specs.ObjectFraming.{AreRuns}
use Rattle.dr_within.proofs.RunLemmas.{RunsBehind}
use Rattle.dr_within.proofs.built.Built.append.Given as goal

-- the runs so far are behind the others
abbrev pub invariant-runs : goal.invariant-runs
invariant-runs l = record {
  cells : l.self.cells ≡ l.initial.self.cells;
  runs : (ms others : List Made) → AreRuns l.initial.self.runs.items ms → AreRuns l.more.runs.items others
      → RunsBehind l.more.runs.items others l.run-index (λ (front : List Made). AreRuns l.self.runs.items (ms ++ front));
}
