use Rattle.std.proofs.Common.{◌≡◌, drop}
use Rattle.dr_walk.specs.Views.{gates_view}
use Rattle.dr_walk.specs.Seen.{next_definitions}
use Rattle.dr_walk.specs.Seen.{first_shut as meant_shut}
use Rattle.dr_walk.proofs.heads.first_shut.Given as goal

-- the gates before this one are open
abbrev pub invariant-gates : goal.invariant-gates
invariant-gates l = meant_shut (next_definitions l.heads) (gates_view l.gates) ≡ meant_shut (next_definitions l.heads) (gates_view (drop l.gate-index l.gates))
