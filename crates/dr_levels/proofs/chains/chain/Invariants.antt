use Rattle.std.proofs.Common.{◌≡◌, ◌++◌, map}
use Rattle.dr_meaning.specs.Path.{chain}
use Rattle.dr_nested.specs.PathView.{step_view}
use Rattle.dr_nested.specs.PathView.{lent_path}
use Rattle.dr_levels.proofs.ChainLemmas.{onto, seen, ahead}
use Rattle.dr_levels.proofs.chains.chain.Given as goal

-- the repeated fields from this step on are still to be found
abbrev pub invariant-steps : goal.invariant-steps
invariant-steps l = map lent_path l.repeated.items ++ onto (seen l.steps l.place) (chain (ahead l.steps l.place)) ≡ chain (map step_view l.steps)
