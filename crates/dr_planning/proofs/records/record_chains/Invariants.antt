use Rattle.std.proofs.Common.{◌≡◌, ◌++◌, map, drop}
use Rattle.dr_nested.specs.PathView.{lent_path}
use Rattle.dr_planning.specs.Planning.{record_chains}
use Rattle.dr_planning.proofs.records.record_chains.Given as goal

-- the chains of the items from this one on are still to join
abbrev pub invariant-items : goal.invariant-items
invariant-items l = map lent_path l.chains.items ++ record_chains (drop l.item-index l.items) ≡ record_chains l.items
