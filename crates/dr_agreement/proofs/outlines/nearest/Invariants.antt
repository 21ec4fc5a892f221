use Rattle.std.proofs.Common.{◌≡◌}
use Rattle.dr_nested.specs.PathView.{paths_view}
use Rattle.dr_agreement.proofs.OutlinedLemmas.{NearestUpTo}
use Rattle.dr_agreement.proofs.outlines.nearest.Given as goal

-- the nearest of those before this one
abbrev pub invariant-earlier : goal.invariant-earlier
invariant-earlier l = record {
  best : NearestUpTo (paths_view l.leaves) l.leaf l.earlier l.best;
  leaf : l.best.leaf ≡ l.leaf;
}
