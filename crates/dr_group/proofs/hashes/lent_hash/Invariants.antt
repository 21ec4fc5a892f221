use Rattle.std.proofs.Common.{◌≡◌, map, drop}
use Rattle.std.specs.List.{fold}
use Rattle.std.specs.Hash.FoldHasher as folding
use Rattle.dr_group.specs.Views.{lent_cell}
use Rattle.dr_group.specs.Hashes.{tuple_writes}
use Rattle.dr_group.proofs.hashes.lent_hash.Given as goal

-- the cells from this one on are still to be hashed
abbrev pub invariant-cells : goal.invariant-cells
invariant-cells l = fold folding.write l.hasher (tuple_writes (map lent_cell (drop l.cell-index l.key))) ≡ fold folding.write folding.initial (tuple_writes (map lent_cell l.key))
