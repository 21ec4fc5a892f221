use Rattle.std.proofs.Common.{◌≡◌}
use Rattle.dr_striper.specs.Striping.{leaves_of}
use Rattle.dr_striper.specs.Stripers.{striped_leaves}
use Rattle.dr_calls.proofs.walks.striped.Given as goal

abbrev pub invariant-lines : goal.invariant-lines
invariant-lines l = striped_leaves l.striper ≡ leaves_of l.fields
