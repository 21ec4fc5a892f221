use Rattle.std.proofs.Common.{◌≡◌, map}
use Rattle.std.specs.Prelude.{replicate}
use Rattle.dr_within.specs.Rows.{last_value}
use Rattle.dr_within.proofs.RowLemmas.{no_value}
use Rattle.dr_within.proofs.last_read.LastRead.new.Given as goal

-- so many NULLs
abbrev pub invariant-leaves : goal.invariant-leaves
invariant-leaves l = map last_value l.values.items ≡ replicate l.counter no_value
