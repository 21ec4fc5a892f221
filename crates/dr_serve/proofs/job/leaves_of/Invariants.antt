use Rattle.std.specs.Prelude.{◌≡◌}
use Rattle.dr_reading.specs.Scan.{copies_from}
use Rattle.dr_table.specs.Views.{table_view}
use Rattle.dr_serve.specs.Working.{directories_of}
use Rattle.dr_serve.proofs.job.leaves_of.Given as goal

-- the copies before this one have their leaves
abbrev pub invariant-copies : goal.invariant-copies
invariant-copies l = l.leaves.items ≡ directories_of (copies_from (table_view l.table).leaves l.tablet 0 l.copy)
