use Rattle.std.specs.Prelude.{◌≡◌, map}
use Rattle.dr_reading.specs.Scan.{tablets_from}
use Rattle.dr_table.specs.Views.{table_view}
use Rattle.dr_serve.specs.Working.{directories_of}
use Rattle.dr_serve.proofs.job.job_of.Given as goal

-- the tablets before this one have their leaves
abbrev pub invariant-tablets : goal.invariant-tablets
invariant-tablets l = map (λ v. v.items) l.leaves.items ≡ map directories_of (tablets_from (table_view l.table).leaves l.table.copies 0 l.tablet)
