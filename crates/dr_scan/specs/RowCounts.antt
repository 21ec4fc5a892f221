-- Aggregates that count rows.
use Rattle.std.specs.Prelude.{Bool, true, false}
use Rattle.dr_plan.specs.declared.aggregate.Aggregate.{Aggregate}

-- COUNT(*)
abbrev pub counts_rows : Aggregate → Bool
counts_rows Aggregate.Rows = true
counts_rows (Aggregate.Of f e) = false
