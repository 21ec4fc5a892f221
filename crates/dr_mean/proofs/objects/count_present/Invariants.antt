use Rattle.std.proofs.Common.{◌≡◌, ◌≤◌, ◌+◌, length, drop}
use Rattle.std.specs.Prelude.{filter, is_some}
use Rattle.dr_rows.specs.Known.{Known}
use Rattle.dr_rows.specs.Views.{rows_view}
use Rattle.dr_mean.proofs.objects.count_present.Given as goal

-- the rows from this one on are still to be counted
abbrev pub invariant-rows : goal.invariant-rows
invariant-rows l = record {
  counted : l.count + length (filter (λ (k : Known). is_some k.end) (drop l.number (rows_view l.rows))) ≡ length (filter (λ (k : Known). is_some k.end) (rows_view l.rows));
  within : l.count ≤ l.number;
}
