use Rattle.std.proofs.Common.{◌≡◌, ◌<◌, ℕ, map, length}
use Rattle.dr_meaning.specs.Automaton.{transition}
use Rattle.dr_fsm.specs.Tables.{lent_leaf, table_at}
use Rattle.dr_fsm.proofs.table.rows_of.Given as goal

-- the rows so far
abbrev pub invariant-rows : goal.invariant-rows
invariant-rows l = record {
  count : length l.rows.items ≡ l.place;
  exact : (i k : ℕ) → i < l.place → table_at l.rows.items i k ≡ transition (map lent_leaf l.leaves) i k;
}
