use Rattle.std.proofs.Common.{map, drop, string_bytes}
use Rattle.dr_cells.specs.Views.{cells_view}
use Rattle.dr_print.proofs.PartLemmas.{Values}
use Rattle.dr_print.proofs.object_text.push_values.Given as goal

-- the values from this one on are still to join
abbrev pub invariant-names : goal.invariant-names
invariant-names l = Values (map string_bytes l.names) (drop l.at (cells_view l.cells)) l.number (string_bytes l.fn.text) (string_bytes l.text)
