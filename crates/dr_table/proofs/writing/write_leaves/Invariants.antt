use Rattle.std.proofs.Common.{◌≡◌, ◌++◌, map, string_bytes, drop}
use Rattle.dr_table.specs.Writing.{leaf_lines_text}
use Rattle.dr_table.proofs.writing.write_leaves.Given as goal

-- the lines so far are written, and the others are still to be
abbrev pub invariant-leaves : goal.invariant-leaves
invariant-leaves l = string_bytes l.text ++ leaf_lines_text (map string_bytes (drop l.leaf-index l.leaves)) ≡ string_bytes l.initial.text ++ leaf_lines_text (map string_bytes l.leaves)
