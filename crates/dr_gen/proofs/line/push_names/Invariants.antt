use Rattle.std.proofs.Common.{◌≤◌, ◌+◌, ◌*◌, length, vec_capacity}
use Rattle.dr_gen.specs.Generator.{name}
use Rattle.dr_gen.specs.Pieces.{name_text}
use Rattle.dr_gen.proofs.PieceLemmas.{Parts}
use Rattle.dr_gen.proofs.line.push_names.Given as goal

-- with the names from this one on it is all of them
abbrev pub invariant-names : goal.invariant-names
invariant-names l = record {
  text : Parts name_text (name l.x) l.count l.j l.fn.line.items l.line.items;
  length : length l.line.items ≤ length l.fn.line.items + 255 * l.j;
  capacity : vec_capacity l.fn.line ≤ vec_capacity l.line;
}
