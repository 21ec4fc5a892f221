use Rattle.std.proofs.Common.{◌≤◌, ◌+◌, ◌*◌, length, vec_capacity}
use Rattle.dr_meaning.specs.Print.{atom_text}
use Rattle.dr_gen.specs.Generator.{number}
use Rattle.dr_gen.proofs.PieceLemmas.{Parts}
use Rattle.dr_gen.proofs.line.push_numbers.Given as goal

-- with the numbers from this one on it is all of them
abbrev pub invariant-numbers : goal.invariant-numbers
invariant-numbers l = record {
  text : Parts atom_text (λ j. number (l.first + j)) l.count l.place l.fn.line.items l.line.items;
  length : length l.line.items ≤ length l.fn.line.items + 21 * l.place;
  capacity : vec_capacity l.fn.line ≤ vec_capacity l.line;
}
