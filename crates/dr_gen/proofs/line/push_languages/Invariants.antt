use Rattle.std.proofs.Common.{◌≤◌, ◌+◌, ◌*◌, length, vec_capacity}
use Rattle.dr_gen.specs.Generator.{language}
use Rattle.dr_gen.specs.Pieces.{language_text}
use Rattle.dr_gen.proofs.PieceLemmas.{Parts}
use Rattle.dr_gen.proofs.line.push_languages.Given as goal

-- with the languages from this one on it is all of them
abbrev pub invariant-languages : goal.invariant-languages
invariant-languages l = record {
  text : Parts language_text (language l.x l.j) l.count l.k l.fn.line.items l.line.items;
  length : length l.line.items ≤ length l.fn.line.items + 67 * l.k;
  capacity : vec_capacity l.fn.line ≤ vec_capacity l.line;
}
