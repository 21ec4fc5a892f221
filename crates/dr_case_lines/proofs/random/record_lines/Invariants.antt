use Rattle.std.proofs.Common.{◌≡◌, length}
use Rattle.dr_case_lines.proofs.random.record_lines.Given as goal

abbrev pub invariant-lines : goal.invariant-lines
invariant-lines l = length l.lines.items ≡ l.number
