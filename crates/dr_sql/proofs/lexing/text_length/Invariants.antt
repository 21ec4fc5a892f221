use Rattle.std.proofs.Common.{◌≡◌, ◌-◌, ◌++◌, drop, List, ℕ, length}
use Rattle.dr_meaning.specs.TokenLaws.{doubled}
use Rattle.dr_sql.proofs.lexing.text_length.Given as goal

-- so many bytes write a text
abbrev pub invariant-bytes : goal.invariant-bytes
invariant-bytes l = (w : List ℕ) × (length (doubled w) ≡ l.length) × (l.bytes ≡ doubled w ++ drop l.length l.bytes)

abbrev pub decreases-bytes : goal.decreases-bytes
decreases-bytes l = length l.bytes - l.length
