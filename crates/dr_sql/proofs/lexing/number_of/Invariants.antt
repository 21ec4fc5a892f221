use Rattle.std.proofs.Common.{◌≡◌, ◌≤◌, drop}
use Rattle.dr_meaning.specs.TokenLaws.{digits_value}
use Rattle.dr_sql.specs.Lexing.{bounded}
use Rattle.dr_meaning.specs.Tokens.{greatest_number}
use Rattle.dr_sql.proofs.lexing.number_of.Given as goal

-- the number so far, with the digits that are left, is the number
abbrev pub invariant-digits : goal.invariant-digits
invariant-digits l = (bounded (digits_value 0 l.digits) ≡ bounded (digits_value l.number (drop l.digit-index l.digits))) × (l.number ≤ greatest_number)
