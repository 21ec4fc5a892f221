-- How the precedences of operators stand above one another, and which tokens are their operators.
use Rattle.std.specs.Prelude.{ℕ}
use Rattle.dr_sql.specs.declared.precedence.Precedence.{Precedence}

-- above what a precedence's operands are made of, and two apart where one precedence's operands are the next
abbrev pub rank : Precedence → ℕ
rank Precedence.Or = 12
rank Precedence.And = 10
rank Precedence.Sum = 6
rank Precedence.Product = 4
