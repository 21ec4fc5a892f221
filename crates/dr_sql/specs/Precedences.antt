-- The precedences of operators that join operands, and the nestings, in the definitions' words.
use Rattle.std.specs.Prelude.{ℕ, Option, option_and_then, Box}
use Rattle.std.specs.declared.alloc.Global.{Global}
use Rattle.dr_meaning.specs.Tokens.{QueryToken}
use Rattle.dr_meaning.specs.Syntax.{ExpressionSyntax, disjunction, conjunction, arithmetic, comparison}
use Rattle.dr_meaning.specs.Parse as parse
use Rattle.dr_sql.specs.Views.{arithmetic_view, comparison_view}
use Rattle.dr_sql.specs.Boxes.{boxed_view}
use Rattle.dr_sql.specs.declared.precedence.Precedence.{Precedence}
use Rattle.dr_sql.specs.declared.precedence.Joining.{Joining}
use Rattle.dr_sql.specs.declared.nesting.Nesting.{Nesting}
use Rattle.dr_sql.specs.declared.expression.Expression.{Expression}

-- which tokens join operands of a precedence
abbrev pub joining_of : Precedence → QueryToken → Option parse.Joining
joining_of Precedence.Or = parse.or_in
joining_of Precedence.And = parse.and_in
joining_of Precedence.Sum = parse.sum_in
joining_of Precedence.Product = parse.product_in

-- what the operands of a precedence are
abbrev pub operand_of : Precedence → parse.Inner → parse.Production ExpressionSyntax
operand_of Precedence.Or = parse.and_of
operand_of Precedence.And = parse.not_of
operand_of Precedence.Sum = parse.product_of
operand_of Precedence.Product = parse.unary

-- the operands of a precedence, joined by its operators
abbrev pub joined_of : Precedence → parse.Inner → parse.Production ExpressionSyntax
joined_of precedence inner = parse.operands (joining_of precedence) (operand_of precedence inner)

-- the operator of a precedence that the next token is
abbrev pub next_joining : Precedence → parse.Unread → Option parse.Joining
next_joining precedence u = option_and_then (joining_of precedence) (parse.first_token u.tokens)

-- from the place of an operator and its operands to their expression
abbrev pub joining_view : Joining → parse.Joining
joining_view Joining.Or = disjunction
joining_view Joining.And = conjunction
joining_view (Joining.Arithmetic o) = λ i. arithmetic i (arithmetic_view o)
joining_view (Joining.Comparison o) = λ i. comparison i (comparison_view o)

-- what an operator makes of its place and two expressions
abbrev pub joined_view : Joining → ℕ → Box Expression Global → Box Expression Global → ExpressionSyntax
joined_view joining place left right = joining_view joining place (boxed_view left) (boxed_view right)

-- what opens a nesting
abbrev pub nesting_view : Nesting → parse.Nesting
nesting_view Nesting.Parenthesis = parse.parenthesized
nesting_view Nesting.Not = parse.negated
nesting_view Nesting.Minus = parse.signed
