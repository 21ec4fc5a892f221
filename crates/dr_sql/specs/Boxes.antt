-- Expressions that are boxed.
use Rattle.std.specs.Prelude.{◌≡◌, Box, Result, Ok, Err}
use Rattle.std.specs.declared.alloc.Global.{Global}
use Rattle.dr_meaning.specs.Syntax.{ExpressionSyntax}
use Rattle.dr_sql.specs.Views.{expression_view}
use Rattle.dr_sql.specs.declared.expression.Expression.{Expression}
use Rattle.dr_sql.specs.declared.fault.QueryFault.{QueryFault}

abbrev pub boxed_view : Box Expression Global → ExpressionSyntax
boxed_view e = expression_view e.value

-- the box has what was built, or memory is wanting
abbrev pub Built : ExpressionSyntax → Result (Box Expression Global) QueryFault → Type 0
Built meant (Ok e) = boxed_view e ≡ meant
Built meant (Err e) = e ≡ QueryFault.NoMemory
