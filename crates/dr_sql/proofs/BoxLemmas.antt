-- Where what was read is boxed.
use Rattle.std.specs.Prelude.{◌≡◌, Box, Result, Ok, Err}
use Rattle.std.specs.declared.alloc.Global.{Global}
use Rattle.std.proofs.Common.{sym, ap, subst, ◌∙◌}
use Rattle.dr_meaning.specs.Syntax.{ExpressionSyntax}
use Rattle.dr_meaning.specs.Parse.{Unread, Parsed, got}
use Rattle.dr_sql.specs.Boxes.{boxed_view, Built}
use Rattle.dr_sql.specs.Reads.{Reads, IsFaultOf}
use Rattle.dr_sql.specs.declared.expression.Expression.{Expression}
use Rattle.dr_sql.specs.declared.fault.QueryFault.{QueryFault}

-- what is built of what was read is what is read
pub reads_built : (b : ExpressionSyntax) (meant : Parsed ExpressionSyntax) (w : Unread) (r : Result (Box Expression Global) QueryFault) → Built b r → meant ≡ got b w
    → Reads boxed_view meant w r
reads_built b meant w (Ok e) h m = m ∙ ap (λ x. got x w) (sym h)
reads_built b meant w (Err f) h m =
    let P : QueryFault → Type 0 = λ f. IsFaultOf f meant in
    subst P (sym h) tt
