use Rattle.std.proofs.Common.{sym, ◌∙◌}
use Rattle.dr_meaning.specs.Parse.{nested}
use Rattle.dr_sql.specs.Reads.{unread}
use Rattle.dr_sql.specs.Boxes.{boxed_view}
use Rattle.dr_sql.specs.Precedences.{joining_of, joining_view, operand_of}
use Rattle.dr_sql.proofs.LoopLemmas.{one_operand_more}
use Rattle.dr_sql.proofs.operands.+operands.Goals as goal

pub joined-operators-preserved : goal.joined-operators-preserved
joined-operators-preserved t c = c.operators.invariant ∙ one_operand_more (joining_of c.args.precedence) (operand_of c.args.precedence (nested c.args.depth)) c.left-end.result c.operators.counter c.in_ok-place.place (joining_view c.in-Some.joining)
    (boxed_view c.operators.left) _ _ (unread c.operators.cursor) _ _ c.operators-test.true (sym c.in-Some.ensures) c.in_ok-place.ensures c.in_ok-right.ensures
    (c.in_ok-left-2.ensures ∙ c.joined.ensures)
