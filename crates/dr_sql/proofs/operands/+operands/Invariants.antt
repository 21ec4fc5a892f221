use Rattle.std.proofs.Common.{◌≡◌, ◌+◌, ◌-◌, ◌*◌}
use Rattle.dr_meaning.specs.Parse as parse
use Rattle.dr_sql.specs.Reads.{unread}
use Rattle.dr_sql.specs.Boxes.{boxed_view}
use Rattle.dr_sql.specs.Precedences.{joining_of, joined_of, operand_of}
use Rattle.dr_sql.proofs.PrecedenceLemmas.{rank}
use Rattle.dr_sql.proofs.operands.+operands.Given as goal

abbrev pub decreases-joined : goal.decreases-joined
decreases-joined l = 16 * l.depth + (rank l.precedence + 1)

abbrev pub decreases-operand : goal.decreases-operand
decreases-operand l = 16 * l.depth + rank l.precedence

abbrev pub decreases-test : goal.decreases-test
decreases-test l = 16 * l.depth + 8

abbrev pub decreases-primary : goal.decreases-primary
decreases-primary l = 16 * l.depth + 2

abbrev pub decreases-nested : goal.decreases-nested
decreases-nested l = 16 * l.depth + 1

-- the operands so far, with those that are left, are the chain
abbrev pub invariant-joined-operators : goal.invariant-joined-operators
invariant-joined-operators l =
    joined_of l.fn.precedence (parse.nested l.fn.depth) (unread l.fn.cursor) ≡
    parse.further_operands (joining_of l.precedence) (operand_of l.precedence (parse.nested l.depth)) (l.end - l.counter) (boxed_view l.left) (unread l.cursor)
