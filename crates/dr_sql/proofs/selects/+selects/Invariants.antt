use Rattle.std.proofs.Common.{◌+◌, ◌*◌}
use Rattle.dr_sql.proofs.selects.+selects.Given as goal

abbrev pub decreases-in_parentheses : goal.decreases-in_parentheses
decreases-in_parentheses l = 3 * l.depth

abbrev pub decreases-from_clause : goal.decreases-from_clause
decreases-from_clause l = 3 * l.depth + 1

abbrev pub decreases-select : goal.decreases-select
decreases-select l = 3 * l.depth + 2
