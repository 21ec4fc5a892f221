use Rattle.std.proofs.Common.{rules}
use Rattle.dr_columns.proofs.FiringLemmas.{taking_pushed, taking_left}
use Rattle.dr_columns.proofs.firing.push_taking.Goals as goal

pub returns-in_ok-push : goal.returns-in_ok-push
returns-in_ok-push c = taking_pushed c.args.takings.now.items c.push.new.self.items c.args.taking c.args.keys.now c.args.leaf c.in_ok-push.ensures.items (search rules)

pub returns-else-is_same : goal.returns-else-is_same
returns-else-is_same c = taking_left c.args.takings.now.items c.args.taking c.args.keys.now c.args.leaf (search rules)
