use Rattle.dr_tree.proofs.AppendLemmas.{appended}
use Rattle.dr_tree.proofs.waiting.append_lines.Goals as goal

pub returns-in-Some-clause-lines : goal.returns-in-Some-clause-lines
returns-in-Some-clause-lines c = appended c.append.result c.args.rows.now c.append.new.self c.in-Some.lines c.args.lines c.in-Some.is c.append.ensures.rows
