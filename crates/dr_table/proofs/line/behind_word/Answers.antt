use Rattle.dr_table.proofs.LineLemmas.{prefix_is_stripped}
use Rattle.dr_table.proofs.line.behind_word.Goals as goal

pub returns : goal.returns
returns c = prefix_is_stripped c.args.word.now c.args.line.now c.strip_prefix.result c.strip_prefix.ensures.cases
