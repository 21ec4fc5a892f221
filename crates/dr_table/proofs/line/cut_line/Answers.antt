use Rattle.dr_table.proofs.LineLemmas.{line_is_cut}
use Rattle.dr_table.proofs.line.cut_line.Goals as goal

pub returns : goal.returns
returns c = line_is_cut c.args.text.now c.split_once.result c.split_once.ensures.cases
