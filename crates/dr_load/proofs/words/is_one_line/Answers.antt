use Rattle.dr_load.proofs.WordLemmas.{one_line}
use Rattle.dr_load.proofs.words.is_one_line.Goals as goal

pub returns : goal.returns
returns c = one_line c.args.text.now c.memchr.result c.is_none.result c.memchr.ensures c.is_none.ensures
