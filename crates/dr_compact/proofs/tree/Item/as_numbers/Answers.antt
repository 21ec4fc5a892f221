use Rattle.dr_compact.proofs.LookLemmas.{no_list_of_numbers}
use Rattle.dr_compact.proofs.tree.Item.as_numbers.Goals as goal

pub returns-in_default : goal.returns-in_default
returns-in_default c = no_list_of_numbers c.args.self.now c.in_default.not-List
