use Rattle.std.proofs.Common.{arith}
use Rattle.dr_board.proofs.AnsweredLemmas.{chosen_behind}
use Rattle.dr_board.proofs.choosing.choose.Goals as goal

pub tablets-init : goal.tablets-init
tablets-init c = (chosen_behind c.args.lag c.args.count c.args.start c.args.tablets.now c.requires.answered, omega arith, omega arith, omega arith, omega arith)
