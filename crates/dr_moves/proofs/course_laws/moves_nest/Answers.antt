use Rattle.dr_moves.proofs.NestingOfTurns.{moves_nest, moves_begin_walk}
use Rattle.dr_moves.proofs.course_laws.moves_nest.Goals as goal

pub returns : goal.returns
returns c = record { nests = moves_nest; begins = moves_begin_walk }
