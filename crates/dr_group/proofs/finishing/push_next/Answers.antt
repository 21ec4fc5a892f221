use Rattle.dr_cells.specs.Views.{cells_view}
use Rattle.dr_group.proofs.FinishLemmas.{gathered_there}
use Rattle.dr_group.proofs.finishing.push_next.Goals as goal

pub returns-then-number-accumulators : goal.returns-then-number-accumulators
returns-then-number-accumulators c =
    gathered_there c.push_result.result (cells_view c.args.cells.now) (cells_view c.push_result.new.cells) c.args.accumulators.now c.args.number c.index-accumulators-number.result
    c.if-number-accumulators.true c.index-accumulators-number.is c.push_result.ensures
