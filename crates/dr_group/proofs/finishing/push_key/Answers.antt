use Rattle.dr_cells.specs.Views.{cells_view}
use Rattle.dr_group.proofs.FinishLemmas.{key_there, no_key}
use Rattle.dr_group.proofs.finishing.push_key.Goals as goal

pub returns-then-number-keys : goal.returns-then-number-keys
returns-then-number-keys c =
    key_there c.push_held.result (cells_view c.args.cells.now) (cells_view c.push_held.new.cells) c.args.keys.now c.args.number c.index-keys-number.result c.if-number-keys.true c.index-keys-number.is c.push_held.ensures

pub returns-else-number-keys : goal.returns-else-number-keys
returns-else-number-keys c = no_key c.push.result (cells_view c.args.cells.now) (cells_view c.push.new.self) c.args.keys.now c.args.number c.if-number-keys.false c.push.ensures
