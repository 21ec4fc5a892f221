use Rattle.std.proofs.Common.{ap}
use Rattle.dr_meaning.specs.Record.{atom}
use Rattle.dr_meaning.specs.JsonRecord.{then_give}
use Rattle.dr_levels.specs.Views.{lent_value}
use Rattle.dr_json.specs.Held.{leaf_held}
use Rattle.dr_json.proofs.check.check_leaf.Goals as goal

pub returns : goal.returns
returns c =
    let e = c.in_ok-lent_leaf.ensures in
    (atom (lent_value c.in_ok-lent_leaf.field-0), ap (then_give atom) e, ap leaf_held e, c.lent_size.ensures)
