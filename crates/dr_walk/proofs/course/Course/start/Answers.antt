use Rattle.std.proofs.Common.{ℕ, subst}
use Rattle.dr_moves.specs.Turning.{between}
use Rattle.dr_walk.specs.Views.{items_view}
use Rattle.dr_walk.specs.Standing.{IsSpot, spot_between}
use Rattle.dr_walk.proofs.course.Course.start.Goals as goal

pub returns-clause-stands : goal.returns-clause-stands
returns-clause-stands c = λ top h.
    let e = c.in_ok-start.ensures in
    record { table = h; spot = subst (λ (n : ℕ). IsSpot (items_view c.args.table.items.items) c.in_ok-start.field-0 (between n)) e.rows (spot_between e.stage e.returns e.shut) }
