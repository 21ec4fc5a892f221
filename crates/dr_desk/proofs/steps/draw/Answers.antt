use Rattle.std.proofs.Common.{rules, ◌+◌, refl, sym, subst}
use Rattle.std.specs.Prelude.{◌==◌, if◌then◌else◌}
use Rattle.atomic_table.specs.Table.{Me}
use Rattle.dr_dispatch.specs.Seen.{Ascends}
use Rattle.dr_dispatch.specs.declared.event.Event.{Event}
use Rattle.dr_dispatch.specs.declared.seen.SeatView.{SeatView}
use Rattle.dr_desk.proofs.Allowed.{draws, ascends_drawn}
use Rattle.dr_desk.proofs.steps.draw.Goals as goal

pub compare_exchange-requires : goal.compare_exchange-requires
compare_exchange-requires c = (search rules, search rules, draws _ _ _ _ _ c.requires.rests c.requires.tablet)

pub returns-clause-ordered : goal.returns-clause-ordered
returns-clause-ordered c =
    let v = c.args.seat.now.me.0 in
    let found = c.compare_exchange.result in
    subst (λ (m : Me Event SeatView). Ascends 0 m.0.drawn (if found == c.args.next then c.args.next + 1 else found)) (sym c.compare_exchange.ensures.2.0)
    (ascends_drawn v c.args.next found c.requires.ordered c.compare_exchange.ensures.2.1 (found == c.args.next) refl)
