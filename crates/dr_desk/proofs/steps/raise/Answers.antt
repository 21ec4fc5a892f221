use Rattle.std.proofs.Common.{rules, ◌≡◌, sym, subst, length}
use Rattle.atomic_table.specs.Table.{Me}
use Rattle.dr_dispatch.specs.Seen.{Ascends}
use Rattle.dr_dispatch.specs.Seats.{added}
use Rattle.dr_dispatch.specs.declared.event.Event.{Event}
use Rattle.dr_dispatch.specs.declared.seen.SeatView.{SeatView}
use Rattle.dr_desk.proofs.Allowed.{raises, ascends_added}
use Rattle.dr_desk.proofs.steps.raise.Goals as goal

pub compare_exchange_with-requires : goal.compare_exchange_with-requires
compare_exchange_with-requires c = (search rules, search rules, raises _ _ _ _ _ _ c.requires.keeps c.requires.count)

pub returns-clause-ordered : goal.returns-clause-ordered
returns-clause-ordered c =
    let v = c.args.seat.now.me.0 in
    let view : c.compare_exchange_with.new.seat.me ≡ (added c.args.count c.args.event.now v, c.args.seat.now.me.1) = search rules in
    subst (λ (m : Me Event SeatView). Ascends 0 m.0.own (length m.0.seen)) (sym view) (ascends_added v c.args.count c.args.event.now c.requires.count c.requires.ordered)
