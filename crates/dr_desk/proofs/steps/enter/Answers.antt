use Rattle.std.proofs.Common.{rules, ◌≡◌, sym, subst, length}
use mathlib.Core.List.{IsPrefix}
use Rattle.atomic_table.specs.Table.{Me}
use Rattle.dr_dispatch.specs.Seen.{Ascends}
use Rattle.dr_dispatch.specs.Seats.{handed, looked}
use Rattle.dr_dispatch.specs.declared.event.Event.{Event}
use Rattle.dr_dispatch.specs.declared.seen.SeatView.{SeatView}
use Rattle.dr_desk.proofs.Allowed.{hands, ascends_entered}
use Rattle.dr_desk.proofs.steps.enter.Goals as goal

pub join_seat-requires : goal.join_seat-requires
join_seat-requires c = (search rules, search rules, search rules, search rules, hands _ _ _ _ _ c.requires.keeper.2)

pub returns-clause-ordered : goal.returns-clause-ordered
returns-clause-ordered c =
    let v = c.args.seat.now.me.0 in
    let w = c.args.keeper.me.0 in
    let earlier : IsPrefix v.seen w.seen = search rules in
    let view : c.look.new.seat.me ≡ (looked (handed v w), c.args.seat.now.me.1) = search rules in
    subst (λ (m : Me Event SeatView). Ascends 0 m.0.own (length m.0.seen)) (sym view) (ascends_entered v w c.requires.keeper.3 earlier c.requires.ordered)
