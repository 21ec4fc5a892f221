use Rattle.dr_session.specs.Talking.{TalkStops}
use Rattle.dr_session.specs.declared.talking.TalkFault.{TalkFault}
use Rattle.dr_session.proofs.TalkLemmas.{err_is, wants_at_once}
use Rattle.dr_session.proofs.talking.talk_on.Goals as goal

pub returns-in_err-session-clause-stopped : goal.returns-in_err-session-clause-stopped
returns-in_err-session-clause-stopped g c =
    let source = g.S.Source.shows c.args.source.now in
    let out = g.O.Sink.shows c.args.out.now in
    err_is (TalkStops g.B.Room.schema source source out out) _ TalkFault.NoMemory c.from_residual.ensures.1 (wants_at_once g.B.Room.schema source out)
