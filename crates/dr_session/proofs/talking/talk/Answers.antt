use Rattle.dr_nested.specs.SchemaView.{schema_view}
use Rattle.dr_session.specs.Talking.{TalkStops}
use Rattle.dr_session.specs.declared.talking.TalkFault.{TalkFault}
use Rattle.dr_session.proofs.TalkLemmas.{err_is, wants_at_once}
use Rattle.dr_session.proofs.talking.talk.Goals as goal

pub returns-in_err-fields-clause-stopped : goal.returns-in_err-fields-clause-stopped
returns-in_err-fields-clause-stopped g c =
    let source = g.S.Source.shows c.args.source.now in
    let out = g.O.Sink.shows c.args.out.now in
    err_is (TalkStops (schema_view c.args.schema.now) source source out out) _ TalkFault.NoMemory c.from_residual.ensures.1 (wants_at_once (schema_view c.args.schema.now) source out)

pub returns-in_err-ground-clause-stopped : goal.returns-in_err-ground-clause-stopped
returns-in_err-ground-clause-stopped g c =
    let source = g.S.Source.shows c.args.source.now in
    let out = g.O.Sink.shows c.args.out.now in
    err_is (TalkStops (schema_view c.args.schema.now) source source out out) _ TalkFault.NoMemory c.from_residual-in_err-ground.ensures.1 (wants_at_once (schema_view c.args.schema.now) source out)
