use Rattle.std.proofs.Common.{◌≡◌, ◌∙◌, subst, List, ℕ}
use Rattle.dr_nested.specs.SchemaView.{schema_view}
use Rattle.dr_session.specs.Faults.{problem_view}
use Rattle.dr_session.specs.Talking.{TalkStops}
use Rattle.dr_session.specs.declared.talking.TalkFault.{TalkFault}
use Rattle.dr_top.specs.Ends.{Says}
use Rattle.dr_top.proofs.talking.hold_session.Goals as goal

pub returns-in-Err-Refused-clause-refused : goal.returns-in-Err-Refused-clause-refused
returns-in-Err-Refused-clause-refused g c = λ _.
    let stop : c.in-Err-Refused.field-0 ≡ TalkFault.Refused c.in-Err-Refused.line c.in-Err-Refused.problem = cc (c.in-Err-Refused.field-0-is) in (
      record { line = c.in-Err-Refused.line; fault = problem_view c.in-Err-Refused.problem },
      subst (TalkStops (schema_view c.args.schema.now) (g.S.Source.shows c.args.source.now) (g.S.Source.shows c.talk.new.source) (g.O.Sink.shows c.args.out.now) (g.O.Sink.shows c.talk.new.out)) stop c.in-Err-Refused.ensures.stopped,
      subst (λ (line : List ℕ). Says (g.E.Sink.shows c.args.err.now) (g.E.Sink.shows c.say-in-Err-Refused.new.err) line) (c.bytes.ensures ∙ c.report.ensures) c.say-in-Err-Refused.ensures,
    )
