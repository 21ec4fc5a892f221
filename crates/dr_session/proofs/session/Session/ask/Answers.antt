use Rattle.dr_nested.specs.SchemaView.{schema_view}
use Rattle.dr_session.specs.Held.{IsSession}
use Rattle.dr_session.proofs.HeardLemmas.{ask_heard}
use Rattle.dr_session.proofs.session.Session.ask.Goals as goal

pub returns-in-Ok : goal.returns-in-Ok
returns-in-Ok g c = record {
  heard = λ w h.
      ask_heard g.B.Room.schema (schema_view c.schema-schema.result.now) w c.args.text.now c.in-Ok.plans (λ v. IsSession g.B.Room.schema v c.answer.new.self.kept c.answer.new.self.publisher) c.answer.result
      c.schema-schema.ensures c.in-Ok.ensures.plans (λ n p. c.answer.ensures.heard w h n p);
}
