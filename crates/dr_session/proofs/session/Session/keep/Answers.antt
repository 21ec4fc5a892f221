use Rattle.dr_nested.specs.SchemaView.{schema_view}
use Rattle.dr_session.proofs.HeardLemmas.{keep_heard}
use Rattle.dr_session.proofs.session.Session.keep.Goals as goal

pub returns-in-Ok : goal.returns-in-Ok
returns-in-Ok g c = record {
  heard = λ w h.
      keep_heard g.B.Room.schema (schema_view c.schema-schema.result.now) w c.args.line.now c.args.self.now.kept c.keep.new.self c.args.self.now.publisher c.new.result c.in-Ok.field-0
      c.schema-schema.ensures h c.in-Ok.ensures c.new.ensures.bytes;
}
