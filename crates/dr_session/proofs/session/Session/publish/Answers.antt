use Rattle.std.proofs.Common.{arith}
use Rattle.dr_nested.specs.SchemaView.{schema_view}
use Rattle.dr_session.proofs.HeardLemmas.{publish_full, publish_heard, file_at, kept_at}
use Rattle.dr_session.proofs.session.Session.publish.Goals as goal

pub returns-then-count : goal.returns-then-count
returns-then-count g c = record {
  heard = λ w h. publish_full g.B.Room.schema w c.args.self.now.kept c.args.self.now.publisher h (omega (arith, c.if-count.true, c.count.ensures));
}

pub returns-in-Ok-published_line : goal.returns-in-Ok-published_line
returns-in-Ok-published_line g c = record {
  heard = λ w h.
      let s = g.B.Room.schema in
      let t = schema_view c.schema-schema.result.now in
      publish_heard s w c.args.self.now.kept c.file.new.self c.args.self.now.publisher c.publish.new.publisher c.in-Ok.bytes.items c.in-Ok-publish.count c.in-Ok-published_line.text h
      (omega (arith, c.if-count.false, c.count.ensures))
      (file_at s t w.kept c.args.self.now.kept c.in-Ok.bytes.items c.schema-schema.ensures h.kept_are (λ k. c.in-Ok.ensures.file w.kept k))
      (kept_at s t _ c.file.new.self c.schema-schema.ensures c.in-Ok.ensures.none) c.in-Ok-publish.ensures.published c.in-Ok-publish.ensures.count c.in-Ok-published_line.ensures;
}
