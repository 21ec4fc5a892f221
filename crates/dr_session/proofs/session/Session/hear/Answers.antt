use Rattle.std.proofs.Common.{◌∙◌}
use Rattle.dr_session.specs.Held.{IsSession}
use Rattle.dr_session.proofs.HeardLemmas.{keep_line, ask_line, publish_line, heard_line, hears_so}
use Rattle.dr_session.proofs.SignLemmas.{rest_is}
use Rattle.dr_session.proofs.session.Session.hear.Goals as goal

pub returns-in-Publish : goal.returns-in-Publish
returns-in-Publish g c = record {
  heard = λ w h.
      hears_so _ _ (λ v. IsSession g.B.Room.schema v c.publish.new.self.kept c.publish.new.self.publisher) c.publish.result
      (publish_line g.B.Room.schema w c.args.number c.args.line.now c.if-line-gt-LONGEST_LINE.false c.if-number-gt-MOST_LINES.false c.in-Publish.ensures) (c.publish.ensures.heard w h);
}

pub returns-in-Ask : goal.returns-in-Ask
returns-in-Ask g c = record {
  heard = λ w h.
      hears_so _ _ (λ v. IsSession g.B.Room.schema v c.ask.new.self.kept c.ask.new.self.publisher) c.ask.result
      (ask_line g.B.Room.schema w c.args.number c.args.line.now _ c.if-line-gt-LONGEST_LINE.false c.if-number-gt-MOST_LINES.false (rest_is 63 c.args.line.now c.in-Ask.ensures)) (c.ask.ensures.heard w h);
}

pub returns-in-Keep : goal.returns-in-Keep
returns-in-Keep g c = record {
  heard = λ w h.
      hears_so _ _ (λ v. IsSession g.B.Room.schema v c.keep.new.self.kept c.keep.new.self.publisher) c.keep.result
      (keep_line g.B.Room.schema w c.args.number c.args.line.now _ c.if-line-gt-LONGEST_LINE.false c.if-number-gt-MOST_LINES.false (rest_is 43 c.args.line.now c.in-Keep.ensures)) (c.keep.ensures.heard w h);
}

pub returns-in-Nothing : goal.returns-in-Nothing
returns-in-Nothing g c = record {
  heard = λ w h.
      heard_line g.B.Room.schema w c.args.number c.args.line.now c.if-line-gt-LONGEST_LINE.false c.if-number-gt-MOST_LINES.false ∙ c.in-Nothing.ensures g.B.Room.schema w;
}
