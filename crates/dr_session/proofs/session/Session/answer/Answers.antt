use Rattle.std.proofs.Common.{◌∙◌, subst, List, ℕ}
use mathlib.Core.List.{IsPrefix}
use Rattle.dr_cells.specs.Rows.{rows_view}
use Rattle.dr_session.proofs.HeardLemmas.{answer_heard}
use Rattle.dr_session.proofs.session.Session.answer.Goals as goal

pub returns-in-Ok-answer_lines : goal.returns-in-Ok-answer_lines
returns-in-Ok-answer_lines g c = record {
  heard = λ w h n p.
      answer_heard g.B.Room.schema w n c.args.self.now.kept c.args.self.now.publisher c.confirm.new.publisher c.note-note.result c.learn.new.asker c.query.new.asker (rows_view c.in-Ok.answer.rows) c.in-Ok.answer.at
      c.in-Ok-answer_lines.text h (c.confirm.ensures.publisher ∙ c.note-note.ensures.same) c.note-note.ensures.note c.learn.ensures.noted c.in-Ok.ensures.earlier
      (subst (λ (x : List (List ℕ)). IsPrefix c.query.new.asker x) c.note-note.ensures.same c.confirm.ensures.prefix) (c.in-Ok.ensures.rows n p) c.in-Ok.ensures.at c.in-Ok-answer_lines.ensures;
}
