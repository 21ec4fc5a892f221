use Rattle.dr_sql.proofs.CursorLemmas.{advanced}
use Rattle.dr_sql.proofs.cursor.Cursor.advance.Goals as goal

pub returns-then-self : goal.returns-then-self
returns-then-self c = let s = c.args.self.now in advanced s.tokens.now s.read s.size s.operators c.place-place.result c.place-place.ensures
