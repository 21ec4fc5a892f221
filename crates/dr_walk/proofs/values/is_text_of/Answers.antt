use Rattle.std.proofs.Common.{sym}
use Rattle.std.proofs.lemmas.Str.{is_utf8-from_IsUtf8}
use Rattle.dr_walk.proofs.values.is_text_of.Goals as goal

pub returns-in-Text : goal.returns-in-Text
returns-in-Text c = rw c.in-Text.is (sym (is_utf8-from_IsUtf8 c.args.text.now c.utf8.text))
