use Rattle.std.proofs.lemmas.Str.{is_utf8-from_IsUtf8}
use Rattle.dr_json.proofs.raw.lent_text.Goals as goal

pub returns-clause-form : goal.returns-clause-form
returns-clause-form c = is_utf8-from_IsUtf8 c.args.text.now c.utf8.text
