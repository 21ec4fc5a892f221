use Rattle.std.proofs.Common.{sym, subst}
use Rattle.std.proofs.lemmas.List.Elements.{All-nil}
use Rattle.dr_plain.specs.Views.{AreTexts, IsText}
use Rattle.dr_plain.proofs.plain.read_plain.Goals as goal

pub returns-in_ok-append_texts-in-Text-clause-texts : goal.returns-in_ok-append_texts-in-Text-clause-texts
returns-in_ok-append_texts-in-Text-clause-texts c = c.in_ok-append_texts-in-Text.ensures.texts (subst (AreTexts c.args.bytes.now) (sym c.new-texts.ensures.items) (All-nil (IsText c.args.bytes.now)))
