use Rattle.std.proofs.Common.{sym, subst}
use Rattle.dr_plain.specs.Views.{HasTexts, AreTexts}
use Rattle.dr_plain.proofs.plain.write_plain.Goals as goal

pub write_texts-requires-clause-places : goal.write_texts-requires-clause-places
write_texts-requires-clause-places c = subst (AreTexts c.args.bytes.now) (sym c.deref-in-Text-Texts.ensures.value) (subst (HasTexts c.args.bytes.now) c.in-Text-Texts.is-1 c.requires.texts)
