use Rattle.std.proofs.Common.{◌≡◌, ℕ, zero, suc, List, [], ◌∷◌, refl, sym, subst, ap, ◌∙◌, true, arith}
use Rattle.std.specs.List.{list_all}
use lib.Utf8.{encode}
use Rattle.std.specs.Str.{is_utf8, chars}
use Rattle.std.proofs.lemmas.Str.{IsUtf8-from_is_utf8}
use Rattle.dr_meaning.specs.Schema.{text_kind}
use Rattle.dr_formats.specs.Plain.{is_writable}
use Rattle.dr_plain.specs.declared.values.TextPlace.{TextPlace}
use Rattle.dr_plain.specs.Views.{AreTexts, text_values}
use Rattle.dr_test_low.proofs.plain_tests.texts_are_written_behind_their_lengths.Goals as goal

abbrev places : List TextPlace
places = record { start = 1; length = 2 } ∷ record { start = 3; length = 0 } ∷ []

abbrev bytes : List ℕ
bytes = 97 ∷ 98 ∷ 99 ∷ []

are_texts : AreTexts bytes places
unfolding is_utf8 chars encode
are_texts zero d h = (omega arith, IsUtf8-from_is_utf8 (98 ∷ 99 ∷ []) refl)
are_texts (suc zero) d h = (omega arith, IsUtf8-from_is_utf8 [] refl)
are_texts (suc (suc k)) d h = absurd (omega (arith, h))

are_short : list_all (is_writable text_kind) (text_values bytes places) ≡ true
unfolding is_utf8 chars encode
are_short = refl

pub write_texts-requires-clause-places : goal.write_texts-requires-clause-places
write_texts-requires-clause-places g c = are_texts

pub write_texts-requires-clause-short : goal.write_texts-requires-clause-short
write_texts-requires-clause-short g c = are_short

pub write_plain-requires-clause-texts : goal.write_plain-requires-clause-texts
write_plain-requires-clause-texts g c = subst (AreTexts bytes) (sym c.in_ok-from_array.ensures.items) are_texts

pub write_plain-requires-clause-writable : goal.write_plain-requires-clause-writable
write_plain-requires-clause-writable g c = ap (λ ps. list_all (is_writable text_kind) (text_values bytes ps)) c.in_ok-from_array.ensures.items ∙ are_short
