use Rattle.std.proofs.Common.{◌≡◌, ap, ◌∙◌, subst, sym, length, arith, take, drop, ◌+◌, ◌-◌, ◌<◌, ◌∷◌}
use Rattle.std.proofs.lemmas.List.{length-map}
use Rattle.std.specs.Str.{IsUtf8}
use Rattle.dr_meaning.specs.Record.{text_value}
use Rattle.dr_levels.specs.declared.text_place.TextPlace.{TextPlace}
use Rattle.dr_levels.specs.Texts.{bytes_at, is_text}
use Rattle.dr_levels.specs.Dense.{texts_view}
use Rattle.dr_levels.proofs.TextLemmas.{map_there, all_there, text_parts}
use Rattle.dr_levels.proofs.texts.Texts.get.Goals as goal

pub from_utf8_unchecked-requires : goal.from_utf8_unchecked-requires
from_utf8_unchecked-requires c =
    let s = c.args.self.now in
    let p = c.index.result.now in
    let n : p.start + p.length - p.start ≡ p.length = omega arith in
    let k : c.args.number < length s.places.items = omega (arith, c.requires, length-map s.places.items (λ (q : TextPlace). text_value (bytes_at s.bytes.items q))) in
    let b : take (p.start + p.length - p.start) (drop p.start c.deref.result.now) ≡ bytes_at s.bytes.items p = ap (λ m. take m (drop p.start c.deref.result.now)) n ∙ ap (λ bs. take p.length (drop p.start bs)) c.deref.ensures.value in
    subst IsUtf8 (sym b) (text_parts s.bytes.items p (all_there (is_text s.bytes.items) s.places.items c.args.number p k c.index.ensures s.texts)).1

pub returns : goal.returns
returns c =
    let s = c.args.self.now in
    let p = c.index.result.now in
    let n : p.start + p.length - p.start ≡ p.length = omega arith in
    let k : c.args.number < length s.places.items = omega (arith, c.requires, length-map s.places.items (λ (q : TextPlace). text_value (bytes_at s.bytes.items q))) in
    let b : take (p.start + p.length - p.start) (drop p.start c.deref.result.now) ≡ bytes_at s.bytes.items p = ap (λ m. take m (drop p.start c.deref.result.now)) n ∙ ap (λ bs. take p.length (drop p.start bs)) c.deref.ensures.value in
    map_there (λ (q : TextPlace). text_value (bytes_at s.bytes.items q)) s.places.items c.args.number p k c.index.ensures
    ∙ ap (λ t. text_value t ∷ drop (c.args.number + 1) (texts_view s)) (sym b ∙ sym c.from_utf8_unchecked.ensures)
