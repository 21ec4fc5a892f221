use Rattle.std.proofs.Common.{◌∙◌, map, length, ap, sym, subst, get_or}
use Rattle.std.specs.Str.{IsUtf8}
use Rattle.std.proofs.lemmas.List.{length-map}
use Rattle.dr_meaning.specs.Record.{text_value}
use Rattle.dr_levels.specs.Texts.{bytes_at, is_text}
use Rattle.dr_levels.specs.declared.text_place.TextPlace.{TextPlace}
use Rattle.dr_levels.proofs.TextLemmas.{text_parts, passes_at, sliced}
use Rattle.dr_partials.specs.Accumulators.{counted, join}
use Rattle.dr_group.specs.Views.{accumulator_view}
use Rattle.dr_group.specs.TakenValues.{take_each}
use Rattle.dr_group.proofs.TakenLemmas.{becomes_ok, counts_each, one_taken}
use Rattle.dr_group.proofs.accumulator.Accumulator.take_texts.Goals as goal

pub returns-then-counts : goal.returns-then-counts
returns-then-counts c =
    let x = accumulator_view c.args.self.now in
    let see = λ (p : TextPlace). text_value (bytes_at c.args.bytes.now p) in
    let ps = c.args.places.now in
    becomes_ok c.take_rows.result x (accumulator_view c.take_rows.new.self) (join x (counted (length ps))) (take_each x (map see ps)) c.take_rows.ensures
    (ap (λ k. join x (counted k)) (sym (length-map ps see)) ∙ counts_each x (map see ps) (sym c.counts.ensures ∙ c.if-counts.true))

pub from_utf8_unchecked-requires : goal.from_utf8_unchecked-requires
from_utf8_unchecked-requires c =
    let d : TextPlace = record { start = 0; length = 0 } in
    let bytes = c.args.bytes.now in
    let p = get_or c.args.places.now c.places.place-index d in
    subst IsUtf8 (sym (sliced bytes p)) (text_parts bytes p (passes_at (is_text bytes) c.args.places.now c.places.place-index d c.places-test.true c.requires)).1

pub places-preserved : goal.places-preserved
places-preserved c =
    let d : TextPlace = record { start = 0; length = 0 } in
    let bytes = c.args.bytes.now in
    let p = get_or c.args.places.now c.places.place-index d in
    one_taken (λ (q : TextPlace). text_value (bytes_at bytes q)) c.args.places.now c.places.place-index d (accumulator_view c.args.self.now) (accumulator_view c.places.self) (accumulator_view c.take_value.new.self) (text_value c.from_utf8_unchecked.result.now)
    c.places-test.true (ap (λ t. text_value t) (c.from_utf8_unchecked.ensures ∙ sliced bytes p)) c.places.invariant c.in_ok-take_value.ensures
