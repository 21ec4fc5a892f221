use Rattle.std.proofs.Common.{◌≡◌, ◌<◌, ◌+◌, ◌∷◌, ap, ◌∙◌, sym, map, drop, length, arith, rules, false, get_or}
use Rattle.std.specs.Prelude.{pos}
use Rattle.std.proofs.lemmas.List.{length-map}
use Rattle.dr_meaning.specs.Record.{bool_value, int_value, text_value}
use Rattle.dr_levels.specs.Lent.{lent_values}
use Rattle.dr_levels.specs.Texts.{bytes_at}
use Rattle.dr_levels.specs.declared.text_place.TextPlace.{TextPlace}
use Rattle.dr_rows_beside.proofs.PlaceLemmas.{seen_at}
use Rattle.dr_rows_beside.proofs.lent.value_of.Goals as goal

pub returns-in-Bools : goal.returns-in-Bools
returns-in-Bools c =
    let n = c.args.number in
    let xs = c.in-Bools.truths.now in
    let e : lent_values c.args.values ≡ map bool_value xs = ap lent_values c.in-Bools.is in
    let k : n < length xs = omega (arith, c.requires.within, ap length e, length-map xs bool_value) in
    ap (drop n) e ∙ seen_at bool_value xs n false k ∙ ap (λ vs. bool_value (get_or xs n false) ∷ drop (n + 1) vs) (sym e)

pub returns-in-Integers : goal.returns-in-Integers
returns-in-Integers c =
    let n = c.args.number in
    let xs = c.in-Integers.numbers.now in
    let e : lent_values c.args.values ≡ map int_value xs = ap lent_values c.in-Integers.is in
    let k : n < length xs = omega (arith, c.requires.within, ap length e, length-map xs int_value) in
    ap (drop n) e ∙ seen_at int_value xs n (pos 0) k ∙ ap (λ vs. int_value (get_or xs n (pos 0)) ∷ drop (n + 1) vs) (sym e)
    ∙ ap (λ z. int_value z ∷ drop (n + 1) (lent_values c.args.values)) (search rules)

pub returns-in-Texts : goal.returns-in-Texts
returns-in-Texts c =
    let n = c.args.number in
    let bytes = c.in-Texts.bytes.now in
    let xs = c.in-Texts.places.now in
    let d : TextPlace = record { start = 0; length = 0 } in
    let see = λ (p : TextPlace). text_value (bytes_at bytes p) in
    let e : lent_values c.args.values ≡ map see xs = ap lent_values c.in-Texts.is in
    let k : n < length xs = omega (arith, c.requires.within, ap length e, length-map xs see) in
    ap (drop n) e ∙ seen_at see xs n d k ∙ ap (λ t. text_value t ∷ drop (n + 1) (map see xs)) (sym c.text_at.ensures)
    ∙ ap (λ vs. text_value c.text_at.result.now ∷ drop (n + 1) vs) (sym e)
