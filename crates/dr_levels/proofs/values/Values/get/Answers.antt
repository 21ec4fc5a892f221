use Rattle.std.proofs.Common.{◌≡◌, ◌<◌, ◌∷◌, ◌+◌, ap, ◌∙◌, sym, map, drop, length, arith, rules}
use Rattle.std.proofs.lemmas.List.{length-map}
use Rattle.dr_meaning.specs.Record.{bool_value, int_value}
use Rattle.dr_levels.specs.Dense.{values_view}
use Rattle.dr_levels.proofs.TextLemmas.{map_there}
use Rattle.dr_levels.proofs.values.Values.get.Goals as goal

pub returns-in-Bools : goal.returns-in-Bools
returns-in-Bools c =
    let n = c.args.number in
    let xs = c.in-Bools.truths.items in
    let e : values_view c.args.self.now ≡ map bool_value xs = ap values_view c.in-Bools.is in
    let k : n < length xs = omega (arith, c.requires, ap length e, length-map xs bool_value) in
    ap (drop n) e ∙ map_there bool_value xs n c.index.result.now k c.index.ensures ∙ ap (λ vs. bool_value c.index.result.now ∷ drop (n + 1) vs) (sym e)

pub returns-in-Integers : goal.returns-in-Integers
returns-in-Integers c =
    let n = c.args.number in
    let xs = c.in-Integers.numbers.items in
    let e : values_view c.args.self.now ≡ map int_value xs = ap values_view c.in-Integers.is in
    let k : n < length xs = omega (arith, c.requires, ap length e, length-map xs int_value) in
    ap (drop n) e ∙ map_there int_value xs n c.index-value.result.now k c.index-value.ensures ∙ ap (λ vs. int_value c.index-value.result.now ∷ drop (n + 1) vs) (sym e) ∙ ap (λ z. int_value z ∷ drop (n + 1) (values_view c.args.self.now)) (search rules)
