use Rattle.std.proofs.Common.{◌≡◌, ◌+◌, ◌∙◌, map, length, ap, sym, ℤ, rules, to_z, of_z}
use mir.Syntax.{w64}
use Rattle.dr_meaning.specs.Query.{smaller, larger}
use Rattle.std.specs.Prelude.{Option, Some}
use Rattle.std.proofs.lemmas.List.{length-map}
use Rattle.dr_meaning.specs.Record.{Value, int_value}
use Rattle.dr_partials.specs.Accumulators as meant
use Rattle.dr_group.specs.Views.{accumulator_view, cell_view}
use Rattle.dr_group.specs.TakenValues.{take_each}
use Rattle.dr_group.proofs.TakenLemmas.{becomes_ok, keeps_ok, count_each, least_taken, greatest_taken}
use Rattle.dr_group.proofs.accumulator.Accumulator.take_numbers.Goals as goal

pub returns-in-Count : goal.returns-in-Count
returns-in-Count c =
    let n = c.in-Count.field-0 in
    let zs = c.args.numbers.now in
    let x = accumulator_view c.args.self.now in
    let e : x ≡ meant.counted n = ap accumulator_view c.in-Count.is in
    becomes_ok c.take_rows.result x (accumulator_view c.take_rows.new.self) (meant.join x (meant.counted (length zs))) (take_each x (map (λ (z : ℤ). int_value z) zs)) c.take_rows.ensures
    (ap (λ (y : meant.Accumulator). meant.join y (meant.counted (length zs))) e
    ∙ ap (λ k. meant.counted (n + k)) (sym (length-map zs (λ (z : ℤ). int_value z)))
    ∙ sym (count_each n (map (λ (z : ℤ). int_value z) zs))
    ∙ ap (λ (y : meant.Accumulator). take_each y (map (λ (z : ℤ). int_value z) zs)) (sym e))

pub returns-in-Some : goal.returns-in-Some
returns-in-Some c =
    let v = cell_view c.in-Least.least in
    let k : to_z w64 (of_z w64 c.in-Some.number) ≡ c.in-Some.number = search rules in
    let x = accumulator_view c.args.self.now in
    keeps_ok (λ (y : Option Value). meant.least_of y) c.keep_least.result v (cell_view c.keep_least.new.least) _ (take_each x (map (λ (z : ℤ). int_value z) c.args.numbers.now)) c.keep_least.ensures
    (ap (λ (n : ℤ). meant.least_of (meant.join_options smaller v (Some (int_value n)))) k ∙ least_taken x v c.args.numbers.now c.in-Some.number (ap accumulator_view c.in-Least.is) c.in-Some.ensures)

pub returns-in-Some-greatest_of : goal.returns-in-Some-greatest_of
returns-in-Some-greatest_of c =
    let v = cell_view c.in-Greatest.greatest in
    let k : to_z w64 (of_z w64 c.in-Some-greatest_of.number) ≡ c.in-Some-greatest_of.number = search rules in
    let x = accumulator_view c.args.self.now in
    keeps_ok (λ (y : Option Value). meant.greatest_of y) c.keep_greatest.result v (cell_view c.keep_greatest.new.greatest) _ (take_each x (map (λ (z : ℤ). int_value z) c.args.numbers.now)) c.keep_greatest.ensures
    (ap (λ (n : ℤ). meant.greatest_of (meant.join_options larger v (Some (int_value n)))) k ∙ greatest_taken x v c.args.numbers.now c.in-Some-greatest_of.number (ap accumulator_view c.in-Greatest.is) c.in-Some-greatest_of.ensures)
