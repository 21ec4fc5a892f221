use Rattle.std.proofs.Common.{◌∙◌, Bool, map, length, ap, sym, refl, false}
use Rattle.std.proofs.lemmas.List.{length-map}
use Rattle.dr_meaning.specs.Record.{bool_value}
use Rattle.dr_partials.specs.Accumulators.{counted, join}
use Rattle.dr_group.specs.Views.{accumulator_view}
use Rattle.dr_group.specs.TakenValues.{take_each}
use Rattle.dr_group.proofs.TakenLemmas.{becomes_ok, counts_each, one_taken}
use Rattle.dr_group.proofs.accumulator.Accumulator.take_truths.Goals as goal

pub returns-then-counts : goal.returns-then-counts
returns-then-counts c =
    let x = accumulator_view c.args.self.now in
    let bs = c.args.truths.now in
    becomes_ok c.take_rows.result x (accumulator_view c.take_rows.new.self) (join x (counted (length bs))) (take_each x (map (λ (b : Bool). bool_value b) bs)) c.take_rows.ensures
    (ap (λ k. join x (counted k)) (sym (length-map bs (λ (b : Bool). bool_value b))) ∙ counts_each x (map (λ (b : Bool). bool_value b) bs) (sym c.counts.ensures ∙ c.if-counts.true))

pub truths-preserved : goal.truths-preserved
truths-preserved c =
    one_taken (λ (b : Bool). bool_value b) c.args.truths.now c.truths.truth-index false (accumulator_view c.args.self.now) (accumulator_view c.truths.self) (accumulator_view c.take_value.new.self) _
    c.truths-test.true refl c.truths.invariant c.in_ok-take_value.ensures
