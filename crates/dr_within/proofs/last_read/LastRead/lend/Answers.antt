use Rattle.std.proofs.Common.{◌≡◌, length, map, sym, ap, ◌∙◌, arith}
use Rattle.std.specs.Prelude.{option_map}
use Rattle.std.proofs.lemmas.List.{length-map, take_all}
use Rattle.dr_levels.specs.Views.{lent_value}
use Rattle.dr_within.specs.Rows.{last_value, value_in}
use Rattle.dr_within.proofs.RowLemmas.{slots_in}
use Rattle.dr_within.proofs.last_read.LastRead.lend.Goals as goal

pub returns : goal.returns
returns c = λ n ms h.
    let vs = c.args.self.now.values.items in
    let slots = c.values.slots.items in
    let same : map (option_map lent_value) slots ≡ map last_value vs = c.values.invariant ∙ ap (map last_value) (take_all c.values.value-index vs (omega (arith, c.values-test.false, ap length c.deref-value-items.ensures.value))) in
    (sym (length-map slots (option_map lent_value)) ∙ ap length same ∙ length-map vs last_value ∙ h.0, h.1 ∙ ap value_in (sym same) ∙ sym (slots_in slots))
