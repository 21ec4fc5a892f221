-- Whether a test holds without a leaf.
use Rattle.std.proofs.Common.{◌≡◌, ℕ, [], Bool, true, false, Option, Some, None, sym, ap, ◌∙◌}
use Rattle.std.specs.Prelude.{◌||◌, is_some, option_map}
use Rattle.dr_meaning.specs.Record.{bool_value}
use Rattle.dr_meaning.specs.Expression.{is_true}
use Rattle.dr_plan.specs.declared.expression.Truth.{Truth}
use Rattle.dr_scalar.specs.OverSlots.{truth_over}
use Rattle.dr_scalar.specs.Slots.{slot_value}
use Rattle.dr_condition.specs.Parted.{last_read, may_hold}
use Rattle.dr_condition.proofs.PartedLemmas.{constant_test}

pub leaf_holds : (t : Truth) (k : ℕ) → last_read t ≡ Some k → true ≡ may_hold t
leaf_holds t k e = sym (ap (λ (o : Option ℕ). is_some o || is_true (truth_over (λ i. None) t)) e)

settled : (t : Truth) (b : Bool) → last_read t ≡ None → b ≡ is_true (truth_over (slot_value []) t) → b ≡ may_hold t
settled t b e h = h ∙ constant_test t e (slot_value []) ∙ sym (ap (λ (o : Option ℕ). is_some o || is_true (truth_over (λ i. None) t)) e)

pub value_holds : (t : Truth) (v : Option Bool) (b : Bool) → last_read t ≡ None → v ≡ Some b → option_map bool_value v ≡ truth_over (slot_value []) t → b ≡ may_hold t
value_holds t v b e f h = settled t b e (ap (λ (x : Option Bool). is_true (option_map bool_value x)) (sym f) ∙ ap is_true h)

pub null_holds : (t : Truth) (v : Option Bool) → last_read t ≡ None → v ≡ None → option_map bool_value v ≡ truth_over (slot_value []) t → false ≡ may_hold t
null_holds t v e f h = settled t false e (ap (λ (x : Option Bool). is_true (option_map bool_value x)) (sym f) ∙ ap is_true h)
