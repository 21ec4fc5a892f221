-- Answers of tests in rows.
use Rattle.std.proofs.Common.{◌≡◌, ℕ, zero, suc, List, [], ◌∷◌, ◌++◌, map, length, Bool, false, Option, Some, None, refl, sym, ap, ◌∙◌}
use Rattle.std.specs.Prelude.{option_map}
use Rattle.std.proofs.lemmas.List.{append_assoc}
use Rattle.dr_meaning.specs.Record.{Value, bool_value}
use Rattle.dr_meaning.specs.Expression.{is_true}
use Rattle.dr_levels.specs.declared.triplet.ValueRef.{ValueRef}
use Rattle.dr_plan.specs.declared.expression.Truth.{Truth}
use Rattle.dr_scalar.specs.OverSlots.{truth_over}
use Rattle.dr_scalar.specs.Slots.{slot_value}
use Rattle.dr_rows_beside.specs.Rows.{Row, slot_at, slots_view, NextRow}
use Rattle.dr_rows_beside.specs.Answers.{holds_in}
use Rattle.dr_rows_beside.proofs.SlotLemmas.{slots_seen}

pub none_holds : (t : Truth) (vs : List (Option ValueRef)) (v : Option Bool) → v ≡ None → option_map bool_value v ≡ truth_over (slot_value vs) t → false ≡ is_true (truth_over (slot_at (slots_view vs)) t)
none_holds t vs v e h = ap (λ (x : Option Bool). is_true (option_map bool_value x)) (sym e) ∙ ap is_true h ∙ ap (λ f. is_true (truth_over f t)) (slots_seen vs)

pub some_holds : (t : Truth) (vs : List (Option ValueRef)) (v : Option Bool) (b : Bool) → v ≡ Some b → option_map bool_value v ≡ truth_over (slot_value vs) t → b ≡ is_true (truth_over (slot_at (slots_view vs)) t)
some_holds t vs v b e h = ap (λ (x : Option Bool). is_true (option_map bool_value x)) (sym e) ∙ ap is_true h ∙ ap (λ f. is_true (truth_over f t)) (slots_seen vs)

-- one answer more
pub one_answered : (test : Truth) (before after : List Row) (slots : List (Option Value)) (r : ℕ) (out : List Bool) (b : Bool) (whole : List Bool) → NextRow before after slots (Some r) → b ≡ is_true (truth_over (slot_at slots) test)
    → out ++ map (holds_in test) before ≡ whole → (out ++ b ∷ []) ++ map (holds_in test) after ≡ whole
one_answered test before after slots r out b whole n h e =
    append_assoc out (b ∷ []) (map (holds_in test) after)
    ∙ ap (λ (x : Bool). out ++ x ∷ map (holds_in test) after) h
    ∙ ap (λ (rs : List Row). out ++ map (holds_in test) rs) (sym n)
    ∙ e

pub one_shorter : (before after : List Row) (slots : List (Option Value)) (r : ℕ) → NextRow before after slots (Some r) → length before ≡ suc (length after)
one_shorter before after slots r n = ap (λ (rs : List Row). length rs) n
