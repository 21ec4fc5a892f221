use Rattle.std.proofs.Common.{◌≡◌, ◌∙◌, ◌<◌, ◌+◌, [], ◌∷◌, ℕ, List, Option, Some, ap, length, map, subst, sym, get_or, drop}
use Rattle.dr_meaning.specs.Record.{Value}
use Rattle.dr_levels.specs.declared.triplet.ValueRef.{ValueRef}
use Rattle.dr_group.specs.Maps.{tuples_view}
use Rattle.dr_scalar.specs.OverSlots.{expr_over}
use Rattle.dr_scalar.specs.Slots.{slot_value}
use Rattle.dr_rows_beside.specs.ExprRows.{value_in}
use Rattle.dr_rows_beside.specs.Rows.{Row, NextRow, slot_at, slots_view}
use Rattle.dr_rows_beside.specs.RowsView.{rows_view}
use Rattle.dr_columns.specs.Numbers.{put_at, value_puts, tuples_at, LeavesToPut, HasPut}
use Rattle.dr_rows_beside.proofs.SlotLemmas.{slots_seen}
use Rattle.dr_columns.proofs.NumberLemmas.{one_put, among_at, next_value_put, no_more_values}
use Rattle.dr_columns.proofs.taking.take_values.Goals as goal

pub put_taken-requires : goal.put_taken-requires
put_taken-requires c =
    let T = tuples_view c.args.groups.now in
    subst (λ (U : List (List (Option Value))). get_or c.args.numbers.now c.numbers.number-index 0 < length U) (sym c.numbers.invariant.tuples)
    (among_at (length T) c.args.numbers.now c.numbers.number-index 0 c.numbers-test.true c.requires)

pub numbers-preserved : goal.numbers-preserved
numbers-preserved c =
    let old = c.args.groups.now in
    let now = c.numbers.groups in
    let next = c.put_taken.new.groups in
    let T = tuples_view old in
    let i = c.args.aggregate in
    let e = c.args.expression.now in
    let ns = c.args.numbers.now in
    let k = c.numbers.number-index in
    let n = get_or ns k 0 in
    let before = rows_view c.numbers.rows in
    let after = rows_view c.next.new.self in
    let held = c.next.new.self.slots.items in
    let row : NextRow before after (slots_view held) (Some c.in-Some.field-0) = c.in-Some.ensures in
    let v : Option Value = expr_over (slot_at (slots_view held)) e in
    let same : expr_over (slot_value c.deref.result.now) e ≡ v = ap (λ (vs : List (Option ValueRef)). expr_over (slot_value vs) e) c.deref.ensures.value ∙ ap (λ (f : ℕ → Option Value). expr_over f e) (slots_seen held) in
    let all = value_puts i (tuples_at T ns) (map (value_in e) (rows_view c.args.rows.now)) in
    record {
      put = one_put old now next all (value_puts i (tuples_at T (drop (k + 1) ns)) (map (value_in e) after)) (put_at T n i v) c.numbers.invariant.gatherings
          (subst (LeavesToPut old all now) (next_value_put T i ns k 0 v (map (value_in e) after) c.numbers-test.true)
          (subst (λ (rs : List Row). LeavesToPut old all now (value_puts i (tuples_at T (drop k ns)) (map (value_in e) rs))) row c.numbers.invariant.put))
          (subst (λ (w : Option Value). HasPut now (put_at T n i w ∷ []) next) same
          (subst (λ (U : List (List (Option Value))). HasPut now (put_at U n i (expr_over (slot_value c.deref.result.now) e) ∷ []) next) c.numbers.invariant.tuples c.in_ok-put_taken.ensures.put));
      gatherings = c.put_taken.ensures.gatherings ∙ c.numbers.invariant.gatherings;
      tuples = c.put_taken.ensures.tuples ∙ c.numbers.invariant.tuples;
    }

pub returns-in_default-clause-put : goal.returns-in_default-clause-put
returns-in_default-clause-put c =
    let old = c.args.groups.now in
    let T = tuples_view old in
    let i = c.args.aggregate in
    let e = c.args.expression.now in
    let all = value_puts i (tuples_at T c.args.numbers.now) (map (value_in e) (rows_view c.args.rows.now)) in
    subst (LeavesToPut old all c.numbers.groups)
    (no_more_values i (value_in e) (tuples_at T (drop c.numbers.number-index c.args.numbers.now)) (rows_view c.numbers.rows) (rows_view c.next.new.self) (slots_view c.next.new.self.slots.items) c.next.result c.next.ensures c.in_default.not-Some)
    c.numbers.invariant.put
