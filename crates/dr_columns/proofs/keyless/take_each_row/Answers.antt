use Rattle.std.proofs.Common.{◌≡◌, ◌∙◌, ◌<◌, [], ◌∷◌, ℕ, List, Option, Some, ap, length, subst, sym}
use Rattle.dr_meaning.specs.Record.{Value}
use Rattle.dr_levels.specs.declared.triplet.ValueRef.{ValueRef}
use Rattle.dr_partials.specs.Putting.{Put}
use Rattle.dr_group.specs.Groups.{put_of}
use Rattle.dr_group.specs.Maps.{tuples_view}
use Rattle.dr_scalar.specs.OverSlots.{expr_over}
use Rattle.dr_scalar.specs.Slots.{slot_value}
use Rattle.dr_rows_beside.specs.ExprRows.{value_in}
use Rattle.dr_rows_beside.specs.Rows.{Row, NextRow, slot_at, slots_view}
use Rattle.dr_rows_beside.specs.RowsView.{rows_view}
use Rattle.dr_columns.specs.RowPuts.{puts_in}
use Rattle.dr_columns.specs.Numbers.{put_at, LeavesToPut, HasPut}
use Rattle.dr_rows_beside.proofs.SlotLemmas.{slots_seen}
use Rattle.dr_columns.proofs.NumberLemmas.{one_put, is_among, tuple_got}
use Rattle.dr_columns.proofs.keyless.take_each_row.Goals as goal

pub put_taken-requires : goal.put_taken-requires
put_taken-requires c =
    let t : List (Option Value) = [] in
    subst (λ (U : List (List (Option Value))). c.args.group < length U) (sym c.rows.invariant.tuples) (is_among (tuples_view c.args.groups.now) c.args.group t c.requires)

pub rows-preserved : goal.rows-preserved
rows-preserved c =
    let old = c.args.groups.now in
    let now = c.rows.groups in
    let next = c.put_taken.new.groups in
    let i = c.args.aggregate in
    let e = c.args.expression.now in
    let before = rows_view c.rows.rows in
    let after = rows_view c.next.new.self in
    let held = c.next.new.self.slots.items in
    let row : NextRow before after (slots_view held) (Some c.in-Some.field-0) = c.in-Some.ensures in
    let v : Option Value = expr_over (slot_at (slots_view held)) e in
    let t : List (Option Value) = [] in
    let same : expr_over (slot_value c.deref.result.now) e ≡ v = ap (λ (vs : List (Option ValueRef)). expr_over (slot_value vs) e) c.deref.ensures.value ∙ ap (λ (f : ℕ → Option Value). expr_over f e) (slots_seen held) in
    let one : put_at (tuples_view now) c.args.group i v ≡ put_of t (Some (record { aggregate = i; value = v })) =
    ap (λ (T : List (List (Option Value))). put_at T c.args.group i v) c.rows.invariant.tuples ∙ ap (λ (u : List (Option Value)). put_of u (Some (record { aggregate = i; value = v }))) (tuple_got (tuples_view old) c.args.group t c.requires) in
    let ks : List ℕ = [] in
    let all = puts_in ks i (value_in e) (rows_view c.args.rows.now) in
    record {
      put = one_put old now next all (puts_in ks i (value_in e) after) (put_of t (Some (record { aggregate = i; value = v }))) c.rows.invariant.gatherings
          (subst (λ (rs : List Row). LeavesToPut old all now (puts_in ks i (value_in e) rs)) row c.rows.invariant.put)
          (subst (λ (p : Put). HasPut now (p ∷ []) next) one (subst (λ (w : Option Value). HasPut now (put_at (tuples_view now) c.args.group i w ∷ []) next) same c.in_ok-put_taken.ensures.put));
      gatherings = c.put_taken.ensures.gatherings ∙ c.rows.invariant.gatherings;
      tuples = c.put_taken.ensures.tuples ∙ c.rows.invariant.tuples;
    }
