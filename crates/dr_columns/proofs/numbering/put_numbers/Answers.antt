use Rattle.std.proofs.Common.{◌≡◌, ◌∙◌, ◌++◌, [], ◌∷◌, ℕ, List, Option, Some, None, map, ap, subst}
use Rattle.std.specs.List.{slice_get}
use Rattle.dr_meaning.specs.Record.{Value}
use Rattle.dr_levels.specs.declared.triplet.ValueRef.{ValueRef}
use Rattle.dr_group.specs.Groups.{put_of}
use Rattle.dr_group.specs.Maps.{tuples_view}
use Rattle.dr_scalar.specs.Slots.{slot_value}
use Rattle.dr_rows_beside.specs.Rows.{Row, NextRow, slot_at, slots_view}
use Rattle.dr_rows_beside.specs.RowsView.{rows_view}
use Rattle.dr_columns.specs.RowPuts.{keys_in, groups_in}
use Rattle.dr_columns.specs.Numbers.{tuples_at, LeavesToPut, HasPut}
use Rattle.dr_rows_beside.proofs.SlotLemmas.{slots_seen}
use Rattle.dr_columns.proofs.NumberLemmas.{one_put, numbered, one_among}
use Rattle.dr_columns.proofs.numbering.put_numbers.Goals as goal

pub rows-preserved : goal.rows-preserved
rows-preserved c =
    let old = c.args.groups.now in
    let now = c.rows.groups in
    let next = c.number_of.new.groups in
    let ks = c.args.keys.now in
    let before = rows_view c.rows.rows in
    let after = rows_view c.next.new.self in
    let held = c.next.new.self.slots.items in
    let slots = slots_view held in
    let t : List (Option Value) = map (slot_at slots) ks in
    let n : NextRow before after slots (Some c.in-Some.field-0) = c.in-Some.ensures in
    let same : map (slot_value c.deref.result.now) ks ≡ t = ap (λ (vs : List (Option ValueRef)). map (slot_value vs) ks) c.deref.ensures.value ∙ ap (λ (f : ℕ → Option Value). map f ks) (slots_seen held) in
    let put : HasPut now (put_of t None ∷ []) next = subst (λ (u : List (Option Value)). HasPut now (put_of u None ∷ []) next) same c.in_ok-number_of.ensures.put in
    let found : slice_get (tuples_view next) c.in_ok-number_of.field-0 ≡ Some t = c.in_ok-number_of.ensures.found ∙ ap Some same in
    let all = groups_in ks (rows_view c.args.rows.now) in
    let whole = map (keys_in ks) (rows_view c.args.rows.now) in
    record {
      put = one_put old now next all (groups_in ks after) (put_of t None) c.rows.invariant.gatherings (subst (λ (rs : List Row). LeavesToPut old all now (groups_in ks rs)) n c.rows.invariant.put) put;
      gatherings = c.number_of.ensures.gatherings ∙ c.rows.invariant.gatherings;
      numbers = numbered (tuples_view now) (tuples_view next) c.rows.out.items c.push.new.self.items c.in_ok-number_of.field-0 t (map (keys_in ks) after) whole c.in_ok-number_of.ensures.stay c.rows.invariant.among found c.in_ok-push.ensures.items
          (subst (λ (rs : List Row). tuples_at (tuples_view now) c.rows.out.items ++ map (keys_in ks) rs ≡ whole) n c.rows.invariant.numbers);
      among = one_among (tuples_view now) (tuples_view next) c.rows.out.items c.push.new.self.items c.in_ok-number_of.field-0 t c.in_ok-number_of.ensures.stay c.rows.invariant.among found c.in_ok-push.ensures.items;
    }
