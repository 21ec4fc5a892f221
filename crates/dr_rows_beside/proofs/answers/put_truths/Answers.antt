use Rattle.std.proofs.Common.{◌≡◌, ◌∙◌, ◌++◌, List, ap, map, length, suc, arith, Bool}
use Rattle.std.specs.Prelude.{Option}
use Rattle.dr_meaning.specs.Expression.{is_true}
use Rattle.dr_levels.specs.declared.triplet.ValueRef.{ValueRef}
use Rattle.dr_scalar.specs.OverSlots.{truth_over}
use Rattle.dr_rows_beside.specs.RowsView.{rows_view}
use Rattle.dr_rows_beside.specs.Rows.{slot_at, slots_view}
use Rattle.dr_rows_beside.specs.Answers.{holds_in}
use Rattle.dr_rows_beside.proofs.AnswerLemmas.{one_answered, one_shorter}
use Rattle.dr_rows_beside.proofs.answers.put_truths.Goals as goal

pub rows-preserved : goal.rows-preserved
rows-preserved c =
    let before = rows_view c.rows.rows in
    let after = rows_view c.next.new.self in
    let slots = slots_view c.next.new.self.slots.items in
    let less : length before ≡ suc (length after) = one_shorter before after slots c.in-Some.field-0 c.in-Some.ensures in
    record {
      room = omega (arith, less, c.rows.invariant.room, c.push_reserved.ensures.len, c.push_reserved.ensures.capacity);
      put =
          ap (λ (bs : List Bool). bs ++ map (holds_in c.args.test.now) after) c.push_reserved.ensures.items
          ∙ one_answered c.args.test.now before after slots c.in-Some.field-0 c.rows.out.items c.in_ok-holds.field-0 (c.args.out.now.items ++ map (holds_in c.args.test.now) (rows_view c.args.rows.now))
          c.in-Some.ensures (c.in_ok-holds.ensures ∙ ap (λ (vs : List (Option ValueRef)). is_true (truth_over (slot_at (slots_view vs)) c.args.test.now)) c.deref.ensures.value) c.rows.invariant.put;
    }
